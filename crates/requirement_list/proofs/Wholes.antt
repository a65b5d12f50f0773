-- The dependencies of all versions, one version after another, and as a whole list.
use Rattle.std.proofs.Common.{◌≡◌, ℕ, List, [], map, ap, sym, subst, ◌∙◌}
use Rattle.std.proofs.lemmas.List.{append-nil}
use Rattle.resolver_model.specs.Problems.{Problem}
use Rattle.meeting_index.specs.Indexes.{Indexed}
use Rattle.universe_model.specs.Dependencies.{Requirement, Setting}
use Rattle.universe_model.specs.Versions.{Version}
use Rattle.universe_model.specs.Universes.{dependency_in}
use Rattle.universe_model.specs.declared.BuildEnd.{BuildEnd}
use Rattle.requirement_list.specs.declared.collected.Collected.{Collected}
use Rattle.requirement_list.specs.declared.RequirementList.{RequirementList}
use Rattle.requirement_list.specs.Installed.{AreInstalled, HasInstalled}
use Rattle.requirement_list.specs.declared.Indexes.{Indexes}
use Rattle.requirement_list.specs.Settings.{setting_of}
use Rattle.requirement_list.specs.Collecting.{HasLeft, HasCome, HasEnded}
use Rattle.requirement_list.specs.RequirementLists.{IsEndOf, IsRequirementList}

-- the setting of an index and of nothing collected
pub same_setting : (index given : Indexed) (c : Collected) (packages : Problem) → index ≡ given → c.builder ≡ packages
    → setting_of index c ≡ record { native = given.native; versions = given.versions; installed = packages.starts }
same_setting index given c packages e b =
    ap (λ (i : Indexed). setting_of i c) e
    ∙ ap (λ (p : Problem). let s : Setting = record { native = given.native; versions = given.versions; installed = p.starts } in s) b

pub whole_end : (rs : List Requirement) (c : Collected) (end : BuildEnd) → HasLeft rs rs c → HasEnded rs c end → IsEndOf rs end
whole_end rs c end left h = h.each rs [] (rw append-nil left)

pub whole_left : (rs : List Requirement) (old new : Collected) → HasLeft rs rs old → HasCome rs [] old new → HasLeft rs [] new
whole_left rs old new left h = h.left rs [] (rw append-nil left)

-- a list over the packages of one problem is one over those of another that has the same
pub list_over : (p q : Problem) (rs : List Requirement) (list : RequirementList) → p.owners ≡ q.owners → p.starts ≡ q.starts → IsRequirementList p rs list → IsRequirementList q rs list
list_over p q rs list owners starts h = record {
  problem = h.problem
      ∙ ap (λ os. let r : Problem = record { owners = os; starts = p.starts; dependencies = map dependency_in rs } in r) owners
      ∙ ap (λ ss. let r : Problem = record { owners = q.owners; starts = ss; dependencies = map dependency_in rs } in r) starts;
  groups = h.groups;
  conflicts = h.conflicts;
  within = h.within;
}

-- the index of the installed ones beside that of all
pub has_installed : (starts native : List ℕ) (versions kept : List Version) (indexes : Indexes) → indexes.all ≡ record { native = native; versions = versions } → indexes.installed ≡ record { native = native; versions = kept }
    → AreInstalled starts versions kept → HasInstalled starts indexes
has_installed starts native versions kept indexes all some h =
    let P : List Version → Type 0 = λ vs. AreInstalled starts vs indexes.installed.versions in
    let Q : List Version → Type 0 = λ ks. AreInstalled starts versions ks in
    record {
      native = ap (λ (i : Indexed). i.native) some ∙ sym (ap (λ (i : Indexed). i.native) all);
      versions = subst P (sym (ap (λ (i : Indexed). i.versions) all)) (subst Q (sym (ap (λ (i : Indexed). i.versions) some)) h);
    }
