-- What dependencies are made from, as a call has it.
use Rattle.std.specs.Prelude.{◌≡◌, ℕ, true, List, length, map, nat_lt}
use Rattle.std.specs.List.{list_all}
use Rattle.lists.specs.Sets.{is_rising}
use Rattle.resolver_model.specs.Problems.{Problem}
use Rattle.dep_fields.specs.Relationships.{Relationship}
use Rattle.universe_model.specs.Lists.{numbers_of}
use Rattle.universe_model.specs.Meeting.{meets_any}
use Rattle.meeting_index.specs.Indexes.{Indexed}
use Rattle.universe_model.specs.Versions.{Version}
use Rattle.universe_model.specs.Dependencies.{Setting}
use Rattle.requirement_list.specs.declared.collected.Collected.{Collected}

abbrev pub package_number_of : Version → ℕ
package_number_of v = v.package_number

-- the package of each version
abbrev pub owners_of : List Version → List ℕ
owners_of versions = map package_number_of versions

abbrev pub setting_in : Indexed → Problem → Setting
setting_in index p = record { native = index.native; versions = index.versions; installed = p.starts }

abbrev pub setting_of : Indexed → Collected → Setting
setting_of index c = setting_in index c.builder

-- the targets of a group: they rise, and are versions
pub record AreTargets (index : Indexed) (group : List Relationship) (targets : List ℕ) : Type 0 where
  pub numbers : targets ≡ numbers_of (meets_any index.native group) index.versions
  pub rising : is_rising targets ≡ true
  pub range : list_all (λ v. nat_lt v (length index.versions)) targets ≡ true
