-- A universe that is made of the lists of its parts is that of the stanzas.
use Rattle.std.proofs.Common.{◌≡◌, ◌⊎◌, inl, inr, ℕ, Bool, List, [], map, length, Some, None, option_map, sym, ap, ◌∙◌, subst, AllPairs}
use Rattle.std.proofs.lemmas.List.{length-map}
use Rattle.std.specs.Option.{option_or}
use Rattle.lists.specs.Below.{below}
use Rattle.laws_universe.specs.Standing.{StandApart, StaysBefore}
use Rattle.problem.specs.Places.{IsOneOfEach}
use Rattle.resolver_model.specs.Problems.{Problem, package_count, dependency_count}
use Rattle.requirement_list.specs.RequirementLists.{requirement_refusal}
use Rattle.universe_model.specs.Dependencies.{Requirement, requirements}
use Rattle.universe_model.specs.Faults.{build_end}
use Rattle.universe_model.specs.Limits.{limit_past}
use Rattle.universe_model.specs.Reading.{Stanzas}
use Rattle.universe_model.specs.Universes.{Universe, Known, dependency_in, known, owner_of, installed_in, universe_of, problem_of}
use Rattle.universe_model.specs.Versions.{Version, names, versions, candidate_of, is_held}
use Rattle.universe_model.specs.declared.BuildEnd.{BuildEnd}
use Rattle.version_list.specs.Listings.{listing_refusal, package_number_of}
use Rattle.universe.specs.Views.{requirements_of}
use Rattle.universe.proofs.Built.{owners-known, limits-of, or-first, or-last, names-counted}
use Rattle.universe.proofs.Zips.{group_in, conflict_in, requirements_of-parts}

-- the dependencies of versions and installed versions
abbrev pub rows : List ℕ → List Version → List ℕ → List Requirement
rows native vs installed = requirements (record { native = native; versions = vs; installed = installed })

-- a problem with these dependencies
abbrev pub with_rows : Problem → List Requirement → Problem
with_rows p rs = record { owners = p.owners; starts = p.starts; dependencies = map dependency_in rs }

abbrev pub made : List ℕ → List (List ℕ) → List ℕ → List ℕ → List Bool → List Known → List Requirement → Universe
made native ns installed cs hs ks rs =
    record { native = native; names = ns; installed = installed; candidates = cs; held = hs; versions = ks; requirements = rs }

-- the end of the lists of packages and versions is one of the whole
pub first-end : (native : List ℕ) (stanzas : Stanzas) (end want : BuildEnd) → (end ≡ want) ⊎ (option_map build_end (listing_refusal stanzas) ≡ Some end)
    → (end ≡ want) ⊎ (option_map build_end (limit_past (problem_of (universe_of native stanzas))) ≡ Some end)
first-end native stanzas end want (inl e) = inl e
first-end native stanzas end want (inr e) =
    inr (ap (option_map build_end) (limits-of native stanzas)
    ∙ or-first build_end (listing_refusal stanzas) (requirement_refusal (rows native (versions stanzas) (installed_in stanzas (names stanzas) (versions stanzas)))) end e)

module _ (native : List ℕ) (stanzas : Stanzas) (lv : List Version) (b : Problem)
    (listed : lv ≡ versions stanzas)
    (packages : b ≡ record { owners = map package_number_of (versions stanzas); starts = installed_in stanzas (names stanzas) (versions stanzas); dependencies = [] }) where
  starts-same : b.starts ≡ installed_in stanzas (names stanzas) (versions stanzas)
  starts-same = ap (λ (p : Problem). p.starts) packages

  -- the dependencies that are listed are those of the universe
  pub rows-same : rows native lv b.starts ≡ rows native (versions stanzas) (installed_in stanzas (names stanzas) (versions stanzas))
  rows-same = ap (λ vs. rows native vs b.starts) listed ∙ ap (rows native (versions stanzas)) starts-same

  pub problem-same : (lp : Problem) → lp ≡ with_rows b (rows native lv b.starts) → lp ≡ problem_of (universe_of native stanzas)
  problem-same lp is =
      is
      ∙ ap (λ (p : Problem). with_rows p (rows native lv b.starts)) packages
      ∙ ap (λ rs. with_rows (record { owners = map package_number_of (versions stanzas); starts = installed_in stanzas (names stanzas) (versions stanzas); dependencies = [] }) rs) rows-same
      ∙ ap (λ os. with_rows (record { owners = os; starts = installed_in stanzas (names stanzas) (versions stanzas); dependencies = [] })
      (rows native (versions stanzas) (installed_in stanzas (names stanzas) (versions stanzas)))) (owners-known (versions stanzas))

  -- in three tables they are those of the universe too
  pub requirements-same : (lp : Problem) (gs : List ℕ) (xs : List Bool) → lp ≡ with_rows b (rows native lv b.starts) → gs ≡ map group_in (rows native lv b.starts)
      → xs ≡ map conflict_in (rows native lv b.starts) → requirements_of lp.dependencies gs xs ≡ (universe_of native stanzas).requirements
  requirements-same lp gs xs p g x =
      let rs = rows native lv b.starts in
      ap (λ (q : Problem). requirements_of q.dependencies gs xs) p
      ∙ ap (λ groups. requirements_of (map dependency_in rs) groups xs) g
      ∙ ap (λ conflicts. requirements_of (map dependency_in rs) (map group_in rs) conflicts) x
      ∙ requirements_of-parts rs
      ∙ rows-same

  pub requirements-ordered : (lp : Problem) (gs : List ℕ) (xs : List Bool) → lp ≡ with_rows b (rows native lv b.starts) → gs ≡ map group_in (rows native lv b.starts)
      → xs ≡ map conflict_in (rows native lv b.starts) → AllPairs StaysBefore (universe_of native stanzas).requirements → AllPairs StaysBefore (requirements_of lp.dependencies gs xs)
  requirements-ordered lp gs xs p g x ordered = subst (AllPairs StaysBefore) (sym (requirements-same lp gs xs p g x)) ordered

  -- no two of the versions that are kept are equal
  pub versions-apart : (ks : List Known) → ks ≡ map known lv → AllPairs StandApart (universe_of native stanzas).versions → AllPairs StandApart ks
  versions-apart ks k apart = subst (AllPairs StandApart) (sym (k ∙ ap (map known) listed)) apart

  pub universe-same : (ns : List (List ℕ)) (cs : List ℕ) (hs : List Bool) (ks : List Known) (lp : Problem) (gs : List ℕ) (xs : List Bool)
      → ns ≡ names stanzas → cs ≡ map (candidate_of (versions stanzas)) (below (length (names stanzas))) → hs ≡ map (is_held stanzas.status) (names stanzas)
      → ks ≡ map known lv → lp ≡ with_rows b (rows native lv b.starts) → gs ≡ map group_in (rows native lv b.starts) → xs ≡ map conflict_in (rows native lv b.starts)
      → made native ns lp.starts cs hs ks (requirements_of lp.dependencies gs xs) ≡ universe_of native stanzas
  universe-same ns cs hs ks lp gs xs n c h k p g x =
      let installed = installed_in stanzas (names stanzas) (versions stanzas) in
      let starts = ap (λ (q : Problem). q.starts) p ∙ starts-same in
      ap (λ z. made native z lp.starts cs hs ks (requirements_of lp.dependencies gs xs)) n
      ∙ ap (λ z. made native (names stanzas) z cs hs ks (requirements_of lp.dependencies gs xs)) starts
      ∙ ap (λ z. made native (names stanzas) installed z hs ks (requirements_of lp.dependencies gs xs)) c
      ∙ ap (λ z. made native (names stanzas) installed (map (candidate_of (versions stanzas)) (below (length (names stanzas)))) z ks (requirements_of lp.dependencies gs xs)) h
      ∙ ap (λ z. made native (names stanzas) installed (map (candidate_of (versions stanzas)) (below (length (names stanzas)))) (map (is_held stanzas.status) (names stanzas)) z (requirements_of lp.dependencies gs xs)) (k ∙ ap (map known) listed)
      ∙ ap (λ z. made native (names stanzas) installed (map (candidate_of (versions stanzas)) (below (length (names stanzas)))) (map (is_held stanzas.status) (names stanzas)) (map known (versions stanzas)) z) (requirements-same lp gs xs p g x)

  pub candidates-own : (lp : Problem) (cs : List ℕ) → lp ≡ with_rows b (rows native lv b.starts) → cs ≡ map (candidate_of (versions stanzas)) (below (length (names stanzas)))
      → IsOneOfEach (problem_of (universe_of native stanzas)) (universe_of native stanzas).candidates → IsOneOfEach lp cs
  candidates-own lp cs p c own =
      subst (λ q. IsOneOfEach q cs) (sym (problem-same lp p)) (subst (λ z. IsOneOfEach (problem_of (universe_of native stanzas)) z) (sym c) own)

  -- the owners of a problem that is listed so, by what is known of versions
  pub owners-same : (lp : Problem) (ks : List Known) → lp ≡ with_rows b (rows native lv b.starts) → ks ≡ map known lv → lp.owners ≡ map owner_of ks
  owners-same lp ks p k =
      ap (λ (q : Problem). q.owners) p ∙ ap (λ (q : Problem). q.owners) packages ∙ owners-known (versions stanzas)
      ∙ ap (λ vs. map owner_of (map known vs)) (sym listed) ∙ ap (map owner_of) (sym k)

  pub count-of-packages : (lp : Problem) → lp ≡ with_rows b (rows native lv b.starts) → package_count lp ≡ length (names stanzas)
  count-of-packages lp p = ap (λ (q : Problem). length q.starts) p ∙ ap length starts-same ∙ names-counted native stanzas

  pub count-of-dependencies : {A : Type 0} (lp : Problem) (f : Requirement → A) (xs : List A) → lp ≡ with_rows b (rows native lv b.starts) → xs ≡ map f (rows native lv b.starts) → length xs ≡ dependency_count lp
  count-of-dependencies lp f xs p x =
      ap length x ∙ length-map (rows native lv b.starts) f ∙ sym (length-map (rows native lv b.starts) dependency_in) ∙ ap (λ (q : Problem). length q.dependencies) (sym p)

  -- ---- ends

  pub last-end : (end want : BuildEnd) → listing_refusal stanzas ≡ None → (end ≡ want) ⊎ (option_map build_end (requirement_refusal (rows native lv b.starts)) ≡ Some end)
      → (end ≡ want) ⊎ (option_map build_end (limit_past (problem_of (universe_of native stanzas))) ≡ Some end)
  last-end end want within (inl e) = inl e
  last-end end want within (inr e) =
      inr (ap (option_map build_end) (limits-of native stanzas)
      ∙ or-last build_end (listing_refusal stanzas) (requirement_refusal (rows native (versions stanzas) (installed_in stanzas (names stanzas) (versions stanzas)))) end within
      (ap (λ rs. option_map build_end (requirement_refusal rs)) (sym rows-same) ∙ e))

  pub no-end : listing_refusal stanzas ≡ None → requirement_refusal (rows native lv b.starts) ≡ None → limit_past (problem_of (universe_of native stanzas)) ≡ None
  no-end first last =
      limits-of native stanzas
      ∙ ap (λ o. option_or o (requirement_refusal (rows native (versions stanzas) (installed_in stanzas (names stanzas) (versions stanzas))))) first
      ∙ ap requirement_refusal (sym rows-same) ∙ last
