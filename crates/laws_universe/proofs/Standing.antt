-- The dependencies of a version stand in order.
use Rattle.std.proofs.Common.{◌≡◌, ℕ, ◌<◌, true, false, not, List, ◌++◌, get_or, map, refl, sym, ◌∙◌, arith, All, AllPairs, Some, None, Option, nat_lt, ltb-true, lt-ltb}
use Rattle.std.proofs.lemmas.Bool.{both_ways}
use Rattle.std.proofs.lemmas.List.Elements.{All-append, All-map}
use Rattle.std.proofs.lemmas.List.Kept.{AllPairs-filter}
use Rattle.lists.proofs.Distinct.{AllPairs-nil}
use Rattle.dep_fields.specs.Relationships.{Relationship}
use Rattle.universe_model.specs.Dependencies.{Requirement, Setting, of_group, recommended, is_broken_now, of_recommends, concerned, avoided, of_conflict, of_conflicts, of_release, of_version, requirements}
use Rattle.universe_model.specs.Lists.{map_from}
use Rattle.universe_model.specs.Reading.{Stanzas}
use Rattle.universe_model.specs.Universes.{installed_in, universe_of}
use Rattle.universe_model.specs.Versions.{Release, Version, concat, names, versions}
use Rattle.laws_universe.specs.Standing.{is_before, StaysBefore}
use Rattle.laws_universe.proofs.Blocks.{AllPairs-append, AllPairs-blocks, AllAcross, AllPairs-map_from, All-flat_map}
use Rattle.laws_universe.proofs.Requirements.{sourced}

-- a dependency that is before each place, and one that is before none
abbrev IsFirst : Requirement → Type 0
IsFirst r = (place : ℕ) → is_before place r ≡ true

abbrev IsLast : Requirement → Type 0
IsLast r = (place : ℕ) → is_before place r ≡ false

first-front : (xs ys : List Requirement) → All IsFirst xs → AllPairs StaysBefore ys → AllPairs StaysBefore (xs ++ ys)
first-front xs ys first pairs =
    AllPairs-append StaysBefore xs ys (λ i j d less l same place later. first i d (omega arith) place) pairs (λ i d k j e l same place later. first i d k place)

last-back : (xs ys : List Requirement) → AllPairs StaysBefore xs → All IsLast ys → AllPairs StaysBefore (xs ++ ys)
last-back xs ys pairs last =
    AllPairs-append StaysBefore xs ys pairs
    (λ i j d less l same place later. absurd (both_ways (is_before place (get_or ys j d)) (last j d l place) later))
    (λ i d k j e l same place later. absurd (both_ways (is_before place (get_or ys j e)) (last j e l place) later))

groups-first : (s : Setting) (source : ℕ) (groups : List (List Relationship)) → All IsFirst (map (of_group s source) groups)
groups-first s source groups = All-map IsFirst (of_group s source) groups (λ k d l place. refl)

conflicts-last : (s : Setting) (source own : ℕ) (groups : List (List Relationship)) → All IsLast (of_conflicts s source own groups)
conflicts-last s source own groups =
    All-flat_map IsLast (of_conflict s source own) (concat groups) (λ item. All-map IsLast (avoided s source item) (concerned s own item) (λ k d l place. refl))

less-before : (m n place : ℕ) → m < n → nat_lt n place ≡ true → nat_lt m place ≡ true
less-before m n place less later = let high : n < place = ltb-true n place later in lt-ltb m place (omega arith)

recommends-rise : (s : Setting) (source : ℕ) (groups : List (List Relationship)) → AllPairs StaysBefore (of_recommends s source groups)
recommends-rise s source groups =
    AllPairs-filter StaysBefore (λ r. not (is_broken_now s r)) (map_from (recommended s source) 1 groups)
    (AllPairs-map_from (recommended s source) StaysBefore (λ m n x y less same place later. less-before m n place less later) 1 groups)

release-ordered : (s : Setting) (source own : ℕ) (release : Option Release) → AllPairs StaysBefore (of_release s source own release)
release-ordered s source own None = AllPairs-nil StaysBefore
release-ordered s source own (Some release) =
    let conflicts : List Requirement = of_conflicts s source own release.conflicts ++ of_conflicts s source own release.breaks in
    let back : List Requirement = of_recommends s source release.recommends ++ conflicts in
    first-front (map (of_group s source) release.pre_depends) (map (of_group s source) release.depends ++ back) (groups-first s source release.pre_depends)
    (first-front (map (of_group s source) release.depends) back (groups-first s source release.depends)
    (last-back (of_recommends s source release.recommends) conflicts (recommends-rise s source release.recommends)
    (All-append IsLast (of_conflicts s source own release.conflicts) (of_conflicts s source own release.breaks) (conflicts-last s source own release.conflicts) (conflicts-last s source own release.breaks))))

sources-other : (s : Setting) (m n : ℕ) (x y : Version) → m < n → AllAcross StaysBefore (of_version s m x) (of_version s n y)
sources-other s m n x y less i d k j e l same place later =
    let left : (get_or (of_version s m x) i d).dependency.source ≡ m = sourced s m x i d k in
    let right : (get_or (of_version s n y) j e).dependency.source ≡ n = sourced s n y j e l in
    let both : m ≡ n = sym left ∙ same ∙ right in
    absurd (omega arith)

requirements-ordered : (s : Setting) → AllPairs StaysBefore (requirements s)
requirements-ordered s = AllPairs-blocks (of_version s) StaysBefore (λ n v. release-ordered s n v.package_number v.release) (sources-other s) 0 s.versions

pub dependencies-ordered : (stanzas : Stanzas) (native : List ℕ) → AllPairs StaysBefore (universe_of native stanzas).requirements
dependencies-ordered stanzas native =
    requirements-ordered (record { native = native; versions = versions stanzas; installed = installed_in stanzas (names stanzas) (versions stanzas) })
