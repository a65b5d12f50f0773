-- The soft requirements of versions are of versions with a text, and apart.
use Rattle.std.proofs.Common.{◌≡◌, ℕ, ◌+◌, ◌<◌, ◌≤◌, false, not, List, ◌++◌, length, get_or, map, refl, sym, ap, ◌∙◌, arith, All, AllPairs, Some, None, Option, option_map}
use Rattle.std.proofs.lemmas.Bool.{both_ways}
use Rattle.std.proofs.lemmas.List.{get_or-map, length-map}
use Rattle.std.proofs.lemmas.List.Elements.{All-nil, All-append, All-filter, All-map}
use Rattle.std.proofs.lemmas.List.Kept.{AllPairs-filter}
use Rattle.lists.proofs.Distinct.{AllPairs-nil}
use Rattle.dep_fields.specs.Relationships.{Relationship}
use Rattle.universe_model.specs.Dependencies.{Requirement, Setting, of_group, recommended, is_broken_now, of_recommends, concerned, avoided, of_conflict, of_conflicts, of_release, of_version, requirements}
use Rattle.universe_model.specs.Limits.{most_groups}
use Rattle.universe_model.specs.Lists.{map_from}
use Rattle.universe_model.specs.Universes.{Known, Universe, known, nothing_known, version_numbered}
use Rattle.universe_model.specs.Versions.{Release, Version, concat}
use Rattle.laws_universe.proofs.Blocks.{AllPairs-append, AllPairs-blocks, AllAcross, All-blocks, All-map_from, AllPairs-map_from, All-flat_map}
use Rattle.laws_universe.proofs.Releases.{IsOptionWell, IsVersionWell}
use Rattle.laws_universe.proofs.Sound.{IsPlacedIfSoft, HaveOtherPlaces}

-- ---- what holds of all requirements of a release

-- P holds of a requirement with this source, where it is hard, and where its group has one of `count` places
record HoldsFrom (P : Requirement → Type 0) (source count : ℕ) : Type 0 where
  hard : (r : Requirement) → r.dependency.source ≡ source → r.dependency.soft ≡ false → P r
  soft : (r : Requirement) → r.dependency.source ≡ source → 1 ≤ r.group → r.group ≤ count → P r

module _ (P : Requirement → Type 0) (s : Setting) (source count : ℕ) (holds : HoldsFrom P source count) where
  All-groups : (groups : List (List Relationship)) → All P (map (of_group s source) groups)
  All-groups groups = All-map P (of_group s source) groups (λ k d l. holds.hard (of_group s source (get_or groups k d)) refl refl)

  All-recommends : (groups : List (List Relationship)) → length groups ≤ count → All P (of_recommends s source groups)
  All-recommends groups few =
      All-filter (λ r. not (is_broken_now s r)) P (map_from (recommended s source) 1 groups)
      (All-map_from (recommended s source) P 1 groups (λ k group l. holds.soft (recommended s source (1 + k) group) refl (omega arith) (omega arith)))

  All-conflicts : (own : ℕ) (groups : List (List Relationship)) → All P (of_conflicts s source own groups)
  All-conflicts own groups =
      All-flat_map P (of_conflict s source own) (concat groups)
      (λ item. All-map P (avoided s source item) (concerned s own item) (λ k d l. holds.hard (avoided s source item (get_or (concerned s own item) k d)) refl refl))

  All-behind : (own : ℕ) (release : Release) → length release.recommends ≤ count
      → All P (of_recommends s source release.recommends ++ (of_conflicts s source own release.conflicts ++ of_conflicts s source own release.breaks))
  All-behind own release few =
      All-append P (of_recommends s source release.recommends) (of_conflicts s source own release.conflicts ++ of_conflicts s source own release.breaks)
      (All-recommends release.recommends few)
      (All-append P (of_conflicts s source own release.conflicts) (of_conflicts s source own release.breaks) (All-conflicts own release.conflicts) (All-conflicts own release.breaks))

  All-release : (own : ℕ) (release : Release) → length release.recommends ≤ count → All P (of_release s source own (Some release))
  All-release own release few =
      let back : List Requirement = of_recommends s source release.recommends ++ (of_conflicts s source own release.conflicts ++ of_conflicts s source own release.breaks) in
      All-append P (map (of_group s source) release.pre_depends) (map (of_group s source) release.depends ++ back) (All-groups release.pre_depends)
      (All-append P (map (of_group s source) release.depends) back (All-groups release.depends) (All-behind own release few))

-- ---- sources and places

pub sourced : (s : Setting) (source : ℕ) (v : Version) → All (λ (r : Requirement). r.dependency.source ≡ source) (of_version s source v)
sourced s source v = by v.release
  where
    P : Requirement → Type 0
    P r = r.dependency.source ≡ source

    by : (release : Option Release) → All (λ (r : Requirement). r.dependency.source ≡ source) (of_release s source v.package_number release)
    by None = All-nil (λ (r : Requirement). r.dependency.source ≡ source)
    by (Some release) =
        All-release (λ (r : Requirement). r.dependency.source ≡ source) s source (length release.recommends)
        (record { hard = λ r same hard. same; soft = λ r same low high. same }) v.package_number release (omega arith)

placed : (u : Universe) (s : Setting) (source own n : ℕ) (release : Option Release) → source < length u.versions → (version_numbered u source).text ≡ option_map (λ (release : Release). release.text) release
    → n < most_groups → IsOptionWell n release → All (IsPlacedIfSoft u) (of_release s source own release)
placed u s source own n None inside has small well = All-nil (IsPlacedIfSoft u)
placed u s source own n (Some release) inside has small well =
    All-release (IsPlacedIfSoft u) s source (length release.recommends) (record {
      hard = λ r same hard soft. absurd (cc);
      soft = λ r same low high soft. record {
        within = omega (arith, same, inside);
        text = release.text;
        has_text = ap (λ k. (version_numbered u k).text) same ∙ has;
        low = low;
        high = omega (arith, well.few);
      };
    }) own release (omega arith)

pub requirements-placed : (u : Universe) (s : Setting) (count n : ℕ) → u.versions ≡ map known s.versions → n < most_groups → All (IsVersionWell count n) s.versions
    → All (IsPlacedIfSoft u) (requirements s)
requirements-placed u s count n same small well =
    All-blocks (of_version s) (IsPlacedIfSoft u) 0 s.versions
    (λ k d l.
    let v : Version = get_or s.versions k d in
    let here : 0 + k ≡ k = omega arith in
    let inside : 0 + k < length u.versions = omega (arith, ap length same, length-map s.versions known) in
    let at : version_numbered u (0 + k) ≡ known v =
    ap (version_numbered u) here ∙ ap (λ (vs : List Known). get_or vs k nothing_known) same ∙ get_or-map known s.versions k d nothing_known l
    in placed u s (0 + k) v.package_number n v.release inside (ap (λ (x : Known). x.text) at) small (well k d l).release)

-- ---- no two soft ones have one source and one place

abbrev IsHard : Requirement → Type 0
IsHard r = r.dependency.soft ≡ false

hard-front : (xs ys : List Requirement) → All IsHard xs → AllPairs HaveOtherPlaces ys → AllPairs HaveOtherPlaces (xs ++ ys)
hard-front xs ys hard pairs =
    AllPairs-append HaveOtherPlaces xs ys (λ i j d less l soft. absurd (both_ways (get_or xs i d).dependency.soft (hard i d (omega arith)) soft)) pairs
    (λ i d k j e l soft. absurd (both_ways (get_or xs i d).dependency.soft (hard i d k) soft))

hard-back : (xs ys : List Requirement) → AllPairs HaveOtherPlaces xs → All IsHard ys → AllPairs HaveOtherPlaces (xs ++ ys)
hard-back xs ys pairs hard =
    AllPairs-append HaveOtherPlaces xs ys pairs (λ i j d less l soft other. absurd (both_ways (get_or ys j d).dependency.soft (hard j d l) other))
    (λ i d k j e l soft other. absurd (both_ways (get_or ys j e).dependency.soft (hard j e l) other))

groups-hard : (s : Setting) (source : ℕ) (groups : List (List Relationship)) → All IsHard (map (of_group s source) groups)
groups-hard s source groups = All-map IsHard (of_group s source) groups (λ k d l. refl)

conflicts-hard : (s : Setting) (source own : ℕ) (groups : List (List Relationship)) → All IsHard (of_conflicts s source own groups)
conflicts-hard s source own groups =
    All-flat_map IsHard (of_conflict s source own) (concat groups) (λ item. All-map IsHard (avoided s source item) (concerned s own item) (λ k d l. refl))

recommends-apart : (s : Setting) (source : ℕ) (groups : List (List Relationship)) → AllPairs HaveOtherPlaces (of_recommends s source groups)
recommends-apart s source groups =
    AllPairs-filter HaveOtherPlaces (λ r. not (is_broken_now s r)) (map_from (recommended s source) 1 groups)
    (AllPairs-map_from (recommended s source) HaveOtherPlaces (λ m n x y less soft other same place. omega arith) 1 groups)

release-apart : (s : Setting) (source own : ℕ) (release : Option Release) → AllPairs HaveOtherPlaces (of_release s source own release)
release-apart s source own None = AllPairs-nil HaveOtherPlaces
release-apart s source own (Some release) =
    let conflicts : List Requirement = of_conflicts s source own release.conflicts ++ of_conflicts s source own release.breaks in
    let back : List Requirement = of_recommends s source release.recommends ++ conflicts in
    hard-front (map (of_group s source) release.pre_depends) (map (of_group s source) release.depends ++ back) (groups-hard s source release.pre_depends)
    (hard-front (map (of_group s source) release.depends) back (groups-hard s source release.depends)
    (hard-back (of_recommends s source release.recommends) conflicts (recommends-apart s source release.recommends)
    (All-append IsHard (of_conflicts s source own release.conflicts) (of_conflicts s source own release.breaks) (conflicts-hard s source own release.conflicts) (conflicts-hard s source own release.breaks))))

sources-apart : (s : Setting) (m n : ℕ) (x y : Version) → m < n → AllAcross HaveOtherPlaces (of_version s m x) (of_version s n y)
sources-apart s m n x y less i d k j e l soft other same place =
    let left : (get_or (of_version s m x) i d).dependency.source ≡ m = sourced s m x i d k in
    let right : (get_or (of_version s n y) j e).dependency.source ≡ n = sourced s n y j e l in
    let both : m ≡ n = sym left ∙ same ∙ right in
    omega arith

pub requirements-apart : (s : Setting) → AllPairs HaveOtherPlaces (requirements s)
requirements-apart s = AllPairs-blocks (of_version s) HaveOtherPlaces (λ n v. release-apart s n v.package_number v.release) (sources-apart s) 0 s.versions
