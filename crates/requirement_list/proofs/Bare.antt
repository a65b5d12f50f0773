-- The packages that an item concerns, where none of their versions are listed.
use Rattle.std.proofs.Common.{◌≡◌, ◌<◌, ℕ, List, [], ◌∷◌, Bool, true, false, ◌&&◌, ◌||◌, if◌then◌else◌, length, map, refl, ap, sym, ◌∙◌, arith, nat_lt, get_or}
use Rattle.std.specs.List.{list_any}
use Rattle.std.proofs.lemmas.Bool.{and_parts, lt-ltb, eqb-true}
use Rattle.lists.proofs.Below.{is_rising-below, has-below}
use Rattle.lists.proofs.Sets.{has-filter, is_rising-filter, rising_same}
use Rattle.lists.specs.Below.{below}
use Rattle.lists.specs.Sets.{has, is_rising}
use Rattle.resolver_model.specs.Problems.{Problem, IsWellFormed, package_of, version_count}
use Rattle.universe_model.specs.Dependencies.{Setting, is_met_in, unmet_in}
use Rattle.universe_model.specs.Meeting.{meets}
use Rattle.universe_model.specs.Versions.{is_of}
use Rattle.dep_fields.specs.Relationships.{Relationship}
use Rattle.requirement_list.specs.Answers.{bare, left_by, met_packages}
use Rattle.requirement_list.specs.Extents.{lists}
use Rattle.requirement_list.specs.Left.{Left}
use Rattle.requirement_list.specs.Settings.{owners_of}
use Rattle.requirement_list.specs.declared.answers.Extent.{Extent}
use Rattle.requirement_list.proofs.Concerned.{version_size}
use Rattle.requirement_list.proofs.Meets.{passes_any, passes_both, passes_owner, passes_there}
use Rattle.requirement_list.proofs.Numbers.{passes}

-- none of their versions are listed
bare-cases : (s : Setting) (item : Relationship) (extent : Extent) (q : ℕ) (qs : List ℕ) (b : Bool) → lists extent q ≡ b
    → (list_any (lists extent) qs ≡ false → map bare qs ≡ map (left_by s item extent) qs) → (b || list_any (lists extent) qs) ≡ false
    → map bare (q ∷ qs) ≡ map (left_by s item extent) (q ∷ qs)
bare-cases s item extent q qs true e rest none = absurd (cc)
bare-cases s item extent q qs false e rest none =
    ap (λ b. let left : Left = record { owner = q; versions = if b then unmet_in s item q else [] } in left ∷ map bare qs) (sym e)
    ∙ ap (λ lefts. left_by s item extent q ∷ lefts) (rest none)

pub bare-left : (s : Setting) (item : Relationship) (extent : Extent) (qs : List ℕ) → list_any (lists extent) qs ≡ false → map bare qs ≡ map (left_by s item extent) qs
bare-left s item extent [] none = refl
bare-left s item extent (q ∷ qs) none = bare-cases s item extent q qs (lists extent q) refl (bare-left s item extent qs) none

-- a package with a version is one
met-range : (s : Setting) (item : Relationship) (p : Problem) → IsWellFormed p → p.owners ≡ owners_of s.versions → p.starts ≡ s.installed
    → (q : ℕ) → is_met_in s item q ≡ true → q < length s.installed
met-range s item p w owners starts q any =
    let m = meets s.native item in
    let there = passes_any (λ v. is_of q v && m v) s.versions any in
    let n = there.0 in
    let parts = and_parts (passes (is_of q) s.versions n) (passes m s.versions n) (sym (passes_both (is_of q) m s.versions n) ∙ there.1) in
    let lt : n < length s.versions = passes_there m s.versions n parts.1 in
    let own : get_or (owners_of s.versions) n 0 ≡ q = eqb-true (get_or (owners_of s.versions) n 0) q (sym (passes_owner q s.versions n lt) ∙ parts.0) in
    let owner : package_of p n ≡ get_or (owners_of s.versions) n 0 = ap (λ os. get_or os n 0) owners in
    let size : version_count p ≡ length s.versions = version_size p s.versions owners in
    let within : n < version_count p = omega (arith, lt, size) in
    omega (arith, own, owner, w.owners n within, ap length starts)

below-cases : (n q : ℕ) (b : Bool) → (b ≡ true → q < n) → b ≡ (b && nat_lt q n)
below-cases n q true within = sym (lt-ltb q n (within refl))
below-cases n q false within = refl

-- rising numbers of all packages with a version that meets an item
pub packages-are : (s : Setting) (item : Relationship) (p : Problem) → IsWellFormed p → p.owners ≡ owners_of s.versions → p.starts ≡ s.installed
    → (qs : List ℕ) → is_rising qs ≡ true → ((q : ℕ) → has qs q ≡ is_met_in s item q) → qs ≡ met_packages s item
packages-are s item p w owners starts qs rises are =
    let count = length s.installed in
    rising_same qs (met_packages s item) rises (is_rising-filter (is_met_in s item) (below count) (is_rising-below count))
    (λ q.
    are q
    ∙ below-cases count q (is_met_in s item q) (met-range s item p w owners starts q)
    ∙ ap (λ b. is_met_in s item q && b) (sym (has-below count q))
    ∙ sym (has-filter (is_met_in s item) (below count) q))
