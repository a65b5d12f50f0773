-- The versions of the packages of stanzas.
use Rattle.std.proofs.Common.{◌≡◌, ℕ, ◌+◌, ◌<◌, Bool, true, ◌&&◌, ◌==◌, List, [], length, get_or, map, ◌∙◌, arith, Some, None, filter, find, eq-eqb, eqb-true}
use Rattle.std.specs.List.{list_any, position_or_len}
use Rattle.std.proofs.lemmas.Bool.{or_left, or_right, and_from}
use Rattle.std.proofs.lemmas.List.Sums.{passes_at_first}
use Rattle.lists.proofs.Tests.{list_any-map}
use Rattle.lists.specs.Distinct.{distinct}
use Rattle.deb_version.specs.Versions.{Parts, parts}
use Rattle.universe_model.specs.Reading.{ReadStanza, Stanzas, all_of}
use Rattle.universe_model.specs.Versions.{Release, Version, names, versions, is_of, is_equal, version_text, release_of, gives_version, is_same_version, releases_of, version_of, package_versions, is_version_of}
use Rattle.laws_universe.proofs.Blocks.{list_any-blocks}
use Rattle.lists.proofs.Distinct.{list_any-distinct}
use Rattle.laws_universe.proofs.Equality.{equal-laws}
use Rattle.laws_universe.proofs.Places.{list_any-weaker, found-kept, kept-front}

-- a version's place, and its package
pub record IsOwn (vs : List Version) (q v : ℕ) : Type 0 where
  pub within : v < length vs
  pub own : (d : Version) → (get_or vs v d).package_number ≡ q

-- the first version that passes a test which only versions of the package pass
pub own-first : (p : Version → Bool) (q : ℕ) (vs : List Version) → ((v : Version) → p v ≡ true → is_of q v ≡ true) → position_or_len p vs < length vs → IsOwn vs q (position_or_len p vs)
own-first p q vs only l = record {
  within = l;
  own = λ d. eqb-true (get_or vs (position_or_len p vs) d).package_number q (only (get_or vs (position_or_len p vs) d) (passes_at_first p vs d l));
}

-- each package has a version
pub has-version : (stanzas : Stanzas) (q : ℕ) → q < length (names stanzas) → list_any (is_of q) (versions stanzas) ≡ true
has-version stanzas q l =
    let f : ℕ → List ℕ → List Version = package_versions (all_of stanzas) in
    let here : 0 + q ≡ q = omega arith in
    let name : List ℕ = get_or (names stanzas) q [] in
    list_any-blocks f (is_of q) 0 (names stanzas) q [] l
    (or_left ((0 + q) == q) (list_any (is_of q) (map (λ release. version_of (0 + q) name (Some release)) (releases_of (all_of stanzas) name))) (eq-eqb (0 + q) q here))

-- whether a version is that of a package and equal to these parts
abbrev pub is_of_parts : ℕ → Parts → Version → Bool
is_of_parts q ps v = is_of q v && is_version_of ps v

-- a stanza that gives a version of the package is equal to one of its versions
has-release : (stanzas : List ReadStanza) (name : List ℕ) (ps : Parts) → list_any (λ x. is_equal (parts (version_text x)) ps) (filter (gives_version name) stanzas) ≡ true
    → list_any (λ (release : Release). is_equal release.parts ps) (releases_of stanzas name) ≡ true
has-release stanzas name ps h =
    let given : List ReadStanza = filter (gives_version name) stanzas in
    list_any-map (λ (release : Release). is_equal release.parts ps) release_of (distinct is_same_version given)
    ∙ list_any-distinct (λ x. is_equal (parts (version_text x)) ps) is_same_version (λ x z same. equal-laws.congr (parts (version_text x)) (parts (version_text z)) ps same) given
    ∙ h

pub has-given : (stanzas : Stanzas) (q : ℕ) (read : ReadStanza) → q < length (names stanzas) → find (gives_version (get_or (names stanzas) q [])) stanzas.status ≡ Some read
    → list_any (is_of_parts q (parts (version_text read))) (versions stanzas) ≡ true
has-given stanzas q read l e =
    let f : ℕ → List ℕ → List Version = package_versions (all_of stanzas) in
    let here : 0 + q ≡ q = omega arith in
    let name : List ℕ = get_or (names stanzas) q [] in
    let ps : Parts = parts (version_text read) in
    let test : ReadStanza → Bool = λ x. is_equal (parts (version_text x)) ps in
    let make : Release → Version = λ release. version_of (0 + q) name (Some release) in
    let release = has-release (all_of stanzas) name ps (kept-front (gives_version name) test stanzas.status stanzas.packages (found-kept (gives_version name) test stanzas.status read e (equal-laws.refl ps))) in
    list_any-blocks f (is_of_parts q ps) 0 (names stanzas) q [] l
    (or_right (is_of_parts q ps (version_of (0 + q) name None)) (list_any (is_of_parts q ps) (map make (releases_of (all_of stanzas) name)))
    (list_any-map (is_of_parts q ps) make (releases_of (all_of stanzas) name)
    ∙ list_any-weaker (λ (release : Release). is_equal release.parts ps) (λ release. is_of_parts q ps (make release)) (λ release same. and_from ((0 + q) == q) (is_equal release.parts ps) (eq-eqb (0 + q) q here) same) (releases_of (all_of stanzas) name) release))
