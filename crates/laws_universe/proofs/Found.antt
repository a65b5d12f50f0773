-- What is found in a sound universe: packages by their names, versions by their texts, and soft requirements by their places.
use Rattle.std.proofs.Common.{◌≡◌, ℕ, ◌<◌, Bool, true, false, ◌&&◌, ◌==◌, List, [], length, get_or, refl, sym, ap, ◌∙◌, subst, Some, None, Option, position, eq-eqb, eqb-true}
use Rattle.std.proofs.lemmas.Bool.{and_from, and_parts, false_from_ne_true}
use Rattle.std.proofs.lemmas.Cmp.{nat_list_eq_equiv}
use Rattle.deb_version.specs.Versions.{parts}
use Rattle.ascii.specs.Texts.{is_same}
use Rattle.universe_model.specs.Dependencies.{Requirement}
use Rattle.universe_model.specs.Tokens.{is_recommends_of}
use Rattle.universe_model.specs.Universes.{Known, Universe, package_named, name_of_package, is_of, absent_in, is_text_of, version_in, nothing_known, version_numbered, no_requirement, requirement_numbered}
use Rattle.laws_universe.proofs.Equality.{equal-laws}
use Rattle.laws_universe.proofs.Places.{position-is, position-some}
use Rattle.laws_universe.proofs.Sound.{IsSound, AreUnequal}

pub package-found : (u : Universe) → IsSound u → (q : ℕ) → q < length u.names → package_named u (name_of_package u q) ≡ Some q
package-found u sound q l =
    let name : List ℕ = name_of_package u q in
    position-some (is_same name) u.names q [] l
    (λ k less. nat_list_eq_equiv.symm name (get_or u.names k []) ∙ sound.names_apart k q [] less l)
    (nat_list_eq_equiv.refl name)

-- an earlier version has another package, or a text that is not equal
earlier-other : (q n : ℕ) (text : List ℕ) (earlier : Option (List ℕ)) → (n ≡ q → AreUnequal earlier (Some text)) → ((n == q) && is_text_of (parts text) earlier) ≡ false
earlier-other q n text earlier apart = by (n == q) refl earlier apart
  where
    by : (b : Bool) → (n == q) ≡ b → (earlier : Option (List ℕ)) → (n ≡ q → AreUnequal earlier (Some text)) → (b && is_text_of (parts text) earlier) ≡ false
    by true e None apart = refl
    by true e (Some other) apart = apart (eqb-true n q e)
    by false e earlier apart = refl

pub version-found : (u : Universe) → IsSound u → (v q : ℕ) (text : List ℕ) → v < length u.versions → (version_numbered u v).package_number ≡ q → (version_numbered u v).text ≡ Some text
    → version_in u q (parts text) ≡ Some v
version-found u sound v q text l owner has =
    let test : Known → Bool = λ known. is_of q known && is_text_of (parts text) known.text in
    position-some test u.versions v nothing_known l
    (λ k less.
    earlier-other q (version_numbered u k).package_number text (version_numbered u k).text
    (λ same. subst (AreUnequal (version_numbered u k).text) has (sound.versions_apart k v nothing_known less l (same ∙ sym owner))))
    (and_from (is_of q (version_numbered u v)) (is_text_of (parts text) (version_numbered u v).text) (eq-eqb (version_numbered u v).package_number q owner)
    (ap (is_text_of (parts text)) has ∙ equal-laws.refl (parts text)))

pub absent-found : (u : Universe) → IsSound u → (v q : ℕ) → v < length u.versions → (version_numbered u v).package_number ≡ q → (version_numbered u v).text ≡ None → absent_in u q ≡ v
absent-found u sound v q l owner has =
    position-is (is_of q) u.versions v nothing_known l
    (λ k less.
    false_from_ne_true ((version_numbered u k).package_number == q)
    (λ e.
    let same : (version_numbered u k).package_number ≡ (version_numbered u v).package_number = eqb-true (version_numbered u k).package_number q e ∙ sym owner in
    subst (AreUnequal (version_numbered u k).text) has (sound.versions_apart k v nothing_known less l same)))
    (eq-eqb (version_numbered u v).package_number q owner)

pub recommends-found : (u : Universe) → IsSound u → (d : ℕ) → d < length u.requirements → (requirement_numbered u d).dependency.soft ≡ true
    → position (is_recommends_of (requirement_numbered u d).dependency.source (requirement_numbered u d).group) u.requirements ≡ Some d
recommends-found u sound d l soft =
    let r : Requirement = requirement_numbered u d in
    let v : ℕ = r.dependency.source in
    position-some (is_recommends_of v r.group) u.requirements d no_requirement l
    (λ k less.
    let s : Requirement = requirement_numbered u k in
    false_from_ne_true (is_recommends_of v r.group s)
    (λ e.
    let both = and_parts (s.dependency.soft && (s.dependency.source == v)) (s.group == r.group) e in
    let front = and_parts s.dependency.soft (s.dependency.source == v) both.0 in
    sound.soft_apart k d no_requirement less l front.0 soft (eqb-true s.dependency.source v front.1) (eqb-true s.group r.group both.1)))
    (and_from (r.dependency.soft && (v == v)) (r.group == r.group) (and_from r.dependency.soft (v == v) soft (eq-eqb v v refl)) (eq-eqb r.group r.group refl))
