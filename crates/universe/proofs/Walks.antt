-- What a walk over versions finds, and where absent stands.
use Rattle.std.proofs.Common.{◌≡◌, ◌<◌, ℕ, zero, suc, Bool, true, false, cond, List, [], ◌∷◌, Some, None, length, map, arith, sym, ap, ◌∙◌, get_or, IsTrue, eq-eqb, eqb-true, le-ltb}
use Rattle.std.proofs.lemmas.Bool.{and_parts, cond-false, false_from_ne_true}
use Rattle.std.proofs.lemmas.List.{length-map}
use Rattle.std.proofs.lemmas.List.Sums.{position_or_len_is}
use Rattle.std.proofs.Math.Dec.{ltb}
use Rattle.std.specs.List.{list_all, position, position_or_len}
use Rattle.deb_version.specs.Versions.{is_version}
use Rattle.problem.specs.Places.{absent_of}
use Rattle.problem.proofs.Ranges.{place_from, absent_of-range, absent_of-own}
use Rattle.resolver_model.specs.Problems.{Problem, IsWellFormed, package_of, package_count, version_count}
use Rattle.laws_universe.proofs.Places.{position-is}
use Rattle.universe_model.specs.Universes.{Known, Universe, is_of, owner_of, nothing_known, version_numbered, absent_in}
use Rattle.universe.specs.Views.{is_sound, is_text_sound}
use Rattle.universe.proofs.Zips.{at-map}

pub position-none : {A : Type 0} (p : A → Bool) (xs : List A) (d : A) → ((k : ℕ) → k < length xs → p (get_or xs k d) ≡ false) → position p xs ≡ None
position-none p xs d none =
    let all : position_or_len p xs ≡ length xs = position_or_len_is p xs (length xs) d (omega arith) none (λ h. absurd (omega (arith, h))) in
    rw all (past (length xs))
  where
    past : (n : ℕ) → cond (ltb n n) (Some n) None ≡ None
    past n = cond-false (ltb n n) (Some n) None (le-ltb n n (omega arith))

module _ (u : Universe) (p : Problem) (owners : p.owners ≡ map owner_of u.versions) (formed : IsWellFormed p) where
  -- the package of a version, in the problem and in the universe
  package-same : (k : ℕ) → package_of p k ≡ (version_numbered u k).package_number
  package-same k = ap (λ xs. get_or xs k 0) owners ∙ at-map owner_of u.versions k nothing_known

  pub count-same : version_count p ≡ length u.versions
  count-same = ap length owners ∙ length-map u.versions owner_of

  -- absent is the first version of its package
  pub absent-found : (q : ℕ) → q < package_count p → absent_in u q ≡ absent_of p q
  absent-found q l =
      position-is (is_of q) u.versions (absent_of p q) nothing_known (omega (arith, absent_of-range p formed q l, count-same))
      (λ k less. false_from_ne_true (is_of q (version_numbered u k))
      (λ e. omega (arith, less, (place_from p formed q k (omega (arith, less, absent_of-range p formed q l)) (package-same k ∙ eqb-true (version_numbered u k).package_number q e)).0)))
      (eq-eqb (version_numbered u (absent_of p q)).package_number q (sym (package-same (absent_of p q)) ∙ absent_of-own p formed q l))

-- the text of a version is one
pub text-sound : (vs : List Known) → IsTrue (list_all is_sound vs) → (k : ℕ) (text : List ℕ) → (get_or vs k nothing_known).text ≡ Some text → is_version text ≡ true
text-sound [] all k text has = absurd (cc)
text-sound (v ∷ vs) all zero text has = sym (ap is_text_sound has) ∙ (and_parts (is_sound v) (list_all is_sound vs) all).0
text-sound (v ∷ vs) all (suc k) text has = text-sound vs (and_parts (is_sound v) (list_all is_sound vs) all).1 k text has
