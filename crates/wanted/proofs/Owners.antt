-- The versions and packages of a universe and of its problem.
use Rattle.std.proofs.Common.{◌≡◌, ◌<◌, ℕ, Some, List, [], length, subst, sym, ◌∙◌, arith, eq-eqb, eqb-true, ◌&&◌}
use Rattle.std.proofs.Math.ListN.{get_or-map}
use Rattle.std.proofs.lemmas.Bool.{and_parts, false_from_ne_true}
use Rattle.std.proofs.lemmas.List.{length-map}
use Rattle.std.proofs.lemmas.List.Quantifiers.{position-Some}
use Rattle.deb_version.specs.Versions.{Parts}
use Rattle.problem.specs.Places.{absent_of}
use Rattle.problem.proofs.Ranges.{place_from, absent_of-range, absent_of-own}
use Rattle.resolver_model.specs.Problems.{IsWellFormed, package_of, package_count, version_count}
use Rattle.ascii.specs.Texts.{is_same}
use Rattle.laws_universe.proofs.Places.{position-is}
use Rattle.universe_model.specs.Universes.{Universe, is_of, is_text_of, owner_of, nothing_known, version_numbered, version_in, problem_of, absent_in, package_named}
use Rattle.wanted.specs.declared.Action.{Action}
use Rattle.wanted.specs.Wanting.{IsActionOf, IsVersionOf}

module _ (u : Universe) where
  package-same : (v : ℕ) → package_of (problem_of u) v ≡ (version_numbered u v).package_number
  package-same v = get_or-map owner_of u.versions v nothing_known

  count-same : version_count (problem_of u) ≡ length u.versions
  count-same = length-map u.versions owner_of

  -- a version of the problem is one of the universe
  pub version-own : (q v : ℕ) → v < version_count (problem_of u) → package_of (problem_of u) v ≡ q → IsVersionOf u q v
  version-own q v l own = record { within = omega (arith, count-same); own = sym (package-same v) ∙ own }

  -- the package of a version is one of the problem
  pub package-within : IsWellFormed (problem_of u) → (q v : ℕ) → IsVersionOf u q v → q < package_count (problem_of u)
  package-within formed q v is =
      let l : package_of (problem_of u) v < package_count (problem_of u) = formed.owners v (omega (arith, count-same, is.within)) in
      let same : package_of (problem_of u) v ≡ q = package-same v ∙ is.own in
      omega arith

  pub range-same : (q v : ℕ) → IsVersionOf u q v → v < version_count (problem_of u)
  range-same q v is = omega (arith, count-same, is.within)

  pub owner-same : (q v : ℕ) → IsVersionOf u q v → package_of (problem_of u) v ≡ q
  owner-same q v is = package-same v ∙ is.own

  -- absent is the first version of its package
  pub absent-found : IsWellFormed (problem_of u) → (q : ℕ) → q < package_count (problem_of u) → absent_in u q ≡ absent_of (problem_of u) q
  absent-found formed q l =
      position-is (is_of q) u.versions (absent_of (problem_of u) q) nothing_known (omega (arith, absent_of-range (problem_of u) formed q l, count-same))
      (λ k less. false_from_ne_true (is_of q (version_numbered u k))
      (λ e. omega (arith, less, (place_from (problem_of u) formed q k (omega (arith, less, absent_of-range (problem_of u) formed q l)) (package-same k ∙ eqb-true (version_numbered u k).package_number q e)).0)))
      (eq-eqb (version_numbered u (absent_of (problem_of u) q)).package_number q (sym (package-same (absent_of (problem_of u) q)) ∙ absent_of-own (problem_of u) formed q l))

  -- the version that has a text is one of the package
  pub version-found : (q v : ℕ) (ps : Parts) → version_in u q ps ≡ Some v → IsVersionOf u q v
  version-found q v ps found =
      let at = position-Some (λ known. is_of q known && is_text_of ps known.text) u.versions v nothing_known found in
      record {
        within = at.0;
        own = eqb-true (version_numbered u v).package_number q (and_parts (is_of q (version_numbered u v)) (is_text_of ps (version_numbered u v).text) at.1).0;
      }

  -- the package of a name is one of the universe
  pub package-named : (name : List ℕ) (q : ℕ) → package_named u name ≡ Some q → q < length u.names
  package-named name q found = (position-Some (is_same name) u.names q [] found).0

  pub action-own : (q v : ℕ) → q < length u.names → IsVersionOf u q v → (action : Action) → Some (record { package_number = q; version = v }) ≡ Some action → IsActionOf u action
  action-own q v l is action e =
      let same : record { package_number = q; version = v } ≡ action = cc in
      subst (IsActionOf u) same (record { named = l; version = is })
