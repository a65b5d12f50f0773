-- The token of a choice is read as the choice, and what is read is a choice.
use Rattle.std.proofs.Common.{◌≡◌, ℕ, ◌+◌, ◌-◌, ◌<◌, ◌≤◌, Bool, true, false, cond, not, ◌&&◌, ◌||◌, ◌==◌, List, [], ◌∷◌, ◌++◌, length, refl, sym, ap, ◌∙◌, subst, arith, Some, None, Option, Result, Ok, position, option_map, ltb, leb, ltb-true, leb-true, lt-ltb, le-leb, decimal}
use Rattle.std.proofs.lemmas.Bool.{and_from, and_parts, or_left, or_right, cond-true}
use Rattle.std.proofs.lemmas.List.{length-map, get_or-map}
use Rattle.std.proofs.lemmas.List.Quantifiers.{position-Some}
use Rattle.std.proofs.lemmas.Option.{cond_some}
use Rattle.deb_version.specs.Versions.{is_version}
use Rattle.resolver_model.specs.Problems.{Problem, version_count, dependency_count, package_of, start_of, dependency, no_dependency, is_install, leave_of, is_leave, is_choice}
use Rattle.problem.specs.declared.Kind.TheVariants as kind
use Rattle.universe_model.specs.Dependencies.{Requirement}
use Rattle.universe_model.specs.Tokens.{Token, Removal, Release, Group, version_token, install_token, token_by_kind, token, token_of, name_in, version_named, is_recommends_of, choice_named, found_or, choice_of}
use Rattle.universe_model.specs.Universes.{Universe, owner_of, dependency_in, problem_from, IsProblemOf, package_named, name_of_package, nothing_known, version_numbered, no_requirement, requirement_numbered, group_of}
use Rattle.universe_model.specs.declared.TokenFault.{TokenFault}
use Rattle.universe_model.specs.declared.TokenFault.TheVariants.{NotAToken, NoSuchPackage, NoSuchVersion, NotAChoice}
use Rattle.laws_universe.proofs.Found.{package-found, version-found, absent-found, recommends-found}
use Rattle.laws_universe.proofs.Sound.{IsSound, IsTextWell}
use Rattle.laws_universe.proofs.Spelled.{removal-spelled, release-spelled, group-spelled}
use Rattle.lists.proofs.Options.{option_map-some}

-- ---- a text that names a choice

abbrev choice_of_version : Universe → Problem → Token → ℕ → Result ℕ TokenFault
choice_of_version u p said v = found_or NotAChoice (choice_named u p v said) Ok

abbrev choice_of_package : Universe → Problem → Token → ℕ → Result ℕ TokenFault
choice_of_package u p said q = found_or NoSuchVersion (version_named u q said) (choice_of_version u p said)

abbrev choice_said : Universe → Problem → Token → Result ℕ TokenFault
choice_said u p said = found_or NoSuchPackage (package_named u (name_in said)) (choice_of_package u p said)

named : (u : Universe) (p : Problem) (text : List ℕ) (said : Token) (q v c : ℕ) → token_of text ≡ Some said → package_named u (name_in said) ≡ Some q → version_named u q said ≡ Some v
    → choice_named u p v said ≡ Some c → choice_of u p text ≡ Ok c
named u p text said q v c a b d e =
    ap (λ t. found_or NotAToken t (choice_said u p)) a
    ∙ ap (λ t. found_or NoSuchPackage t (choice_of_package u p said)) b
    ∙ ap (λ t. found_or NoSuchVersion t (choice_of_version u p said)) d
    ∙ ap (λ t. found_or NotAChoice t Ok) e

-- ---- the token of a version

record IsInstall (u : Universe) (p : Problem) (v : ℕ) : Type 0 where
  within : v < length u.versions
  install : is_install p v ≡ true

install-named : (u : Universe) (p : Problem) → IsSound u → (v : ℕ) → IsInstall u p v → (text : Option (List ℕ)) → (version_numbered u v).text ≡ text → IsTextWell text
    → choice_of u p (version_token (name_of_package u (version_numbered u v).package_number) text) ≡ Ok v
install-named u p sound v here None e well =
    let q : ℕ = (version_numbered u v).package_number in
    let name : List ℕ = name_of_package u q in
    let inside : q < length u.names = (sound.versions v nothing_known here.within).owner in
    named u p (name ++ 45 ∷ []) (Removal name) q v v (removal-spelled name (sound.names q [] inside)) (package-found u sound q inside)
    (ap Some (absent-found u sound v q here.within refl e)) (cond-true (is_install p v) (Some v) None here.install)
install-named u p sound v here (Some text) e well =
    let q : ℕ = (version_numbered u v).package_number in
    let name : List ℕ = name_of_package u q in
    let inside : q < length u.names = (sound.versions v nothing_known here.within).owner in
    named u p (name ++ 61 ∷ text) (Release name text) q v v (release-spelled name text (sound.names q [] inside) well) (package-found u sound q inside)
    (version-found u sound v q text here.within refl e) (cond-true (is_install p v) (Some v) None here.install)

-- ---- the token of a group

leave-named : (u : Universe) (p : Problem) → IsSound u → (d : ℕ) → d < length u.requirements → (requirement_numbered u d).dependency.soft ≡ true
    → choice_of u p (install_token u (requirement_numbered u d).dependency.source ++ (47 ∷ decimal (group_of u d))) ≡ Ok (leave_of p d)
leave-named u p sound d l soft =
    let r : Requirement = requirement_numbered u d in
    let v : ℕ = r.dependency.source in
    let q : ℕ = (version_numbered u v).package_number in
    let name : List ℕ = name_of_package u q in
    let placed = sound.soft d no_requirement l soft in
    let known = sound.versions v nothing_known placed.within in
    let well : is_version placed.text ≡ true = subst IsTextWell placed.has_text known.text in
    ap (λ text. choice_of u p (version_token name text ++ (47 ∷ decimal r.group))) placed.has_text
    ∙ named u p ((name ++ 61 ∷ placed.text) ++ (47 ∷ decimal r.group)) (Group name placed.text r.group) q v (leave_of p d)
    (group-spelled name placed.text r.group (sound.names q [] known.owner) well placed.low placed.high) (package-found u sound q known.owner)
    (version-found u sound v q placed.text placed.within refl placed.has_text) (ap (option_map (leave_of p)) (recommends-found u sound d l soft))

-- ---- the problem of a universe

module _ (u : Universe) (starts : List ℕ) where
  owners-size : version_count (problem_from u starts) ≡ length u.versions
  owners-size = length-map u.versions owner_of

  dependencies-size : dependency_count (problem_from u starts) ≡ length u.requirements
  dependencies-size = length-map u.requirements dependency_in

  dependency-at : (d : ℕ) → d < length u.requirements → dependency (problem_from u starts) d ≡ (requirement_numbered u d).dependency
  dependency-at d l = get_or-map dependency_in u.requirements d no_requirement no_dependency l

inverse-from : (u : Universe) (starts : List ℕ) → IsSound u → (c : ℕ) → is_choice (problem_from u starts) c ≡ true → choice_of u (problem_from u starts) (token u (problem_from u starts) c) ≡ Ok c
inverse-from u starts sound c h = by (is_install p c) (is_leave p c) refl refl h
  where
    p : Problem
    p = problem_from u starts

    by : (a b : Bool) → is_install p c ≡ a → is_leave p c ≡ b → (a || b) ≡ true
        → choice_of u p (token_by_kind u p (cond a (kind.Install c) (cond b (kind.Leave (c - version_count p)) kind.NoChoice))) ≡ Ok c
    by true b e f h =
        let inside : c < length u.versions = omega (arith, ltb-true c (version_count p) (and_parts (ltb c (version_count p)) (not (start_of p (package_of p c) == c)) e).0, owners-size u starts) in
        install-named u p sound c (record { within = inside; install = e }) (version_numbered u c).text refl (sound.versions c nothing_known inside).text
    by false true e f h =
        let d : ℕ = c - version_count p in
        let both = and_parts (leb (version_count p) c && ltb c (version_count p + dependency_count p)) (dependency p d).soft f in
        let range = and_parts (leb (version_count p) c) (ltb c (version_count p + dependency_count p)) both.0 in
        let low : version_count p ≤ c = leb-true (version_count p) c range.0 in
        let high : c < version_count p + dependency_count p = ltb-true c (version_count p + dependency_count p) range.1 in
        let inside : d < length u.requirements = omega (arith, dependencies-size u starts) in
        let at : dependency p d ≡ (requirement_numbered u d).dependency = dependency-at u starts d inside in
        let whole : version_count p + d ≡ c = omega arith in
        ap (λ dep. choice_of u p (install_token u dep.source ++ (47 ∷ decimal (group_of u d)))) at
        ∙ leave-named u p sound d inside (ap (λ dep. dep.soft) (sym at) ∙ both.1)
        ∙ ap Ok whole
    by false false e f h = absurd (cc)

pub tokens-inverse : (u : Universe) → IsSound u → (p : Problem) → IsProblemOf u p → (c : ℕ) → is_choice p c ≡ true → choice_of u p (token u p c) ≡ Ok c
tokens-inverse u sound p h c =
    subst (λ r. is_choice r c ≡ true → choice_of u r (token u r c) ≡ Ok c) (sym h.same) (inverse-from u p.starts sound c)

-- ---- what is read is a choice

found : {A B : Type 0} (fault : TokenFault) (o : Option A) (next : A → Result B TokenFault) (y : B) → found_or fault o next ≡ Ok y → (x : A) × (o ≡ Some x) × (next x ≡ Ok y)
found fault None next y h = absurd (cc)
found fault (Some x) next y h = (x, refl, h)

given : (o : Option ℕ) (c : ℕ) → found_or NotAChoice o Ok ≡ Ok c → o ≡ Some c
given None c h = absurd (cc)
given (Some d) c h = cc

install-choice : (p : Problem) (v c : ℕ) → cond (is_install p v) (Some v) None ≡ Some c → is_choice p c ≡ true
install-choice p v c h =
    let at = cond_some (is_install p v) v c h in
    or_left (is_install p c) (is_leave p c) (ap (is_install p) (sym at.1) ∙ at.0)

leave-choice : (u : Universe) (starts : List ℕ) (d : ℕ) → d < length u.requirements → (requirement_numbered u d).dependency.soft ≡ true → is_choice (problem_from u starts) (leave_of (problem_from u starts) d) ≡ true
leave-choice u starts d l soft =
    let p : Problem = problem_from u starts in
    let n : ℕ = version_count p in
    let back : (n + d) - n ≡ d = omega arith in
    let inside : n + d < n + dependency_count p = omega (arith, dependencies-size u starts) in
    or_right (is_install p (n + d)) (is_leave p (n + d))
    (and_from (leb n (n + d) && ltb (n + d) (n + dependency_count p)) (dependency p ((n + d) - n)).soft
    (and_from (leb n (n + d)) (ltb (n + d) (n + dependency_count p)) (le-leb n (n + d) (omega arith)) (lt-ltb (n + d) (n + dependency_count p) inside))
    (ap (λ k. (dependency p k).soft) back ∙ ap (λ dep. dep.soft) (dependency-at u starts d l) ∙ soft))

choice-named : (u : Universe) (starts : List ℕ) (v : ℕ) (said : Token) (c : ℕ) → choice_named u (problem_from u starts) v said ≡ Some c → is_choice (problem_from u starts) c ≡ true
choice-named u starts v (Removal name) c h = install-choice (problem_from u starts) v c h
choice-named u starts v (Release name version) c h = install-choice (problem_from u starts) v c h
choice-named u starts v (Group name version place) c h =
    let p : Problem = problem_from u starts in
    let m = option_map-some (leave_of p) (position (is_recommends_of v place) u.requirements) c h in
    let at = position-Some (is_recommends_of v place) u.requirements m.0 no_requirement m.1 in
    let r : Requirement = requirement_numbered u m.0 in
    let soft = (and_parts r.dependency.soft (r.dependency.source == v) (and_parts (r.dependency.soft && (r.dependency.source == v)) (r.group == place) at.1).0).0 in
    subst (λ k. is_choice p k ≡ true) m.2 (leave-choice u starts m.0 at.0 soft)

choices-from : (u : Universe) (starts text : List ℕ) (c : ℕ) → choice_of u (problem_from u starts) text ≡ Ok c → is_choice (problem_from u starts) c ≡ true
choices-from u starts text c h =
    let p : Problem = problem_from u starts in
    let said = found NotAToken (token_of text) (choice_said u p) c h in
    let package' = found NoSuchPackage (package_named u (name_in said.0)) (choice_of_package u p said.0) c said.2 in
    let version = found NoSuchVersion (version_named u package'.0 said.0) (choice_of_version u p said.0) c package'.2 in
    choice-named u starts version.0 said.0 c (given (choice_named u p version.0 said.0) c version.2)

pub tokens-choices : (u : Universe) (p : Problem) → IsProblemOf u p → (text : List ℕ) (c : ℕ) → choice_of u p text ≡ Ok c → is_choice p c ≡ true
tokens-choices u p h text c = subst (λ r. choice_of u r text ≡ Ok c → is_choice r c ≡ true) (sym h.same) (choices-from u p.starts text c)
