-- What is noted of a set tells what it installs, as choices are added.
use Rattle.std.proofs.Common.{◌≡◌, ◌<◌, ℕ, Some, None, Option, List, [], ◌∷◌, ◌++◌, Bool, true, false, ◌==◌, ◌&&◌, cond, length, get_or, set, refl, ap, sym, subst, ◌∙◌, nat_eq, nat_lt, arith}
use Rattle.std.specs.List.{find}
use Rattle.std.proofs.lemmas.Bool.{eqb-true, lt-ltb, ltb-false}
use Rattle.std.proofs.lemmas.Bool.Decides.{nat_tests}
use Rattle.std.proofs.lemmas.List.{get_or-set_same, get_or-set_other}
use Rattle.resolver_model.specs.Problems.{Problem, installs_of, package_of, version_count}
use Rattle.broken_deps.specs.Places.{AreNoted, Tells, place_of, with_version}
use Rattle.broken_deps.specs.declared.installed.Place.{Place}
use Rattle.broken_deps.specs.declared.installed.Place.TheVariants.{Nothing, One, Several}

-- what is found with one more at the end
found_end : (f : ℕ → Bool) (xs : List ℕ) (c : ℕ) → f c ≡ false → find f (xs ++ c ∷ []) ≡ find f xs
found_end f [] c none = ap (λ b. cond b (Some c) None) none
found_end f (x ∷ xs) c none = ap (λ rest. cond (f x) (Some x) rest) (found_end f xs c none)

found_first : (f : ℕ → Bool) (xs : List ℕ) (c : ℕ) → find f xs ≡ None → find f (xs ++ c ∷ []) ≡ cond (f c) (Some c) None
found_first f [] c none = refl
found_first f (x ∷ xs) c none =
    elim (f x) as (λ b. cond b (Some x) (find f xs) ≡ None → cond b (Some x) (find f (xs ++ c ∷ [])) ≡ cond (f c) (Some c) None) [
      | true ↦ λ k. absurd (let both : Some x ≡ None = k in cc)
      | false ↦ λ k. found_first f xs c k
    ] none

apart-nothing : (A : Type 0) → Nothing ≡ Several → A
apart-nothing A e = absurd (let both : Nothing ≡ Several = e in cc)

apart-one : (A : Type 0) (v : ℕ) → Several ≡ One v → A
apart-one A v e = absurd (let both : Several ≡ One v = e in cc)

abbrev number : Place → ℕ
number Nothing = 0
number (One v) = v
number Several = 0

pub none_noted : (p : Problem) (places : List Place) → ((q : ℕ) → get_or places (place_of q) Nothing ≡ Nothing) → AreNoted p places []
none_noted p places none q =
    subst (Tells p [] q) (sym (none q)) (record { within = λ v e. absurd (let both : Nothing ≡ One v = e in cc); found = λ single. refl })

-- a choice that installs nothing of a package
still-tells : (p : Problem) (xs : List ℕ) (c q : ℕ) (place : Place) → installs_of p q c ≡ false → Tells p xs q place → Tells p (xs ++ c ∷ []) q place
still-tells p xs c q place none tells = record { within = tells.within; found = λ single. found_end (installs_of p q) xs c none ∙ tells.found single }

pub noted_leave : (p : Problem) (places : List Place) (xs : List ℕ) (c : ℕ) → nat_lt c (version_count p) ≡ false → AreNoted p places xs → AreNoted p places (xs ++ c ∷ [])
noted_leave p places xs c none are q = still-tells p xs c q (get_or places (place_of q) Nothing) (ap (λ b. b && (package_of p c == q)) none) (are q)

-- at the place of the package that a choice installs a version of
more-tells : (p : Problem) (xs : List ℕ) (c q : ℕ) (place : Place) → c < version_count p → Tells p xs q place → Tells p (xs ++ c ∷ []) q (with_version place c)
more-tells p xs c q Nothing less tells = record {
  within = λ v e. subst (λ n. n < version_count p) (ap number e) less;
  found = λ single.
      found_first (installs_of p q) xs c (tells.found (λ e. apart-nothing ⊥ e))
      ∙ ap (λ b. cond (b && (package_of p c == q)) (Some c) None) (lt-ltb c (version_count p) less);
}
more-tells p xs c q (One v) less tells = record { within = λ w e. apart-one (w < version_count p) w e; found = λ single. absurd (single refl) }
more-tells p xs c q Several less tells = record { within = λ w e. apart-one (w < version_count p) w e; found = λ single. absurd (single refl) }

apart : (p : Problem) (c q : ℕ) (b : Bool) → nat_eq (place_of q) (place_of (package_of p c)) ≡ false → (package_of p c == q) ≡ b → b ≡ false
apart p c q true other same =
    let e : package_of p c ≡ q = eqb-true (package_of p c) q same in
    absurd (let places : place_of q ≡ place_of (package_of p c) = ap place_of (sym e) in grind (arith, nat_tests, other, places))
apart p c q false other same = refl

more-cases : (p : Problem) (places : List Place) (xs : List ℕ) (c slot q : ℕ) (b : Bool) → nat_eq (place_of q) slot ≡ b → c < version_count p → slot < length places → slot ≡ place_of (package_of p c)
    → Tells p xs q (get_or places (place_of q) Nothing) → Tells p (xs ++ c ∷ []) q (get_or (set places slot (with_version (get_or places slot Nothing) c)) (place_of q) Nothing)
more-cases p places xs c slot q true e less room own tells =
    let same : place_of q ≡ slot = eqb-true (place_of q) slot e in
    let new = with_version (get_or places slot Nothing) c in
    let now : get_or (set places slot new) (place_of q) Nothing ≡ new = ap (λ k. get_or (set places slot new) k Nothing) same ∙ get_or-set_same places slot new Nothing room in
    subst (Tells p (xs ++ c ∷ []) q) (sym now) (more-tells p xs c q (get_or places slot Nothing) less (subst (λ k. Tells p xs q (get_or places k Nothing)) same tells))
more-cases p places xs c slot q false e less room own tells =
    let new = with_version (get_or places slot Nothing) c in
    let now : get_or (set places slot new) (place_of q) Nothing ≡ get_or places (place_of q) Nothing =
    get_or-set_other places slot (place_of q) new Nothing (λ same. absurd (grind (arith, nat_tests, e, same))) in
    let other : (package_of p c == q) ≡ false = apart p c q (package_of p c == q) (ap (nat_eq (place_of q)) (sym own) ∙ e) refl in
    subst (Tells p (xs ++ c ∷ []) q) (sym now) (still-tells p xs c q (get_or places (place_of q) Nothing) (ap (λ b. b && (package_of p c == q)) (lt-ltb c (version_count p) less) ∙ other) tells)

pub noted_more : (p : Problem) (places : List Place) (xs : List ℕ) (c slot : ℕ) → c < version_count p → slot < length places → slot ≡ place_of (package_of p c) → AreNoted p places xs
    → AreNoted p (set places slot (with_version (get_or places slot Nothing) c)) (xs ++ c ∷ [])
noted_more p places xs c slot less room own are q = more-cases p places xs c slot q (nat_eq (place_of q) slot) refl less room own (are q)
