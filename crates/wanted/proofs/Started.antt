-- Start versions, one action after another.
use Rattle.std.proofs.Common.{◌≡◌, ◌≢◌, ◌<◌, ◌≤◌, ◌+◌, ◌-◌, ◌==◌, ℕ, zero, suc, Bool, true, false, cond, List, [], ◌∷◌, Option, Some, None, refl, ap, sym, ◌∙◌, arith, subst, set, drop, drop-cons, length, get_or, find, eq-eqb, eqb-true, All, unwrap_or, option_map}
use Rattle.std.proofs.lemmas.Bool.{false_from_ne_true, cond-true, cond-false}
use Rattle.std.proofs.lemmas.List.Elements.{All-tail, All-weaker}
use Rattle.problem.specs.Places.{IsOneOfEach}
use Rattle.resolver_model.specs.Problems.{IsWellFormed}
use Rattle.laws_universe.proofs.Blocks.{length-map_from, get_or-map_from}
use Rattle.universe_model.specs.Lists.{map_from}
use Rattle.universe_model.specs.Universes.{Universe, problem_of}
use Rattle.wanted.specs.declared.Action.{Action}
use Rattle.wanted.specs.Wanting.{IsActionOf, IsOf, IsVersionOf, is_on, start_with, with_actions, starts_with}
use Rattle.wanted.proofs.Owners.{range-same, owner-same, package-within, version-own}

-- ---- one more action

map_from-same : (f g : ℕ → ℕ → ℕ) (n : ℕ) (xs : List ℕ) → ((k x : ℕ) → n ≤ k → f k x ≡ g k x) → map_from f n xs ≡ map_from g n xs
map_from-same f g n [] same = refl
map_from-same f g n (x ∷ xs) same =
    ap (λ y. y ∷ map_from f (n + 1) xs) (same n x (omega arith))
    ∙ ap (λ ys. g n x ∷ ys) (map_from-same f g (n + 1) xs (λ k x l. same k x (omega arith)))

-- one that is written over
map_from-set : (f g : ℕ → ℕ → ℕ) (n q m v : ℕ) (xs : List ℕ) → n + q ≡ m → ((k x : ℕ) → k ≢ m → f k x ≡ g k x) → ((x : ℕ) → g m x ≡ v)
    → set (map_from f n xs) q v ≡ map_from g n xs
map_from-set f g n q m v [] at others here = refl
map_from-set f g n zero m v (x ∷ xs) at others here =
    let same : m ≡ n = omega arith in
    ap (λ y. y ∷ map_from f (n + 1) xs) (sym (here x) ∙ ap (λ k. g k x) same)
    ∙ ap (λ ys. g n x ∷ ys) (map_from-same f g (n + 1) xs (λ k x l. others k x (λ e. omega (arith, e))))
map_from-set f g n (suc q) m v (x ∷ xs) at others here =
    ap (λ y. y ∷ set (map_from f (n + 1) xs) q v) (others n x (λ e. omega (arith, e)))
    ∙ ap (λ ys. g n x ∷ ys) (map_from-set f g (n + 1) q m v xs (omega arith) others here)

start-here : (actions : List Action) (action : Action) (x : ℕ) → start_with (action ∷ actions) action.package_number x ≡ action.version
start-here actions action x =
    let p : ℕ = action.package_number in
    ap (λ o. unwrap_or (option_map (λ (a : Action). a.version) o) x) (cond-true (p == p) (Some action) (find (is_on p) actions) (eq-eqb p p refl))

start-other : (actions : List Action) (action : Action) (q x : ℕ) → q ≢ action.package_number → start_with actions q x ≡ start_with (action ∷ actions) q x
start-other actions action q x other =
    let p : ℕ = action.package_number in
    sym (ap (λ o. unwrap_or (option_map (λ (a : Action). a.version) o) x)
    (cond-false (p == q) (Some action) (find (is_on q) actions) (false_from_ne_true (p == q) (λ e. other (sym (eqb-true p q e))))))

pub written : (actions : List Action) (action : Action) (starts : List ℕ) → set (with_actions actions starts) action.package_number action.version ≡ with_actions (action ∷ actions) starts
written actions action starts =
    map_from-set (start_with actions) (start_with (action ∷ actions)) 0 action.package_number action.package_number action.version starts (omega arith)
    (λ k x other. start-other actions action k x other) (λ x. start-here actions action x)

map_from-id : (n : ℕ) (xs : List ℕ) → xs ≡ map_from (start_with []) n xs
map_from-id n [] = refl
map_from-id n (x ∷ xs) = ap (λ ys. x ∷ ys) (map_from-id (n + 1) xs)

pub none-written : (starts : List ℕ) → starts ≡ with_actions [] starts
none-written starts = map_from-id 0 starts

-- the actions from a place on, of which the first stands there
pub drop-before : (actions : List Action) (place : ℕ) (d : Action) → 0 < place → place ≤ length actions → get_or actions (place - 1) d ∷ drop place actions ≡ drop (place - 1) actions
drop-before actions place d some l =
    let next : place ≡ suc (place - 1) = omega arith in
    ap (λ k. get_or actions (place - 1) d ∷ drop k actions) next ∙ sym (drop-cons actions (place - 1) d (omega arith))

-- ---- start versions are versions of their packages

find-on : (P : Action → Type 0) (q : ℕ) (actions : List Action) (action : Action) → All P actions → find (is_on q) actions ≡ Some action → P action × (action.package_number ≡ q)
find-on P q [] action all e = absurd (cc)
find-on P q (a ∷ rest) action all e = by (is_on q a) refl e (λ further. find-on P q rest action (All-tail P a rest all) further)
  where
    by : (b : Bool) → is_on q a ≡ b → cond b (Some a) (find (is_on q) rest) ≡ Some action
        → (find (is_on q) rest ≡ Some action → P action × (action.package_number ≡ q)) → P action × (action.package_number ≡ q)
    by true on e behind =
        let same : a ≡ action = cc in
        (subst P same (all 0 a (omega arith)), ap (λ (x : Action). x.package_number) (sym same) ∙ eqb-true a.package_number q on)
    by false off e behind = behind e

module _ (u : Universe) (formed : IsWellFormed (problem_of u)) (actions : List Action) (of : IsOf u actions) where
  -- the packages of actions are packages of the problem
  pub packages-within : All (λ action. action.package_number < length u.installed) actions
  packages-within =
      All-weaker (IsActionOf u) (λ action. action.package_number < length u.installed)
      (λ action is. package-within u formed action.package_number action.version is.version) actions of

  start-own : (q : ℕ) → q < length u.installed → IsVersionOf u q (get_or (starts_with u actions) q 0)
  start-own q l =
      let here : 0 + q ≡ q = omega arith in
      let installed : ℕ = get_or u.installed q 0 in
      subst (IsVersionOf u q)
      (sym (get_or-map_from (start_with actions) 0 u.installed q 0 0 l ∙ ap (λ k. start_with actions k installed) here)) (by (find (is_on q) actions) refl)
    where
      by : (found : Option Action) → find (is_on q) actions ≡ found → IsVersionOf u q (unwrap_or (option_map (λ (action : Action). action.version) found) (get_or u.installed q 0))
      by None e = let start = formed.starts q l in version-own u q (get_or u.installed q 0) start.0 start.1
      by (Some action) e =
          let on = find-on (IsActionOf u) q actions action of e in
          subst (λ k. IsVersionOf u k action.version) on.1 on.0.version

  pub starts-one_of_each : IsOneOfEach (problem_of u) (starts_with u actions)
  starts-one_of_each = record {
    size = length-map_from (start_with actions) 0 u.installed;
    range = λ q l. range-same u q (get_or (starts_with u actions) q 0) (start-own q l);
    each = λ q l. owner-same u q (get_or (starts_with u actions) q 0) (start-own q l);
  }
