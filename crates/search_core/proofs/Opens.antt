-- What a list of those that pass says of the first one, and what a larger set has beyond a smaller one.
use Rattle.std.proofs.Common.{inl, inr, ◌≡◌, ◌<◌, ℕ, List, [], ◌∷◌, ◌≤◌, Bool, true, false, cond, not, ◌&&◌, ◌||◌, nat_eq, nat_lt, Some, None, refl, ap, sym, subst, ◌∙◌, length, get_or, arith}
use Rattle.std.specs.List.{find, filter, list_all, list_any}
use Rattle.std.proofs.lemmas.Bool.{and_parts, not-true, not-false}
use Rattle.std.proofs.lemmas.Bool.Decides.{nat_tests}
use Rattle.lists.proofs.Sets.{list_all-has, has_none_upto}
use Rattle.lists.proofs.With.{has-with_new, has-with_cases}
use Rattle.lists.specs.Sets.{is_rising, has, with}
use Rattle.resolver_model.specs.declared.node.Node.{Node}
use Rattle.resolver_model.specs.declared.history.By.{By}
use Rattle.resolver_model.specs.declared.history.By.TheVariants.{Dep, Choice}
use Rattle.resolver_model.specs.Problems.{Problem, resolvers}
use Rattle.resolver_model.specs.Trees.{branches, split, split_by_choice}
use Rattle.search_core.specs.Ways.{first_outside, IsUpToOneMore, AreUpToOneMore}
use Rattle.search_core.proofs.Ways.{found_in, none_in}

or_second : (a b : Bool) → (a || b) ≡ true → a ≡ false → b ≡ true
or_second true b h e = absurd (cc)
or_second false b h e = h

pub none_passes : (f : ℕ → Bool) (xs : List ℕ) → filter f xs ≡ [] → (find f xs ≡ None) × (list_all (λ x. not (f x)) xs ≡ true)
none_passes f [] h = (refl, refl)
none_passes f (x ∷ xs) h =
    elim (f x) as (λ r. cond r (x ∷ filter f xs) (filter f xs) ≡ [] → (cond r (Some x) (find f xs) ≡ None) × ((not r && list_all (λ x. not (f x)) xs) ≡ true)) [ true ↦ λ e. absurd (cc) | false ↦ λ e. none_passes f xs e ] h

pub some_passes : (f : ℕ → Bool) (xs : List ℕ) → 0 < length (filter f xs) → (find f xs ≡ Some (get_or (filter f xs) 0 0)) × (list_all (λ x. not (f x)) xs ≡ false)
some_passes f [] h = absurd (omega (arith, h))
some_passes f (x ∷ xs) h =
    elim (f x) as (λ r. 0 < length (cond r (x ∷ filter f xs) (filter f xs)) → (cond r (Some x) (find f xs) ≡ Some (get_or (cond r (x ∷ filter f xs) (filter f xs)) 0 0)) × ((not r && list_all (λ x. not (f x)) xs) ≡ false)) [
      | true ↦ λ e. (refl, refl)
      | false ↦ λ e. some_passes f xs e
    ] h

false_and : (a b : Bool) → b ≡ false → (a && b) ≡ false
false_and true b e = e
false_and false b e = refl

-- where one of some numbers passes, not all of all fail
pub any_within : (f g : ℕ → Bool) (xs : List ℕ) → list_any f (filter g xs) ≡ true → list_all (λ x. not (f x)) xs ≡ false
any_within f g [] h = absurd (cc)
any_within f g (x ∷ xs) h =
    elim (g x) as (λ r. list_any f (cond r (x ∷ filter g xs) (filter g xs)) ≡ true → (not (f x) && list_all (λ y. not (f y)) xs) ≡ false) [
      | true ↦ λ k. elim (f x) as (λ q. (q || list_any f (filter g xs)) ≡ true → (not q && list_all (λ y. not (f y)) xs) ≡ false) [ true ↦ λ _. refl | false ↦ λ m. any_within f g xs m ] k
      | false ↦ λ k. false_and (not (f x)) (list_all (λ y. not (f y)) xs) (any_within f g xs k)
    ] h

-- Beyond a set, that with one choice more has at most this choice.
outside_with : (set : List ℕ) (c x : ℕ) → first_outside (with set c) set ≡ Some x → x ≡ c
outside_with set c x e =
    let found = found_in (λ y. not (has set y)) (with set c) x e in
    elim (has-with_cases set c x found.1) as (λ _. x ≡ c) [
      | inl same ↦ sym same
      | inr old ↦ let new : has set x ≡ false = not-true _ found.0 in absurd (cc)
    ]

with_known : (xs : List ℕ) (c : ℕ) → is_rising xs ≡ true → has xs c ≡ true → with xs c ≡ xs
with_known [] c rises h = absurd (cc)
with_known (x ∷ xs) c rises h =
    let parts = and_parts (list_all (λ y. nat_lt x y) xs) (is_rising xs) rises in
    elim (nat_lt x c) as (λ r. nat_lt x c ≡ r → cond r (x ∷ with xs c) (cond (nat_eq x c) (x ∷ xs) (c ∷ x ∷ xs)) ≡ x ∷ xs) [
      | true ↦ λ less.
          let apart : nat_eq x c ≡ false = grind (arith, nat_tests) in
          let rest : has xs c ≡ true = or_second (nat_eq x c) (has xs c) h apart in
          ap (λ zs. x ∷ zs) (with_known xs c parts.1 rest)
      | false ↦ λ more.
          elim (nat_eq x c) as (λ q. nat_eq x c ≡ q → cond q (x ∷ xs) (c ∷ x ∷ xs) ≡ x ∷ xs) [
            | true ↦ λ _. refl
            | false ↦ λ apart.
                let le : c ≤ x = grind (arith, nat_tests) in
                let none : has xs c ≡ false = has_none_upto xs x c parts.0 le in
                let rest : has xs c ≡ true = or_second (nat_eq x c) (has xs c) h apart in
                absurd (cc)
          ] refl
    ] refl

-- A larger set is the other one with the choice that it has beyond it,
pub one_more : (set larger : List ℕ) (x : ℕ) → IsUpToOneMore set larger → first_outside larger set ≡ Some x → larger ≡ with set x
one_more set larger x (inl same) e =
    let found = found_in (λ y. not (has set y)) larger x e in
    let new : has set x ≡ false = not-true _ found.0 in
    let old : has set x ≡ true = ap (λ xs. has xs x) (sym same) ∙ found.1 in
    absurd (cc)
one_more set larger x (inr more) e =
    let F : List ℕ → Type 0 = λ xs. first_outside xs set ≡ Some x in
    more.1 ∙ ap (with set) (sym (outside_with set more.0 x (subst F more.1 e)))

-- or that one, if it has none.
pub no_more : (set larger : List ℕ) → is_rising set ≡ true → IsUpToOneMore set larger → first_outside larger set ≡ None → larger ≡ set
no_more set larger rises (inl same) e = same
no_more set larger rises (inr more) e =
    let all : list_all (λ y. not (not (has set y))) larger ≡ true = none_in (λ y. not (has set y)) larger e in
    let own : has larger more.0 ≡ true = ap (λ xs. has xs more.0) more.1 ∙ has-with_new set more.0 in
    let known : has set more.0 ≡ true = not-false _ (not-true _ (list_all-has (λ y. not (not (has set y))) larger more.0 all own)) in
    more.1 ∙ with_known set more.0 rises known

-- Each node of a split takes one choice more, or the same.
branches_take : (taken barred rs : List ℕ) → AreUpToOneMore taken (branches taken barred rs)
branches_take taken barred [] node m = absurd m
branches_take taken barred (r ∷ rs) node m =
    elim m as (λ _. IsUpToOneMore taken node.taken) [
      | inl e ↦ inr (r, ap (λ (n : Node). n.taken) e)
      | inr k ↦ branches_take taken (with barred r) rs node k
    ]

choice_takes : (node : Node) (a : ℕ) → AreUpToOneMore node.taken (split_by_choice node a)
choice_takes node a child (inl e) = inr (a, ap (λ (n : Node). n.taken) e)
choice_takes node a child (inr (inl e)) = inl (ap (λ (n : Node). n.taken) e)
choice_takes node a child (inr (inr m)) = absurd m

pub split_takes_one : (p : Problem) (node : Node) (by : By) → AreUpToOneMore node.taken (split p node by)
split_takes_one p node (Dep d) = branches_take node.taken node.barred (filter (λ r. not (has node.barred r)) (resolvers p node.taken d))
split_takes_one p node (Choice a) = choice_takes node a
