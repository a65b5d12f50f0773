-- The choices that have a mark, over all numbers of choices.
use Rattle.std.proofs.Common.{◌≡◌, ℕ, ◌+◌, Bool, true, false, ◌&&◌, List, [], ◌∷◌, ◌++◌, cond, refl, sym, ap, ◌∙◌}
use Rattle.std.specs.List.{filter}
use Rattle.lists.specs.Below.{below}
use Rattle.lists.specs.Sets.{has, is_rising, is_disjoint}
use Rattle.lists.proofs.Below.{is_rising-below, filter-below_yes, filter-below_no}
use Rattle.lists.proofs.Sets.{is_rising-filter, has-filter, has-filter_back, is_disjoint-from_has}
use Rattle.resolver_model.specs.Problems.{Problem, is_choice, choices, version_count, dependency_count}
use Rattle.resolver_model.specs.declared.marks.Mark.{Mark}
use Rattle.resolver_model.specs.declared.marks.Mark.TheVariants.{Free, Approved, Rejected}
use Rattle.hint_effects.specs.Effects.{is_mark, mark_by, marked}
use Rattle.hint_effects.specs.Stamped.{has_mark, marked_upto}
use Rattle.hint_effects.specs.declared.Hint.{Hint}

filter-both : (p q : ℕ → Bool) (xs : List ℕ) → filter (λ x. p x && q x) xs ≡ filter q (filter p xs)
filter-both p q [] = refl
filter-both p q (x ∷ xs) =
    elim (p x) as (λ a. cond (a && q x) (x ∷ filter (λ y. p y && q y) xs) (filter (λ y. p y && q y) xs) ≡ filter q (cond a (x ∷ filter p xs) (filter p xs))) [
      | true ↦ ap (λ ys. cond (q x) (x ∷ ys) ys) (filter-both p q xs)
      | false ↦ filter-both p q xs
    ]

module _ (p : Problem) (hints : List Hint) (mark : Mark) where
  -- the choices below all numbers of choices are all choices
  pub marked-is : marked_upto p hints mark (version_count p + dependency_count p) ≡ marked p hints mark
  marked-is = filter-both (is_choice p) (λ c. is_mark (mark_by p hints c) mark) (below (version_count p + dependency_count p))

  pub marked-rises : (n : ℕ) → is_rising (marked_upto p hints mark n) ≡ true
  marked-rises n = is_rising-filter (has_mark p hints mark) (below n) (is_rising-below n)

  pub marked-next : (n : ℕ) → has_mark p hints mark n ≡ true → marked_upto p hints mark n ++ n ∷ [] ≡ marked_upto p hints mark (n + 1)
  marked-next n holds = sym (filter-below_yes (has_mark p hints mark) n holds)

  pub unmarked-next : (n : ℕ) → has_mark p hints mark n ≡ false → marked_upto p hints mark n ≡ marked_upto p hints mark (n + 1)
  unmarked-next n fails = sym (filter-below_no (has_mark p hints mark) n fails)

apart : (m : Mark) → is_mark m Approved ≡ true → is_mark m Rejected ≡ false
apart Free e = cc
apart Approved e = refl
apart Rejected e = cc

-- no choice is approved and rejected
pub marks-apart : (p : Problem) (hints : List Hint) → is_disjoint (marked p hints Approved) (marked p hints Rejected) ≡ true
marks-apart p hints =
    is_disjoint-from_has (marked p hints Approved) (marked p hints Rejected) (λ c m.
    let approved : is_mark (mark_by p hints c) Approved ≡ true = (has-filter_back (λ k. is_mark (mark_by p hints k) Approved) (choices p) c m).1 in
    has-filter (λ k. is_mark (mark_by p hints k) Rejected) (choices p) c ∙ ap (λ b. b && has (choices p) c) (apart (mark_by p hints c) approved))
