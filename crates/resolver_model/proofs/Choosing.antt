-- Choices are below the count of choice numbers, and among the list of all choices.
use Rattle.std.proofs.Common.{inl, inr, ◌≡◌, ◌<◌, ◌+◌, ℕ, List, true, arith, nat_lt}
use Rattle.std.specs.List.{list_all}
use Rattle.std.proofs.lemmas.Bool.{and_parts, or_cases, ltb-true, lt-ltb}
use Rattle.lists.proofs.Below.{has-below_from}
use Rattle.lists.proofs.Sets.{has-filter_from}
use Rattle.lists.proofs.Tests.{list_all_weaker}
use Rattle.lists.specs.Below.{below}
use Rattle.lists.specs.Sets.{is_rising, has}
use Rattle.resolver_model.specs.Problems.{Problem, choices, is_choice, is_install, is_leave, is_choice_set, version_count, dependency_count}

-- a choice is below the count of choice numbers
choice_below : (p : Problem) (c : ℕ) → is_choice p c ≡ true → c < version_count p + dependency_count p
choice_below p c h =
    elim (or_cases (is_install p c) (is_leave p c) h) as (λ _. c < version_count p + dependency_count p) [
      | inl install ↦ let lt : c < version_count p = ltb-true c (version_count p) (and_parts _ _ install).0 in omega arith
      | inr leave ↦ ltb-true c (version_count p + dependency_count p) (and_parts _ _ (and_parts _ _ leave).0).1
    ]

pub has-choices : (p : Problem) (c : ℕ) → is_choice p c ≡ true → has (choices p) c ≡ true
has-choices p c h = has-filter_from (is_choice p) (below (version_count p + dependency_count p)) c h (has-below_from _ c (choice_below p c h))

-- all of a choice set is below the count of choice numbers
pub choice_set_below : (p : Problem) (n : ℕ) (set : List ℕ) → n ≡ version_count p + dependency_count p → is_choice_set p set ≡ true → list_all (λ c. nat_lt c n) set ≡ true
choice_set_below p n set e h =
    list_all_weaker (is_choice p) (λ c. nat_lt c n) (λ c k. lt-ltb c n (omega (arith, e, choice_below p c k))) set (and_parts (is_rising set) _ h).1
