-- A proper subset costs less: no level costs more, and it has fewer choices.
use Rattle.std.proofs.Common.{inl, inr, ◌≡◌, ◌<◌, ◌≤◌, max, ℕ, List, [], ◌∷◌, ◌++◌, true, false, cond, length, map, refl, arith, nat_lt, get_or, zero, suc}
use Rattle.std.specs.List.{sum_by, fold}
use Rattle.std.specs.declared.cmp.Ordering.TheVariants.{Less, Equal}
use Rattle.std.specs.Ordering.{nat_cmp, ordering_then}
use Rattle.std.proofs.lemmas.Bool.{lt-ltb}
use Rattle.std.proofs.lemmas.Bool.Decides.{nat_tests}
use Rattle.std.proofs.Math.Nat.{eq-or-lt_of_le}
use Rattle.resolver_model.specs.Costs.{Table, Level, amount, level_cost, cost, cost_cmp, IsBefore}
pub use Rattle.lists.proofs.Sublists.{IsSublist, sublist_from_subset, sum_by-sublist, greatest-sublist, cases_sublist}

pub level_cost-sublist : (level : Level) (xs ys : List ℕ) → IsSublist xs ys → level_cost level xs ≤ level_cost level ys
level_cost-sublist level xs ys h =
    elim level.greatest as (λ r. cond r (fold max 0 (map (amount level) xs)) (sum_by (amount level) xs) ≤ cond r (fold max 0 (map (amount level) ys)) (sum_by (amount level) ys)) [
      | true ↦ greatest-sublist (amount level) xs ys h
      | false ↦ sum_by-sublist (amount level) xs ys h
    ]

-- level by level no more, and last less
costs_less : (levels : List Level) (xs ys : List ℕ) → IsSublist xs ys → length xs < length ys
    → cost_cmp (map (λ level. level_cost level xs) levels ++ length xs ∷ []) (map (λ level. level_cost level ys) levels ++ length ys ∷ []) ≡ Less
costs_less [] xs ys h lt = let t : nat_lt (length xs) (length ys) ≡ true = lt-ltb _ _ lt in rw t refl
costs_less (level ∷ levels) xs ys h lt =
    elim (eq-or-lt_of_le {n = level_cost level xs} {m = level_cost level ys} (level_cost-sublist level xs ys h)) as
    (λ _. ordering_then (nat_cmp (level_cost level xs) (level_cost level ys)) (cost_cmp (map (λ level. level_cost level xs) levels ++ length xs ∷ []) (map (λ level. level_cost level ys) levels ++ length ys ∷ [])) ≡ Less) [
      | inl same ↦ let tie : nat_cmp (level_cost level xs) (level_cost level ys) ≡ Equal = grind (arith, nat_tests) in rw tie (costs_less levels xs ys h lt)
      | inr less ↦ let first : nat_cmp (level_cost level xs) (level_cost level ys) ≡ Less = grind (arith, nat_tests) in rw first refl
    ]

-- a proper subset is before the set
pub IsBefore-subset : (table : Table) (xs ys : List ℕ) → IsSublist xs ys → length xs < length ys → IsBefore table xs ys
IsBefore-subset table xs ys h lt = let less : cost_cmp (cost table xs) (cost table ys) ≡ Less = costs_less table.levels xs ys h lt in rw less refl

-- no component of a sublist's cost is greater
pub cost_part-sublist : (table : Table) (xs ys : List ℕ) (k : ℕ) → IsSublist xs ys → length xs ≤ length ys → get_or (cost table xs) k 0 ≤ get_or (cost table ys) k 0
cost_part-sublist table xs ys k h few = go table.levels k
  where
    go : (levels : List Level) (k : ℕ) → get_or (map (λ level. level_cost level xs) levels ++ length xs ∷ []) k 0 ≤ get_or (map (λ level. level_cost level ys) levels ++ length ys ∷ []) k 0
    go [] zero = few
    go [] (suc k) = omega arith
    go (level ∷ levels) zero = level_cost-sublist level xs ys h
    go (level ∷ levels) (suc k) = go levels k
