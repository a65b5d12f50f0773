-- The pieces that a dependency's resolvers are put together from.
use Rattle.std.proofs.Common.{◌≡◌, ◌<◌, ◌≤◌, ◌+◌, ℕ, zero, suc, List, [], ◌∷◌, ◌++◌, Bool, true, false, ◌&&◌, nat_le, arith, refl, ap, ◌∙◌}
use Rattle.std.specs.List.{filter}
use Rattle.std.proofs.lemmas.Bool.{and_from, le-leb, and_right}
use Rattle.std.proofs.lemmas.Bool.Decides.{nat_tests}
use Rattle.lists.proofs.Below.{filter-below_yes, filter-below_no}
use Rattle.lists.specs.Below.{below}
use Rattle.resolver_model.specs.Problems.{Problem}
use Rattle.problem.specs.Resolving.{is_free_install, free_versions}

leb_below : (a b : ℕ) → b < a → nat_le a b ≡ false
leb_below a b lt = grind (arith, nat_tests)

next : (n : ℕ) → suc n ≡ n + 1
next n = omega arith

filter_none_below : (q : ℕ → Bool) (first n : ℕ) → n ≤ first → filter (λ c. nat_le first c && q c) (below n) ≡ []
filter_none_below q first zero le = refl
filter_none_below q first (suc n) le =
    let no : nat_le first n ≡ false = leb_below first n (omega arith) in
    let none : (nat_le first n && q n) ≡ false = ap (λ r. r && q n) no in
    let step : filter (λ c. nat_le first c && q c) (below (n + 1)) ≡ filter (λ c. nat_le first c && q c) (below n) = filter-below_no (λ c. nat_le first c && q c) n none in
    let same : filter (λ c. nat_le first c && q c) (below (suc n)) ≡ filter (λ c. nat_le first c && q c) (below (n + 1)) = ap (λ m. filter (λ c. nat_le first c && q c) (below m)) (next n) in
    same ∙ step ∙ filter_none_below q first n (omega arith)

pub free_versions_none : (p : Problem) (set : List ℕ) (first : ℕ) → free_versions p set first first ≡ []
free_versions_none p set first = filter_none_below (is_free_install p set) first first (omega arith)

pub free_versions_yes : (p : Problem) (set : List ℕ) (first v : ℕ) → first ≤ v → is_free_install p set v ≡ true → free_versions p set first (v + 1) ≡ free_versions p set first v ++ v ∷ []
free_versions_yes p set first v le h = filter-below_yes (λ c. nat_le first c && is_free_install p set c) v (and_from (nat_le first v) _ (le-leb first v le) h)

pub free_versions_no : (p : Problem) (set : List ℕ) (first v : ℕ) → is_free_install p set v ≡ false → free_versions p set first (v + 1) ≡ free_versions p set first v
free_versions_no p set first v h = filter-below_no (λ c. nat_le first c && is_free_install p set c) v (and_right (nat_le first v) (is_free_install p set v) h)
