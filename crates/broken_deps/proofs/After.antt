-- The list after a choice, put together from what stays open and what the choice opens.
use Rattle.std.proofs.Common.{◌≡◌, ℕ, List, [], ◌∷◌, ◌++◌, ◌||◌, Bool, true, false, cond, refl, ap, sym, ◌∙◌, nat_lt, append-nil}
use Rattle.std.specs.List.{filter, list_any}
use Rattle.lists.specs.Below.{below}
use Rattle.lists.specs.Sets.{with}
use Rattle.resolver_model.specs.Problems.{Problem, version_count, dependency_count, package_of, state, is_open}
use Rattle.broken_deps.specs.Opening.{open_deps, nearby, candidates_after, stays_open}
use Rattle.broken_deps.proofs.Found.{stays_same}
use Rattle.broken_deps.proofs.Gathered.{filter-join, filter_within}

-- of the dependencies that were open, those that stay so are the ones that are open at the larger set
pub still_open : (p : Problem) (set larger : List ℕ) (c : ℕ) (deps list : List ℕ) → larger ≡ with set c → deps ≡ open_deps p set → list ≡ filter (stays_open p larger c) deps
    → list ≡ filter (is_open p larger) (open_deps p set)
still_open p set larger c deps list l d e =
    e ∙ ap (filter (stays_open p larger c)) d ∙ ap (λ more. filter (stays_open p more c) (open_deps p set)) l
    ∙ filter_within (is_open p set) (stays_open p (with set c) c) (is_open p (with set c)) (stays_same p set c) (below (dependency_count p))
    ∙ ap (λ more. filter (is_open p more) (open_deps p set)) (sym l)

pub open_after_version : (p : Problem) (set larger : List ℕ) (c before : ℕ) (list more : List ℕ) → nat_lt c (version_count p) ≡ true → before ≡ state p set (package_of p c)
    → list ≡ filter (is_open p larger) (open_deps p set) → more ≡ list ++ filter (is_open p larger) (nearby p c before) → more ≡ filter (is_open p larger) (candidates_after p set c)
open_after_version p set larger c before list more low b h e =
    let near = nearby p c (state p set (package_of p c)) in
    let all : candidates_after p set c ≡ open_deps p set ++ near = ap (λ r. open_deps p set ++ cond r near []) low in
    e ∙ ap (λ xs. xs ++ filter (is_open p larger) (nearby p c before)) h ∙ ap (λ v. filter (is_open p larger) (open_deps p set) ++ filter (is_open p larger) (nearby p c v)) b
    ∙ sym (filter-join (is_open p larger) (open_deps p set) near) ∙ ap (filter (is_open p larger)) (sym all)

pub open_after_leave : (p : Problem) (set larger : List ℕ) (c : ℕ) (list : List ℕ) → nat_lt c (version_count p) ≡ false → list ≡ filter (is_open p larger) (open_deps p set)
    → list ≡ filter (is_open p larger) (candidates_after p set c)
open_after_leave p set larger c list low h =
    let near = nearby p c (state p set (package_of p c)) in
    let all : candidates_after p set c ≡ open_deps p set = ap (λ r. open_deps p set ++ cond r near []) low ∙ append-nil (open_deps p set) in
    h ∙ ap (filter (is_open p larger)) (sym all)

-- whether a list has an item
abbrev has_some : List ℕ → Bool
has_some [] = false
has_some (x ∷ xs) = true

any_filtered : (f : ℕ → Bool) (xs : List ℕ) → list_any f xs ≡ has_some (filter f xs)
any_filtered f [] = refl
any_filtered f (x ∷ xs) = elim (f x) as (λ r. (r || list_any f xs) ≡ has_some (cond r (x ∷ filter f xs) (filter f xs))) [ true ↦ refl | false ↦ any_filtered f xs ]

-- of the dependencies that were open, one stays so where one is open at the larger set
pub still_any : (p : Problem) (set larger : List ℕ) (c : ℕ) → larger ≡ with set c → list_any (stays_open p larger c) (open_deps p set) ≡ list_any (is_open p larger) (open_deps p set)
still_any p set larger c l =
    any_filtered (stays_open p larger c) (open_deps p set)
    ∙ ap has_some (still_open p set larger c (open_deps p set) (filter (stays_open p larger c) (open_deps p set)) l refl refl)
    ∙ sym (any_filtered (is_open p larger) (open_deps p set))
