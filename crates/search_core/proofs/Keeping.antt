-- A set that no choice is against, and whose cost is over no cap, keeps the rules.
use Rattle.std.proofs.Common.{◌≡◌, ℕ, List, [], ◌∷◌, true, false, not, ◌&&◌, refl, nat_eq, eq-eqb}
use Rattle.std.specs.List.{list_all, list_any}
use Rattle.std.proofs.lemmas.Bool.{and_from, or_parts, not-false, not_from_false}
use Rattle.lists.proofs.Sets.{list_all-from_has}
use Rattle.lists.proofs.Truth.{and_second-false}
use Rattle.lists.specs.Sets.{has, is_subset, is_disjoint}
use Rattle.resolver_model.specs.Rules.{Rules, Cap, keeps, is_against, is_over, is_under}

under_all : (parts : List ℕ) (caps : List Cap) → ((level : ℕ) → list_any (λ (c : Cap). nat_eq c.0 level && not (is_under parts c)) caps ≡ false) → list_all (is_under parts) caps ≡ true
under_all parts [] h = refl
under_all parts (c ∷ caps) h =
    let own = or_parts (nat_eq c.0 c.0 && not (is_under parts c)) _ (h c.0) in
    and_from (is_under parts c) _ (not-false _ (and_second-false (nat_eq c.0 c.0) (not (is_under parts c)) own.0 (eq-eqb c.0 c.0 refl)))
    (under_all parts caps (λ level. (or_parts (nat_eq c.0 level && not (is_under parts c)) _ (h level)).1))

pub keeps_from : (rules : Rules) (set parts : List ℕ) → ((c : ℕ) → is_against rules set c ≡ false) → ((level : ℕ) → is_over rules parts level ≡ false) → keeps rules set parts ≡ true
keeps_from rules set parts against over =
    let both = λ (c : ℕ). or_parts (has rules.rejected c && has set c) (has rules.approved c && not (has set c)) (against c) in
    and_from (is_subset rules.approved set && is_disjoint rules.rejected set) _
    (and_from (is_subset rules.approved set) _
    (list_all-from_has (has set) rules.approved (λ c h. not-false _ (and_second-false (has rules.approved c) (not (has set c)) (both c).1 h)))
    (list_all-from_has (λ c. not (has set c)) rules.rejected (λ c h. not_from_false _ (and_second-false (has rules.rejected c) (has set c) (both c).0 h))))
    (under_all parts rules.caps over)
