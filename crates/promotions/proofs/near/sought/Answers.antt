use Rattle.std.proofs.Common.{◌∙◌, ap, sym, ℕ, List, arith}
use Rattle.lists.proofs.Sets.{is_rising-drop}
use Rattle.lists.specs.Sets.{has}
use Rattle.promotions.proofs.Lacks.{has_low, has_behind, found_first}
use Rattle.promotions.proofs.near.sought.Goals as goal

pub returns-in_default-clause-found : goal.returns-in_default-clause-found
returns-in_default-clause-found c = sym (has_low c.args.list.now c.args.number c.args.number (omega arith) c.in_default.ensures)

pub returns-in_default-clause-rest : goal.returns-in_default-clause-rest
returns-in_default-clause-rest c = λ n le. sym (has_low c.args.list.now c.args.number n le c.in_default.ensures)

pub returns-clause-found : goal.returns-clause-found
returns-clause-found c =
    let at = c.in-Some.ensures in
    found_first c.args.list.now c.split_at.result.1.now c.args.number c.in-Some.place c.requires at.0 at.1 at.2 c.split_at.ensures.back

pub returns-clause-rest : goal.returns-clause-rest
returns-clause-rest c =
    let at = c.in-Some.ensures in
    λ n le. ap (λ (xs : List ℕ). has xs n) c.split_at.ensures.back ∙ has_behind c.args.list.now c.args.number c.in-Some.place (omega (arith, at.0)) at.2 n le

pub returns-clause-rising : goal.returns-clause-rising
returns-clause-rising c = rw c.split_at.ensures.back (is_rising-drop c.args.list.now c.in-Some.place c.requires)
