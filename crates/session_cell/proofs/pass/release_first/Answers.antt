use Rattle.std.proofs.Common.{arith, ◌≡◌, ◌*◌, ℕ, length, sym, subst, ap}
use mathlib.Core.Option.{none}
use Rattle.atomic_table.specs.Table.{Me, step, Allows}
use Rattle.search_core.specs.Sessions.{Session}
use Rattle.cell_rule.specs.declared.view.View.{View}
use Rattle.cell_rule.specs.Turns.{IsKept, Opened}
use Rattle.cell_rule.proofs.Keeps.{opens}
use Rattle.session_cell.proofs.pass.release_first.Goals as goal

pub store-requires : goal.store-requires
store-requires c =
    let shared = c.args.turn.now.shared in
    let seat = c.args.seat.now in
    let own = seat.me.0.own in
    let Q : ℕ × Me Session View × ℕ → Type 0 = λ q. Allows (IsKept shared.key.value) q.0 seat.id q.1 0 (λ _. q.2) (λ _. Opened (step q.0 0 q.2 0 none) q.1 q.2) in
    let word : 2 * c.args.count ≡ 2 * length own.seen = ap (λ n. 2 * n) c.requires.count.0 in
    (c.requires.table.0, omega arith, subst Q (λ k. (sym c.requires.table.2 k, sym c.requires.seat k, sym word k)) (opens shared.key.value seat.id c.args.next own))
