use Rattle.std.proofs.Common.{arith, ◌+◌, ◌==◌, ℕ, sym, subst, ◌∙◌}
use mathlib.Core.Option.{none}
use prog.Atomic.{either}
use Rattle.atomic_table.specs.Table.{Me, step, Allows}
use Rattle.search_core.specs.Sessions.{Session}
use Rattle.cell_rule.specs.declared.view.View.{View}
use Rattle.cell_rule.specs.Turns.{IsKept, Claims}
use Rattle.cell_rule.proofs.Keeps.{claims}
use Rattle.session_cell.proofs.inside.enter.Goals as goal

pub compare_exchange-found-requires : goal.compare_exchange-found-requires
compare_exchange-found-requires g c =
    let shared = c.args.turn.now.shared in
    let seat = c.loop.seat in
    let own = c.args.seat.now.me.0.own in
    let word : ℕ = c.peek-word.result in
    let is = c.loop.invariant.me ∙ c.requires.waits in
    let Q : ℕ × Me Session View → Type 0 = λ q. Allows (IsKept shared.key.value) q.0 seat.id q.1 0 (λ n. either (n == word) (word + 1) n) (Claims (step q.0 0 word (word + 1) none) q.1) in
    (c.loop.invariant.table ∙ c.requires.table.0, omega arith, subst Q (λ k. (sym c.requires.table.2 k, sym is k)) (claims shared.key.value seat.id word own (omega arith)))
