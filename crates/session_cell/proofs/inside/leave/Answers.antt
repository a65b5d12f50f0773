use Rattle.std.proofs.Common.{arith, ◌≡◌, ◌*◌, [], ◌∷◌, ℕ, length, sym, subst, ap}
use mathlib.Core.Option.{none}
use Rattle.atomic_table.specs.Table.{Me, step, Allows}
use Rattle.search_core.specs.Sessions.{Session}
use Rattle.cell_rule.specs.declared.view.View.{View}
use Rattle.cell_rule.specs.Views.{holding}
use Rattle.cell_rule.specs.Turns.{IsKept, Releases, session_of}
use Rattle.cell_rule.proofs.Keeps.{releases}
use Rattle.session_cell.proofs.inside.leave.Goals as goal

pub store-requires : goal.store-requires
store-requires c =
    let shared = c.args.turn.now.shared in
    let seat = c.args.seat.now in
    let own = seat.me.0.own in
    let y = session_of seat.me in
    let may = c.requires.turn.3 in
    let rooms = c.requires.turn.0 in
    let is : seat.me ≡ (holding rooms own, (0, y) ∷ []) = λ k. (c.requires.turn.2.0 k, c.requires.turn.2.1 k) in
    let Q : ℕ × Me Session View × ℕ → Type 0 = λ q. Allows (IsKept shared.key.value) q.0 seat.id q.1 0 (λ _. q.2) (λ _. Releases (step q.0 0 q.2 0 none) q.1 q.2) in
    let word : 2 * c.args.count ≡ 2 * length y.history = ap (λ n. 2 * n) c.requires.count.0 in
    (c.requires.table.0, omega arith, subst Q (λ k. (sym c.requires.table.2 k, sym is k, sym word k)) (releases shared.key.value seat.id own rooms y c.requires.turn.1 may.setting may.history may.by may.others))

pub returns-clause-returned : goal.returns-clause-returned
returns-clause-returned c =
    let seat = c.args.seat.now in
    let is : seat.me ≡ (holding c.requires.turn.0 seat.me.0.own, (0, session_of seat.me) ∷ []) = λ k. (c.requires.turn.2.0 k, c.requires.turn.2.1 k) in
    c.store.ensures.2 c.requires.turn.0 (session_of seat.me) is
