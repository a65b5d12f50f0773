use Rattle.std.proofs.Common.{arith, ◌≡◌, ◌<◌, ◌-◌, suc, ◌∷◌, ap, subst, ◌∙◌}
use Rattle.cell_rule.specs.Views.{newcomer}
use Rattle.session_cell.specs.Passes.{Pass, new_pass, passes_below, passes_from_one}
use Rattle.session_cell.proofs.PassLists.{first_and_others}
use Rattle.session_cell.proofs.cell.SessionCell.new.Goals as goal

pub returns-clause-passes : goal.returns-clause-passes
returns-clause-passes c =
    let session = c.args.session in
    let shared = c.in_ok-turn.turn.shared in
    let table = shared.table_id in
    let stops = c.in_ok-stop.stop.shared.table_id in
    let key : shared.key.value ≡ session = c.in_ok-turn.ensures.table.2 in
    let others : c.deal.new.passes.items ≡ passes_from_one table stops session (c.args.actors - 1) = c.deal.ensures.passes ∙ ap (λ s. passes_from_one table stops s (c.args.actors - 1)) key in
    let first : Pass = record { table = c.release_first.new.seat.table_id; stops = c.deal.new.stop_seat.table_id; hand = c.release_first.new.seat.me.0.own; stop = c.deal.new.stop_seat.me.0.own.value } in
    let own = ap (λ m. m.0.own) c.release_first.ensures.seat ∙ (ap (λ m. m.0.own) c.deal.ensures.seat ∙ ap (λ s. newcomer s s.history 0) key) in
    let table_is = c.release_first.ensures.table ∙ (c.deal.ensures.table.0 ∙ c.in_ok-turn.ensures.seat.0) in
    let stops_is = c.deal.ensures.table.1 ∙ c.in_ok-stop.ensures.table.1 in
    let stop_is = ap (λ m. m.0.own.value) c.deal.ensures.stop in
    let is : first ≡ new_pass table stops session 0 = λ k. record { table = table_is k; stops = stops_is k; hand = own k; stop = stop_is k } in
    let put : c.insert.new.self.items ≡ first ∷ c.deal.new.passes.items = c.in-Ok-insert.ensures.items in
    let some_actor : 0 < c.args.actors = subst (λ n. 0 < n) c.requires c.in_ok-turn.ensures.actors in
    let count : suc (c.args.actors - 1) ≡ c.args.actors = omega (arith, some_actor) in
    put ∙ ((λ k. is k ∷ others k) ∙ (first_and_others table stops session (c.args.actors - 1) ∙ ap (passes_below table stops session) count))
