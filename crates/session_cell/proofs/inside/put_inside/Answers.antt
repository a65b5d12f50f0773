use Rattle.std.proofs.Common.{ℕ, List, ◌∷◌, sym, subst, ◌∙◌, ap}
use Rattle.atomic_table.specs.Table.{Me, rest}
use Rattle.resolver_model.specs.Histories.{History}
use Rattle.search_core.specs.Sessions.{Session}
use Rattle.cell_rule.specs.declared.view.View.{View}
use Rattle.cell_rule.specs.Turns.{session_of, session_at, IsStep}
use Rattle.session_cell.specs.Calls.{ArePut}
use Rattle.session_cell.proofs.Calls.{put_step, called_from}
use Rattle.session_cell.proofs.inside.put_inside.Goals as goal

pub slot_mut-session-requires : goal.slot_mut-session-requires
slot_mut-session-requires c =
    let me = c.args.seat.now.me in
    (c.requires.table, (session_of me, c.requires.session ∙ ap (λ l. (0, session_of me) ∷ rest l) (sym c.requires.session)))

pub returns-clause-called : goal.returns-clause-called
returns-clause-called c =
    let me : Me Session View = c.args.seat.now.me in
    let y : Session = c.slot_mut-session.result.now in
    let z : Session = c.put-put.new.self in
    let job = c.args.job in
    let r = c.put-put.result in
    let F : Session → Type 0 = λ s. (entries : History) × IsStep job.actor s entries z × ArePut s.setting s.history job r entries in
    let step : F y = put_step y z job r c.put-put.ensures.ok c.put-put.ensures.err c.put-put.ensures.back in
    let told : F (session_of me) = subst F (sym (ap session_at c.slot_mut-session.ensures.value)) step in
    let only = ap (λ (l : List (ℕ × Session)). let n : Me Session View = (me.0, (0, z) ∷ rest l) in n) c.requires.session in
    (told.0, called_from job.actor me (me.0, (0, z) ∷ rest me.1) z told.0 only told.1, told.2)
