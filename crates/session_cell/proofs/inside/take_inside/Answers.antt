use Rattle.std.proofs.Common.{◌∷◌, sym, ◌∙◌, ap}
use Rattle.atomic_table.specs.Table.{rest}
use Rattle.cell_rule.specs.Turns.{session_of}
use Rattle.session_cell.proofs.inside.take_inside.Goals as goal

pub slot_mut-session-requires : goal.slot_mut-session-requires
slot_mut-session-requires c =
    let me = c.args.seat.now.me in
    (c.requires.table, (session_of me, c.requires.session ∙ ap (λ l. (0, session_of me) ∷ rest l) (sym c.requires.session)))
