use Rattle.std.proofs.Common.{◌<◌, ◌∙◌, ◌++◌, ◌+◌, ◌-◌, take, replicate, slice_index, ap, arith}
use Rattle.resolver_model.specs.Costs.{Table, with_amount}
use Rattle.hint_file.proofs.TableRows.{amounts-next, row-amount}
use Rattle.hint_file.proofs.prices.set_row.Goals as goal

pub loop-choice-preserved : goal.loop-choice-preserved
loop-choice-preserved c =
    let table = c.args.table.now in
    let row = c.args.row.now in
    let k = c.loop-choice.choice in
    let less : k < table.choices = omega (arith, c.loop-choice-test.true, c.choices-choice-end.ensures) in
    c.set.ensures ∙ ap (λ (t : Table). with_amount t c.args.level k (slice_index row k)) c.loop-choice.invariant
    ∙ row-amount table c.args.level (take k row ++ replicate (table.choices - k) 0) (take (k + 1) row ++ replicate (table.choices - (k + 1)) 0) k (slice_index row k)
    c.requires.level (amounts-next row table.choices k c.requires.row less)
