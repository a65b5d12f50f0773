use Rattle.std.proofs.Common.{◌≡◌, [], ◌∷◌, ◌++◌, true, sym, ◌∙◌}
use Rattle.control_file.specs.Text.{is_blank}
use Rattle.control_file.proofs.Cuts.{passed_more}
use Rattle.lists.proofs.Tests.{list_all-end}
use Rattle.control_file.proofs.skip_blank.Goals as goal

pub loop-first-preserved : goal.loop-first-preserved
loop-first-preserved c =
    let i = c.loop-first.invariant in
    let first = c.cut_line.result.0.now in
    let blank : is_blank first ≡ true = sym c.is_blank.ensures ∙ c.if-not-is_blank.false in
    (i.0 ++ first ∷ [], passed_more c.args.line c.args.text.now c.loop-first.number c.loop-first.rest.now i.0 first c.cut_line.result.1.now i.1 c.cut_line.ensures, list_all-end is_blank i.0 first i.2 blank)
