use Rattle.std.proofs.Common.{◌∙◌, ◌++◌, sym, ap}
use Rattle.hint_lines.specs.LinesLeft.{line_text}
use Rattle.hint_file.specs.Hinting.{first_fault, hints_of}
use Rattle.hint_file.proofs.Reading.{faultless-next, hints-next}
use Rattle.hint_file.proofs.hints.Hints.read.Goals as goal

pub loop-line-preserved : goal.loop-line-preserved
loop-line-preserved c =
    let u = c.args.universe.now in
    let line = line_text c.in-Some.line in
    let rest = c.next.new.self in
    let added = c.in_ok-add_line.ensures in
    record {
      faultless = faultless-next u line rest added.0 ∙ ap (first_fault u) (sym c.in-Some.ensures.steps) ∙ c.loop-line.invariant.faultless;
      hints = ap (λ hints. hints ++ hints_of u rest) added.1 ∙ hints-next u line rest c.loop-line.hints ∙ ap (λ lines. c.loop-line.hints ++ hints_of u lines) (sym c.in-Some.ensures.steps) ∙ c.loop-line.invariant.hints;
    }
