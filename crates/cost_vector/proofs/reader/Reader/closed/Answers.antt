use Rattle.std.proofs.lemmas.Result.{err_from_is_err_and}
use Rattle.cost_vector.proofs.LevelTexts.{closed_fault}
use Rattle.cost_vector.proofs.Readings.{or_fault, closed_open_end, closed_whole}
use Rattle.cost_vector.proofs.reader.Reader.closed.Goals as goal

pub returns-in_err-terms : goal.returns-in_err-terms
returns-in_err-terms c =
    let p = err_from_is_err_and c.from_residual.result c.from_residual.ensures.1 in
    rw (p.1, p.2) (or_fault c.in_err-terms.field-0.0 (closed_fault _ _) c.in_err-terms.ensures)

pub returns-then-not-pass : goal.returns-then-not-pass
returns-then-not-pass c = closed_open_end _ _ _ _ c.in_ok-terms.ensures c.if-not-pass.ensures.no.0 c.if-not-pass.ensures.no.1

pub returns : goal.returns
returns c = closed_whole _ _ _ _ _ _ c.in_ok-terms.ensures c.if-not-pass.ensures.yes c.spaces.ensures
