use Rattle.std.proofs.Common.{Some, None}
use Rattle.std.proofs.lemmas.Result.{err_from_is_err_and}
use Rattle.cost_vector.proofs.Readings.{or_fault, greatest_fault, greatest_read}
use Rattle.cost_vector.proofs.reader.Reader.greatest.Goals as goal

pub returns-then-not-pass : goal.returns-then-not-pass
returns-then-not-pass c =
    let spaces = rw c.split_at.ensures.back at c.spaces.ensures in
    rw c.if-not-pass.ensures.no.0 (greatest_fault _ _ _ c.requires spaces c.if-not-pass.ensures.no.1)

pub returns-in_err-terms : goal.returns-in_err-terms
returns-in_err-terms c =
    let p = err_from_is_err_and c.from_residual.result c.from_residual.ensures.1 in
    let spaces = rw c.split_at.ensures.back at c.spaces.ensures in
    rw (p.1, p.2) (or_fault c.in_err-terms.field-0.0 (greatest_read _ _ _ _ _ None c.requires spaces c.if-not-pass.ensures.yes) c.in_err-terms.ensures)

pub returns : goal.returns
returns c =
    let spaces = rw c.split_at.ensures.back at c.spaces.ensures in
    greatest_read _ _ _ _ _ (Some c.in_ok-terms.terms) c.requires spaces c.if-not-pass.ensures.yes c.in_ok-terms.ensures
