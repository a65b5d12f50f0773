use Rattle.std.proofs.Common.{◌∙◌, sym, Some, None}
use Rattle.std.proofs.lemmas.Result.{err_from_is_err_and}
use Rattle.cost_vector.specs.Grammar.{level_of}
use Rattle.cost_vector.proofs.LevelTexts.{level_of-blank}
use Rattle.cost_vector.proofs.Readings.{or_fault, reads_or_after, level_alone}
use Rattle.cost_vector.proofs.reader.Reader.level.Goals as goal

pub returns-then-at_max : goal.returns-then-at_max
returns-then-at_max c = reads_or_after level_of _ _ _ _ c.greatest.result c.spaces.ensures level_of-blank c.greatest.ensures

pub returns-in_err-terms : goal.returns-in_err-terms
returns-in_err-terms c =
    let p = err_from_is_err_and c.from_residual.result c.from_residual.ensures.1 in
    rw (p.1, p.2) (or_fault c.in_err-terms.field-0.0 (level_alone _ _ _ _ None c.spaces.ensures (sym c.at_max.ensures ∙ c.if-at_max.false)) c.in_err-terms.ensures)

pub returns : goal.returns
returns c = level_alone _ _ _ _ (Some c.in_ok-terms.terms) c.spaces.ensures (sym c.at_max.ensures ∙ c.if-at_max.false) c.in_ok-terms.ensures
