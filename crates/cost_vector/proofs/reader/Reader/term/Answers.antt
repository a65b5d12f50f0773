use Rattle.std.proofs.Common.{◌∙◌, sym, Some, None}
use Rattle.std.proofs.lemmas.Result.{err_from_is_err_and}
use Rattle.cost_vector.proofs.Readings.{or_fault, term_after, term_times, term_alone}
use Rattle.cost_vector.proofs.reader.Reader.term.Goals as goal

pub returns-in_err-times : goal.returns-in_err-times
returns-in_err-times c =
    let p = err_from_is_err_and c.from_residual.result c.from_residual.ensures.1 in
    rw (p.1, p.2) (or_fault c.in_err-times.field-0.0 (term_after _ _ _ _ None c.spaces.ensures) c.in_err-times.ensures)

pub returns-in_err-name : goal.returns-in_err-name
returns-in_err-name c =
    let p = err_from_is_err_and c.from_residual-in_err-name.result c.from_residual-in_err-name.ensures.1 in
    rw (p.1, p.2) (or_fault c.in_err-name.field-0.0 (term_times _ _ _ _ _ c.in_ok-times.times None c.spaces.ensures c.in_ok-times.ensures) c.in_err-name.ensures)

pub returns-in_err-name-2 : goal.returns-in_err-name-2
returns-in_err-name-2 c =
    let p = err_from_is_err_and c.from_residual-in_err-name-2.result c.from_residual-in_err-name-2.ensures.1 in
    rw (p.1, p.2) (or_fault c.in_err-name-2.field-0.0 (term_alone _ _ _ _ None c.spaces.ensures (sym c.at_digit.ensures ∙ c.if-at_digit.false)) c.in_err-name-2.ensures)

pub returns-in_ok-name : goal.returns-in_ok-name
returns-in_ok-name c = term_times _ _ _ _ _ c.in_ok-times.times (Some c.in_ok-name.name) c.spaces.ensures c.in_ok-times.ensures c.in_ok-name.ensures

pub returns-in_ok-name-2 : goal.returns-in_ok-name-2
returns-in_ok-name-2 c = term_alone _ _ _ _ (Some c.in_ok-name-2.name) c.spaces.ensures (sym c.at_digit.ensures ∙ c.if-at_digit.false) c.in_ok-name-2.ensures
