use Rattle.std.proofs.Common.{rules, ◌≡◌, ◌∷◌, ◌++◌, [], ◌∙◌, sym}
use Rattle.std.proofs.lemmas.Result.{err_from_is_err_and}
use Rattle.cost_vector.specs.Grammar.{term_of}
use Rattle.cost_vector.proofs.LevelTexts.{term_of-lacks_plus}
use Rattle.cost_vector.proofs.Readings.{or_fault, part_fault, part_full, part_last, part_more}
use Rattle.cost_vector.proofs.reader.Reader.sum.Goals as goal

pub returns-in_err-term : goal.returns-in_err-term
returns-in_err-term c =
    let p = err_from_is_err_and c.from_residual.result c.from_residual.ensures.1 in
    rw (p.1, p.2) (or_fault c.in_err-term.field-0.0 (part_fault 43 16 term_of term_of-lacks_plus _ _ _ c.loop-terms.invariant _) c.in_err-term.ensures)

pub returns-then-len-eq16 : goal.returns-then-len-eq16
returns-then-len-eq16 c =
    let more : c.push.new.self ≡ c.loop-terms.terms ++ c.in_ok-term.term ∷ [] = search rules in
    part_full 43 16 term_of term_of-lacks_plus _ _ _ c.loop-terms.invariant _ c.in_ok-term.term _ c.in_ok-term.ensures more (sym c.len.ensures ∙ c.if-len-eq16.true)

pub returns-then-not-pass : goal.returns-then-not-pass
returns-then-not-pass c =
    let more : c.push.new.self ≡ c.loop-terms.terms ++ c.in_ok-term.term ∷ [] = search rules in
    part_last 43 16 term_of term_of-lacks_plus _ _ _ c.loop-terms.invariant _ _ c.in_ok-term.term _ c.in_ok-term.ensures more c.if-not-pass.ensures.no.0 c.if-not-pass.ensures.no.1

pub loop-terms-preserved : goal.loop-terms-preserved
loop-terms-preserved c =
    let more : c.push.new.self ≡ c.loop-terms.terms ++ c.in_ok-term.term ∷ [] = search rules in
    part_more 43 16 term_of term_of-lacks_plus _ _ _ c.loop-terms.invariant _ _ c.in_ok-term.term _ c.in_ok-term.ensures more c.if-not-pass.ensures.yes (λ full. c.if-len-eq16.false (c.len.ensures ∙ full))
