use Rattle.std.proofs.Common.{rules, ◌≡◌, ◌∷◌, ◌++◌, [], ◌∙◌, sym}
use Rattle.std.proofs.lemmas.Result.{err_from_is_err_and}
use Rattle.cost_vector.specs.Grammar.{level_of}
use Rattle.cost_vector.proofs.LevelTexts.{level_of-lacks_comma}
use Rattle.cost_vector.proofs.Readings.{or_fault, part_fault, part_full, part_last, part_more}
use Rattle.cost_vector.proofs.reader.Reader.levels.Goals as goal

pub returns-in_err-level : goal.returns-in_err-level
returns-in_err-level c =
    let p = err_from_is_err_and c.from_residual.result c.from_residual.ensures.1 in
    rw (p.1, p.2) (or_fault c.in_err-level.field-0.0 (part_fault 44 16 level_of level_of-lacks_comma _ _ _ c.loop-levels.invariant _) c.in_err-level.ensures)

pub returns-then-len-eq16 : goal.returns-then-len-eq16
returns-then-len-eq16 c =
    let more : c.push.new.self ≡ c.loop-levels.levels ++ c.in_ok-level.level ∷ [] = search rules in
    part_full 44 16 level_of level_of-lacks_comma _ _ _ c.loop-levels.invariant _ c.in_ok-level.level _ c.in_ok-level.ensures more (sym c.len.ensures ∙ c.if-len-eq16.true)

pub returns-then-not-pass : goal.returns-then-not-pass
returns-then-not-pass c =
    let more : c.push.new.self ≡ c.loop-levels.levels ++ c.in_ok-level.level ∷ [] = search rules in
    part_last 44 16 level_of level_of-lacks_comma _ _ _ c.loop-levels.invariant _ _ c.in_ok-level.level _ c.in_ok-level.ensures more c.if-not-pass.ensures.no.0 c.if-not-pass.ensures.no.1

pub loop-levels-preserved : goal.loop-levels-preserved
loop-levels-preserved c =
    let more : c.push.new.self ≡ c.loop-levels.levels ++ c.in_ok-level.level ∷ [] = search rules in
    part_more 44 16 level_of level_of-lacks_comma _ _ _ c.loop-levels.invariant _ _ c.in_ok-level.level _ c.in_ok-level.ensures more c.if-not-pass.ensures.yes (λ full. c.if-len-eq16.false (c.len.ensures ∙ full))
