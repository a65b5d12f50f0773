use Rattle.std.proofs.Common.{◌+◌, take, sym, subst}
use Rattle.hint_effects.specs.Stamped.{AreStamps}
use Rattle.hint_effects.specs.declared.by_target.ByTarget.{ByTarget}
use Rattle.hint_effects.proofs.Stamps.{unmarked, marked-next}
use Rattle.hint_effects.proofs.marking.stamps_of.Goals as goal
use Rattle.hint_effects.proofs.marking.stamps_of.Goals.{in-Marks+in_ok-set, in_default}

pub loop-place-preserved : goal.loop-place-preserved
loop-place-preserved c =
    let k = c.loop-place.place in
    let hints = c.args.hints.now in
    elim c.match-hint.branch [
      | in-Marks+in_ok-set w ↦
          subst (λ (stamps : ByTarget). AreStamps hints (take (k + 1) hints) stamps) (sym w.stamps-is)
          (marked-next hints k c.index-hints-place.result c.loop-place-test.true c.index-hints-place.is c.loop-place.stamps c.loop-place.invariant
          w.in-Marks.mark w.in-Marks.target w.set.new.self w.in-Marks.is w.in_ok-set.ensures)
      | in_default w ↦
          subst (λ (stamps : ByTarget). AreStamps hints (take (k + 1) hints) stamps) (sym w.stamps-is)
          (unmarked hints k c.index-hints-place.result c.loop-place-test.true c.index-hints-place.is c.loop-place.stamps c.loop-place.invariant
          w.in_default.field-0 w.in_default.field-1 w.in_default.field-2 w.in_default.is)
    ]
