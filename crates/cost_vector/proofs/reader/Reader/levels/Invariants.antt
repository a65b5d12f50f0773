use Rattle.std.proofs.Common.{length, ◌-◌}
use Rattle.cost_vector.specs.Grammar.{level_of}
use Rattle.cost_vector.specs.Reading.{IsPartway}
use Rattle.cost_vector.proofs.reader.Reader.levels.Given as goal

abbrev pub invariant-loop-levels : goal.invariant-loop-levels
invariant-loop-levels l = IsPartway 44 16 level_of l.initial.self.rest.now l.self.rest.now l.levels

abbrev pub decreases-loop-levels : goal.decreases-loop-levels
decreases-loop-levels l = 16 - length l.levels
