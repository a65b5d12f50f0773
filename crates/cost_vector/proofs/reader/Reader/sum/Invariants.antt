use Rattle.std.proofs.Common.{length, ◌-◌}
use Rattle.cost_vector.specs.Grammar.{term_of}
use Rattle.cost_vector.specs.Reading.{IsPartway}
use Rattle.cost_vector.proofs.reader.Reader.sum.Given as goal

abbrev pub invariant-loop-terms : goal.invariant-loop-terms
invariant-loop-terms l = IsPartway 43 16 term_of l.initial.self.rest.now l.self.rest.now l.terms

abbrev pub decreases-loop-terms : goal.decreases-loop-terms
decreases-loop-terms l = 16 - length l.terms
