use Rattle.std.proofs.Common.{arith}
use Rattle.wanted.proofs.words.problem_of.Goals as goal

pub returns-clause-range : goal.returns-clause-range
returns-clause-range c = omega (arith, c.requires, c.problem-problem.ensures.packages)
