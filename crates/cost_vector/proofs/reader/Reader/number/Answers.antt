use Rattle.cost_vector.proofs.Readings.{number_run}
use Rattle.cost_vector.proofs.reader.Reader.number.Goals as goal

pub returns-clause-run : goal.returns-clause-run
returns-clause-run c = rw (c.split_at.ensures.front, c.split_at.ensures.back) (number_run c.args.self.now.rest.now c.number_at-count.result.0 c.number_at-count.ensures.within c.number_at-count.ensures.number c.number_at-count.ensures.ends)
