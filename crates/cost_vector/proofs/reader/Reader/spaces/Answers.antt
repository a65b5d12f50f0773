use Rattle.cost_vector.specs.Reading.{is_byte}
use Rattle.cost_vector.proofs.Readings.{run_from}
use Rattle.cost_vector.proofs.reader.Reader.spaces.Goals as goal

pub returns : goal.returns
returns c = rw (c.split_at.ensures.front, c.split_at.ensures.back) (run_from (is_byte 32) c.args.self.now.rest.now c.space_count.result c.space_count.ensures.within c.space_count.ensures.all c.space_count.ensures.ends)
