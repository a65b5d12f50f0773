use Rattle.cost_vector.specs.Grammar.{is_name_byte}
use Rattle.cost_vector.proofs.Readings.{run_from}
use Rattle.cost_vector.proofs.reader.Reader.word.Goals as goal

pub returns : goal.returns
returns c = rw (c.split_at.ensures.front, c.split_at.ensures.back) (run_from is_name_byte c.args.self.now.rest.now c.word_len.result c.word_len.ensures.within c.word_len.ensures.all c.word_len.ensures.ends)
