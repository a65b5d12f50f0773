use Rattle.resolve_words.proofs.NoSamples.{no-sample}
use Rattle.resolve_words.proofs.samples.read_sample.Goals as goal

pub returns-in-None : goal.returns-in-None
returns-in-None c = no-sample c.args.text.now c.in_ok-seed.count.now c.in_ok-seed.ensures.2 c.in-None.ensures
