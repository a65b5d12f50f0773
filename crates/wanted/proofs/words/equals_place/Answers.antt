use Rattle.universe.proofs.FirstBytes.{first-byte}
use Rattle.wanted.proofs.words.equals_place.Goals as goal

pub returns : goal.returns
returns c = first-byte 61 c.args.word.now c.find_byte.result c.find_byte.ensures
