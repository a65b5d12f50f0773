use Rattle.std.proofs.Common.{arith}
use Rattle.resolve_words.proofs.Numerals.{number-within, no-number}
use Rattle.resolve_words.proofs.reading.number_in.Goals as goal

pub returns-in-Ok-clause-number : goal.returns-in-Ok-clause-number
returns-in-Ok-clause-number c = number-within c.args.least c.args.most c.args.text.now c.in-Ok.number c.in-Ok.ensures.value.0 (omega arith) (omega arith)

pub returns-in_default-3-clause-number : goal.returns-in_default-3-clause-number
returns-in_default-3-clause-number c = no-number c.args.least c.args.most c.args.text.now c.in_default.ensures.value.0
