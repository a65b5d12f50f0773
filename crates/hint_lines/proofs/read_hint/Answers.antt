use Rattle.std.proofs.Common.{sym, ◌∙◌}
use Rattle.ascii.specs.Texts.{words}
use Rattle.hint_lines.specs.HintTexts.{read_text}
use Rattle.hint_lines.proofs.ThreeWords.{three-said}
use Rattle.hint_lines.proofs.read_hint.Goals as goal

pub returns-in-Three : goal.returns-in-Three
returns-in-Three c =
    three-said c.args.verb.now (words c.args.rest.now) c.in-Three.number.now c.in-Three.name.now c.in-Three.target.now (read_text c.read_addition.result)
    c.read_addition.ensures c.in-Three.ensures (sym c.is_same.ensures ∙ c.if-is_same.true)
