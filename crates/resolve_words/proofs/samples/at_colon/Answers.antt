use Rattle.std.proofs.Common.{take, drop, ap, ◌+◌, ◌-◌, ◌∙◌, length, length-drop, arith}
use Rattle.std.proofs.lemmas.List.{take_all}
use Rattle.ascii.specs.Bytes.{is_colon}
use Rattle.lists.proofs.Tests.{position_some, position_none}
use Rattle.resolve_words.proofs.samples.at_colon.Goals as goal

pub returns-in-Some : goal.returns-in-Some
returns-in-Some c =
    let text = c.args.text.now in
    let found = position_some is_colon text c.in-Some.place c.in-Some.ensures in
    (found.0, ap (λ k. take k text) found.1, take_all (length text - (c.in-Some.place + 1)) (drop (c.in-Some.place + 1) text) (omega (arith, length-drop (c.in-Some.place + 1) text)) ∙ ap (λ k. drop (k + 1) text) found.1)

pub returns-in-None : goal.returns-in-None
returns-in-None c = position_none is_colon c.args.text.now c.in-None.ensures
