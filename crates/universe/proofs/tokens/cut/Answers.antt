use Rattle.std.proofs.Common.{Some, None, ◌==◌, take, drop, ap, ◌+◌, ◌-◌, ◌∙◌, length, length-drop, arith}
use Rattle.std.proofs.lemmas.List.{take_all}
use Rattle.lists.proofs.Tests.{position_some, position_none}
use Rattle.universe.proofs.FirstBytes.{first-byte}
use Rattle.universe.proofs.tokens.cut.Goals as goal

pub returns-in-Some : goal.returns-in-Some
returns-in-Some c =
    let text = c.args.text.now in
    let found = position_some (λ byte. byte == c.args.mark) text c.in-Some.place (first-byte c.args.mark text (Some c.in-Some.place) c.in-Some.ensures) in
    (found.0, ap (λ k. take k text) found.1, take_all (length text - (c.in-Some.place + 1)) (drop (c.in-Some.place + 1) text) (omega (arith, length-drop (c.in-Some.place + 1) text)) ∙ ap (λ k. drop (k + 1) text) found.1)

pub returns-in-None : goal.returns-in-None
returns-in-None c = position_none (λ byte. byte == c.args.mark) c.args.text.now (first-byte c.args.mark c.args.text.now None c.in-None.ensures)
