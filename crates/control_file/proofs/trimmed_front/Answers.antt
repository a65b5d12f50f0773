use Rattle.std.proofs.Common.{ℕ, ◌≤◌, Bool, not, length, drop, ap, sym, ◌∙◌, arith}
use Rattle.std.proofs.lemmas.List.{take_rest, drop_all}
use Rattle.std.specs.List.{position_or_len}
use Rattle.control_file.specs.Text.{is_space}
use Rattle.lists.proofs.Tests.{position_some, position_none_past}
use Rattle.control_file.proofs.trimmed_front.Goals as goal

abbrev is_other : ℕ → Bool
is_other b = not (is_space b)

pub returns-in-Some : goal.returns-in-Some
returns-in-Some c =
    let text = c.args.text.now in
    let found = position_some is_other text c.in-Some.place c.in-Some.ensures in
    take_rest text c.in-Some.place ∙ ap (λ k. drop k text) found.1

pub returns-in-None : goal.returns-in-None
returns-in-None c =
    let text = c.args.text.now in
    let past : length text ≤ position_or_len is_other text = position_none_past is_other text c.in-None.ensures in
    take_rest text (length text) ∙ drop_all (length text) text (omega arith) ∙ sym (drop_all (position_or_len is_other text) text past)
