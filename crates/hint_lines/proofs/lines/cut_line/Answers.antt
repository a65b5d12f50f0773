use Rattle.std.proofs.Common.{◌<◌, length, arith, add-one}
use Rattle.std.proofs.lemmas.List.{take_all, drop_all}
use Rattle.std.proofs.lemmas.Bool.{false_from_ne_true}
use Rattle.control_file.proofs.Cuts.{first_line_at, first_line_alone}
use Rattle.hint_lines.proofs.lines.cut_line.Goals as goal

pub returns-in-Some : goal.returns-in-Some
returns-in-Some c =
    let text = c.args.text.now in
    let place = c.in-Some.place in
    let found = c.in-Some.ensures in
    let lt : place < length text = omega (arith, found.0.high) in
    rw (c.split_at.ensures.front, c.split_at.ensures.back, add-one) (first_line_at text place lt (λ j h. false_from_ne_true _ (found.0.before j (omega arith) h)) found.1)

pub returns-in-None : goal.returns-in-None
returns-in-None c =
    let text = c.args.text.now in
    let some : 0 < length text = c.requires in
    let none = c.in-None.ensures in
    rw (c.split_at-in-None.ensures.front, c.split_at-in-None.ensures.back, take_all (length text) text (omega arith), drop_all (length text) text (omega arith)) (first_line_alone text some (λ j h. false_from_ne_true _ (none j (omega arith) h)))
