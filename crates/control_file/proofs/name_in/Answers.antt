use Rattle.std.proofs.Common.{take, ap, sym}
use Rattle.std.proofs.lemmas.List.{take_all}
use Rattle.std.specs.List.{position_or_len}
use Rattle.control_file.specs.Text.{is_colon}
use Rattle.lists.proofs.Tests.{position_some, position_none_past}
use Rattle.control_file.proofs.name_in.Goals as goal

pub returns-in-Some : goal.returns-in-Some
returns-in-Some c =
    let line = c.args.line.now in
    let found = position_some is_colon line c.in-Some.place c.in-Some.ensures in
    ap (λ k. take k line) found.1

pub returns-in-None : goal.returns-in-None
returns-in-None c =
    let line = c.args.line.now in
    sym (take_all (position_or_len is_colon line) line (position_none_past is_colon line c.in-None.ensures))
