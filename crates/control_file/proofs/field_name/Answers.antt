use Rattle.std.proofs.Common.{◌≡◌, ◌&&◌, false, get_or, sym, ap, ◌∙◌}
use Rattle.ascii.specs.Texts.{begins}
use Rattle.control_file.specs.Text.{is_colon}
use Rattle.control_file.specs.Passes.{may_begin}
use Rattle.lists.proofs.Tests.{position_some, position_none}
use Rattle.control_file.proofs.NameBytes.{name_there, name_bad, colon_missing, and-false}
use Rattle.control_file.proofs.field_name.Goals as goal
use Rattle.control_file.proofs.field_name.Goals.{else-is_colon_at-via-then-is_colon_at+else-begins_name, else-is_colon_at-via-else-is_colon_at}

pub returns-then-begins_name : goal.returns-then-begins_name
returns-then-begins_name c =
    name_there c.args.line.now c.name_length-len.result c.name_length-len.ensures.run (sym c.is_colon_at.ensures ∙ c.if-is_colon_at.true) (sym c.begins_name.ensures ∙ c.if-begins_name.true)

pub returns-in-Some : goal.returns-in-Some
returns-in-Some c =
    let line = c.args.line.now in
    let len = c.name_length-len.result in
    let any = position_some is_colon line c.in-Some.field-0 c.in-Some.ensures in
    let none : (is_colon (get_or line len 0) && begins may_begin line) ≡ false = elim c.else-is_colon_at.branch [
      | else-is_colon_at-via-then-is_colon_at+else-begins_name w ↦ and-false (is_colon (get_or line len 0)) (begins may_begin line) (sym w.begins_name.ensures ∙ w.if-begins_name.false)
      | else-is_colon_at-via-else-is_colon_at w ↦ ap (λ b. b && begins may_begin line) (sym c.is_colon_at.ensures ∙ w.if-is_colon_at.false)
    ] in
    name_bad line len c.name_length-len.ensures.run any.0 none

pub returns-in-None : goal.returns-in-None
returns-in-None c = colon_missing c.args.line.now (position_none is_colon c.args.line.now c.in-None.ensures)
