use Rattle.std.proofs.Common.{ap, sym, ◌∙◌}
use Rattle.control_file.specs.Raw.{raw_text}
use Rattle.stanza.specs.Found.{slot_of}
use Rattle.stanza.proofs.Found.{found_left, found_step, each_found}
use Rattle.stanza.proofs.slots.Slots.of.Goals as goal

pub loop-field-preserved : goal.loop-field-preserved
loop-field-preserved c =
    let field = raw_text c.in-Some.field in
    let rest = c.next.new.self in
    λ name.
    let slot = slot_of c.loop-field.slots name in
    ap (λ now. found_left now name rest) (c.keep.ensures name) ∙ found_step name field slot rest ∙ ap (found_left slot name) (sym c.in-Some.ensures.steps) ∙ c.loop-field.invariant name

pub returns : goal.returns
returns c =
    each_found c.loop-field.slots c.args.paragraph.now
    (λ name. ap (found_left (slot_of c.loop-field.slots name) name) (sym c.in-None.ensures.steps.0) ∙ c.loop-field.invariant name)
