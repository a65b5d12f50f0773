use Rattle.std.proofs.Common.{map}
use Rattle.control_file.specs.Text.{reading, reading_of}
use Rattle.stanza.specs.Stanzas.{status_stanza}
use Rattle.universe_model.specs.Reading.{stanzas_in, is_counted, text_fault}
use Rattle.universe_model.specs.declared.FileKind.TheVariants.{Status}
use Rattle.universe_model.specs.declared.BuildEnd.TheVariants as build_end
use Rattle.universe_parts.specs.Listed.{stanza_read}
use Rattle.std.specs.List.{filter}
use Rattle.std.proofs.lemmas.Result.{err_from_is_err_and}
use Rattle.stanza_list.proofs.Steps.{counted-step, fault-step, end-found, next-some}
use Rattle.stanza_list.proofs.status_stanzas.Goals as goal

pub loop-list-preserved : goal.loop-list-preserved
loop-list-preserved c = record {
  stanzas = counted-step status_stanza c.args.native.now c.in-Some.paragraph (reading_of c.loop-list.reader).paragraphs (reading_of c.next_paragraph.new.reader).paragraphs
      (map stanza_read c.loop-list.list.items) (map stanza_read c.take_status.new.list.items) (filter (is_counted c.args.native.now) (stanzas_in status_stanza (reading c.args.text.now).paragraphs))
      (next-some Status (reading_of c.loop-list.reader) (reading_of c.next_paragraph.new.reader) c.in_ok-paragraph.field-0 c.in-Some.paragraph c.in-Some.is c.in_ok-paragraph.ensures.next).0 c.loop-list.invariant.stanzas c.in_ok-take_status.ensures.1;
  fault = fault-step Status status_stanza c.in-Some.paragraph (reading_of c.loop-list.reader) (reading_of c.next_paragraph.new.reader) (text_fault Status status_stanza (reading c.args.text.now))
      (next-some Status (reading_of c.loop-list.reader) (reading_of c.next_paragraph.new.reader) c.in_ok-paragraph.field-0 c.in-Some.paragraph c.in-Some.is c.in_ok-paragraph.ensures.next).0 (next-some Status (reading_of c.loop-list.reader) (reading_of c.next_paragraph.new.reader) c.in_ok-paragraph.field-0 c.in-Some.paragraph c.in-Some.is c.in_ok-paragraph.ensures.next).1 c.in_ok-take_status.ensures.0 c.loop-list.invariant.fault;
}

pub returns-in_err-take_status : goal.returns-in_err-take_status
returns-in_err-take_status c =
    let p = err_from_is_err_and c.from_residual-in_err-take_status.result c.from_residual-in_err-take_status.ensures.1 in
    rw (p.1, p.2) (end-found Status status_stanza c.in-Some.paragraph (reading_of c.loop-list.reader) (reading_of c.next_paragraph.new.reader).paragraphs
    (text_fault Status status_stanza (reading c.args.text.now)) c.in_err-take_status.field-0.0 build_end.NoMemory (next-some Status (reading_of c.loop-list.reader) (reading_of c.next_paragraph.new.reader) c.in_ok-paragraph.field-0 c.in-Some.paragraph c.in-Some.is c.in_ok-paragraph.ensures.next).0 c.loop-list.invariant.fault c.in_err-take_status.ensures)
