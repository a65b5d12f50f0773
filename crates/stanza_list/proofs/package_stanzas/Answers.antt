use Rattle.std.proofs.Common.{map}
use Rattle.control_file.specs.Text.{reading, reading_of}
use Rattle.stanza.specs.Stanzas.{package_stanza}
use Rattle.universe_model.specs.Reading.{stanzas_in, is_counted, text_fault}
use Rattle.universe_model.specs.declared.FileKind.TheVariants.{Packages}
use Rattle.universe_model.specs.declared.BuildEnd.TheVariants as build_end
use Rattle.universe_parts.specs.Listed.{stanza_read}
use Rattle.std.specs.List.{filter}
use Rattle.std.proofs.lemmas.Result.{err_from_is_err_and}
use Rattle.stanza_list.proofs.Steps.{counted-step, fault-step, end-found, next-some}
use Rattle.stanza_list.proofs.package_stanzas.Goals as goal

pub loop-list-preserved : goal.loop-list-preserved
loop-list-preserved c = record {
  stanzas = counted-step package_stanza c.args.native.now c.in-Some.paragraph (reading_of c.loop-list.reader).paragraphs (reading_of c.next_paragraph.new.reader).paragraphs
      (map stanza_read c.loop-list.list.items) (map stanza_read c.take_package.new.list.items) (filter (is_counted c.args.native.now) (stanzas_in package_stanza (reading c.args.text.now).paragraphs))
      (next-some Packages (reading_of c.loop-list.reader) (reading_of c.next_paragraph.new.reader) c.in_ok-paragraph.field-0 c.in-Some.paragraph c.in-Some.is c.in_ok-paragraph.ensures.next).0 c.loop-list.invariant.stanzas c.in_ok-take_package.ensures.1;
  fault = fault-step Packages package_stanza c.in-Some.paragraph (reading_of c.loop-list.reader) (reading_of c.next_paragraph.new.reader) (text_fault Packages package_stanza (reading c.args.text.now))
      (next-some Packages (reading_of c.loop-list.reader) (reading_of c.next_paragraph.new.reader) c.in_ok-paragraph.field-0 c.in-Some.paragraph c.in-Some.is c.in_ok-paragraph.ensures.next).0 (next-some Packages (reading_of c.loop-list.reader) (reading_of c.next_paragraph.new.reader) c.in_ok-paragraph.field-0 c.in-Some.paragraph c.in-Some.is c.in_ok-paragraph.ensures.next).1 c.in_ok-take_package.ensures.0 c.loop-list.invariant.fault;
}

pub returns-in_err-take_package : goal.returns-in_err-take_package
returns-in_err-take_package c =
    let p = err_from_is_err_and c.from_residual-in_err-take_package.result c.from_residual-in_err-take_package.ensures.1 in
    rw (p.1, p.2) (end-found Packages package_stanza c.in-Some.paragraph (reading_of c.loop-list.reader) (reading_of c.next_paragraph.new.reader).paragraphs
    (text_fault Packages package_stanza (reading c.args.text.now)) c.in_err-take_package.field-0.0 build_end.NoMemory (next-some Packages (reading_of c.loop-list.reader) (reading_of c.next_paragraph.new.reader) c.in_ok-paragraph.field-0 c.in-Some.paragraph c.in-Some.is c.in_ok-paragraph.ensures.next).0 c.loop-list.invariant.fault c.in_err-take_package.ensures)
