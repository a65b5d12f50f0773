use Rattle.std.proofs.Common.{◌≡◌, ◌++◌, length, map}
use Rattle.std.specs.List.{filter}
use Rattle.control_file.specs.Text.{reading, reading_of}
use Rattle.stanza.specs.Stanzas.{status_stanza}
use Rattle.universe_model.specs.Reading.{is_counted, stanzas_in, text_fault}
use Rattle.universe_model.specs.declared.FileKind.TheVariants.{Status}
use Rattle.universe_parts.specs.Listed.{stanza_read}
use Rattle.stanza_list.proofs.status_stanzas.Given as goal

-- the stanzas so far and those to come are those of the whole, and a fault is still to come
abbrev pub invariant-loop-list : goal.invariant-loop-list
invariant-loop-list l = record {
  stanzas : map stanza_read l.list.items ++ filter (is_counted l.native) (stanzas_in status_stanza (reading_of l.reader).paragraphs)
      ≡ filter (is_counted l.native) (stanzas_in status_stanza (reading l.text).paragraphs);
  fault : text_fault Status status_stanza (reading_of l.reader) ≡ text_fault Status status_stanza (reading l.text);
}

abbrev pub decreases-loop-list : goal.decreases-loop-list
decreases-loop-list l = length l.reader.text
