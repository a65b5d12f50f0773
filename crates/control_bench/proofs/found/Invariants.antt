use Rattle.std.proofs.Common.{◌≡◌, ◌≤◌, ◌+◌, ℕ, length, is_some}
use Rattle.std.specs.List.{count_by}
use Rattle.control_file.specs.Text.{ParagraphText, reading, reading_of, field_named}
use Rattle.control_bench.proofs.found.Given as goal

-- what was counted so far, and what is left to read, make the whole
abbrev pub invariant-loop-paragraph : goal.invariant-loop-paragraph
invariant-loop-paragraph l =
    let whole = reading l.text in
    let left = reading_of l.reader in
    record {
      count : l.count + count_by (λ (p : ParagraphText). is_some (field_named l.name p.fields)) left.paragraphs ≡ count_by (λ (p : ParagraphText). is_some (field_named l.name p.fields)) whole.paragraphs;
      fault : left.fault ≡ whole.fault;
      few : l.count + length l.reader.text ≤ length l.text;
    }

abbrev pub decreases-loop-paragraph : goal.decreases-loop-paragraph
decreases-loop-paragraph l = length l.reader.text
