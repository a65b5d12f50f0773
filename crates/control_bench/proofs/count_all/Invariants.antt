use Rattle.std.proofs.Common.{◌≡◌, ◌≤◌, ◌+◌, ℕ, length}
use Rattle.std.specs.List.{sum_by}
use Rattle.control_file.specs.Text.{ParagraphText, reading, reading_of}
use Rattle.control_bench.proofs.count_all.Given as goal

-- what was counted so far, and what is left to read, make the whole
abbrev pub invariant-loop-paragraph : goal.invariant-loop-paragraph
invariant-loop-paragraph l =
    let whole = reading l.text in
    let left = reading_of l.reader in
    record {
      paragraphs : l.counts.paragraphs + length left.paragraphs ≡ length whole.paragraphs;
      fields : l.counts.fields + sum_by (λ (p : ParagraphText). length p.fields) left.paragraphs ≡ sum_by (λ (p : ParagraphText). length p.fields) whole.paragraphs;
      fault : left.fault ≡ whole.fault;
      few : l.counts.paragraphs + length l.reader.text ≤ length l.text;
      short : l.counts.fields + length l.reader.text ≤ length l.text;
    }

abbrev pub decreases-loop-paragraph : goal.decreases-loop-paragraph
decreases-loop-paragraph l = length l.reader.text
