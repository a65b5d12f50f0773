-- The parts of a group or a value as the program cuts them off.
use Rattle.std.specs.Prelude.{◌≡◌, ℕ, ◌+◌, ◌≤◌, List, ◌∷◌, ◌++◌, drop, length, Option, Some, None}
use Rattle.std.specs.Borrow.{Bor}
use Rattle.dep_fields.specs.declared.groups.Span as code
use Rattle.dep_fields.specs.Fields.{Span, comma, pieces, spans_in, behind_group, IsFirstGroup}

-- nothing is left behind a part, or its mark and the rest are
abbrev pub IsCut : ℕ → List ℕ → List ℕ → Option (Bor (List ℕ)) → Type 0
IsCut mark text part None = text ≡ part
IsCut mark text part (Some rest) = text ≡ part ++ mark ∷ rest.now

-- how much is left
abbrev pub left_len : Option (Bor (List ℕ)) → ℕ
left_len None = 0
left_len (Some text) = length text.now + 1

abbrev pub span_of : code.Span → Span
span_of span = record { at = span.at; text = span.text.now }

-- the first group of a value from a place on
pub record IsFirstSpan (value : List ℕ) (place : ℕ) (span : code.Span) : Type 0 where
  pub first : spans_in place (pieces comma (drop place value)) ≡ span_of span ∷ spans_in span.end (pieces comma (drop span.end value))
  pub behind : drop span.end value ≡ behind_group (drop place value)
  pub stands : IsFirstGroup (drop place value) span.text.now (drop span.end value)
  pub within : span.at + length span.text.now ≤ length value
  pub end_within : span.end ≤ length value
