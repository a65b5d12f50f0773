-- Texts that stand in one table of bytes.
use Rattle.std.specs.Prelude.{ℕ, Bool, ◌&&◌, nat_le, List, map, length}
use Rattle.std.specs.List.{slice_range}
use Rattle.universe_parts.specs.declared.text_table.TextSpan.{TextSpan}

-- the text that stands at a place
abbrev pub text_at : List ℕ → TextSpan → List ℕ
text_at bytes span = slice_range bytes span.first span.end

abbrev pub texts_at : List ℕ → List TextSpan → List (List ℕ)
texts_at bytes spans = map (text_at bytes) spans

-- a place is within the table
abbrev pub is_span : List ℕ → TextSpan → Bool
is_span bytes span = nat_le span.first span.end && nat_le span.end (length bytes)
