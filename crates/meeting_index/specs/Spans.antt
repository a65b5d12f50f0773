-- To which side bounds are open.
use Rattle.std.specs.Prelude.{Option, Some, None}
use Rattle.dep_fields.specs.Relationships.{VersionBound}
use Rattle.dep_fields.specs.declared.Op.{Op}
use Rattle.dep_fields.specs.declared.Op.TheVariants as op
use Rattle.meeting_index.specs.declared.keys.Span.{Span}
use Rattle.meeting_index.specs.declared.keys.Span.TheVariants as span

abbrev pub span_of : Op → Span
span_of op.Less = span.Earlier
span_of op.AtMost = span.Earlier
span_of op.Equal = span.Equal
span_of op.AtLeast = span.Later
span_of op.More = span.Later

abbrev pub span_at : Option VersionBound → Span
span_at None = span.All
span_at (Some bound) = span_of bound.op
