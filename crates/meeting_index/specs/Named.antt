-- Names with numbers, and the numbers at a name.
use Rattle.std.specs.Prelude.{ℕ, ◌/◌, Bool, List, map}
use Rattle.std.specs.List.{filter}
use Rattle.std.specs.Ordering.{nat_cmp, on, then_cmp}
use Rattle.std.specs.declared.cmp.Ordering.{Ordering}
use Rattle.std.specs.Cmp.Lexicographic.{slice_cmp}
use Rattle.ascii.specs.Texts.{is_same}
use Rattle.meeting_index.specs.declared.named.Name.{Name}
use Rattle.meeting_index.specs.declared.named.Named.{Named}

-- whether two names have the same bytes
abbrev pub has_same : Name → Name → Bool
has_same a b = is_same a.bytes.now b.bytes.now

abbrev pub named_hash : Named → ℕ
named_hash named = named.hash

abbrev pub named_bytes : Named → List ℕ
named_bytes named = named.bytes.now

abbrev pub named_number : Named → ℕ
named_number named = named.number

-- by hash, and then by bytes
abbrev pub named_order : Named → Named → Ordering
named_order = then_cmp (on named_hash nat_cmp) (on named_bytes (slice_cmp nat_cmp))

-- the share of all hashes that its hash is in
abbrev pub share_of : Named → ℕ
share_of named = named.hash / 281474976710656

-- whether a name has these bytes
abbrev pub has_bytes : List ℕ → Named → Bool
has_bytes bytes named = is_same named.bytes.now bytes

-- the numbers of those of a list that have these bytes
abbrev pub numbers_in : List Named → List ℕ → List ℕ
numbers_in names bytes = map named_number (filter (has_bytes bytes) names)
