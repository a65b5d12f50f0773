use Rattle.std.proofs.Common.{◌≡◌, ◌==◌, ℕ, take}
use Rattle.std.specs.List.{count_by}
use Rattle.dep_fields.specs.Fields.{bar}
use Rattle.dep_fields.proofs.groups.cuts.count_parts.Given as goal

abbrev pub invariant-loop-byte : goal.invariant-loop-byte
invariant-loop-byte l = l.bars ≡ count_by (λ (b : ℕ). b == bar) (take l.byte-index l.text)
