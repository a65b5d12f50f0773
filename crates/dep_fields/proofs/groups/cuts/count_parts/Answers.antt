use Rattle.std.proofs.Common.{◌≡◌, ◌==◌, ℕ, take, take_all, arith}
use Rattle.std.proofs.lemmas.List.Splits.{length-slice_split}
use Rattle.dep_fields.specs.Fields.{bar}
use Rattle.dep_fields.proofs.groups.cuts.count_parts.Goals as goal

pub returns : goal.returns
returns c =
    let text = c.args.text.now in
    let whole : take c.loop-byte.byte-index text ≡ text = take_all c.loop-byte.byte-index text (omega arith) in
    omega (arith, rw whole at c.loop-byte.invariant, length-slice_split (λ (b : ℕ). b == bar) text)
