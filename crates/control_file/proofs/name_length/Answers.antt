use Rattle.std.proofs.Common.{length, arith, rules, sym}
use Rattle.std.proofs.lemmas.List.Sums.{prefix_len_is}
use Rattle.control_file.specs.Text.{is_name_byte}
use Rattle.control_file.proofs.name_length.Goals as goal

pub returns-then-not-is_name_byte-clause-run : goal.returns-then-not-is_name_byte-clause-run
returns-then-not-is_name_byte-clause-run c =
    sym (prefix_len_is is_name_byte c.args.line.now c.loop-place.place 0 (omega arith) c.loop-place.invariant (λ _. search rules))

pub returns-clause-run : goal.returns-clause-run
returns-clause-run c =
    sym (prefix_len_is is_name_byte c.args.line.now (length c.args.line.now) 0 (omega arith) (search rules) (λ h. absurd (omega arith)))
