use Rattle.std.proofs.Common.{length, arith, rules, sym}
use Rattle.std.proofs.lemmas.List.Sums.{prefix_len_is}
use Rattle.dep_fields.specs.TokenViews.{has}
use Rattle.dep_fields.proofs.tokens.run_len.Goals as goal

pub returns-then-not-has-clause-run : goal.returns-then-not-has-clause-run
returns-then-not-has-clause-run c =
    sym (prefix_len_is (has c.args.class) c.args.text.now c.loop-i.i 0 (omega arith) c.loop-i.invariant (λ _. search rules))

pub returns-clause-run : goal.returns-clause-run
returns-clause-run c =
    sym (prefix_len_is (has c.args.class) c.args.text.now (length c.args.text.now) 0 (omega arith) (search rules) (λ h. absurd (omega arith)))
