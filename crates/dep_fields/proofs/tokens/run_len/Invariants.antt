use Rattle.std.proofs.Common.{◌≡◌, ℕ, ◌<◌, get_or, true}
use Rattle.dep_fields.specs.TokenViews.{has}
use Rattle.dep_fields.proofs.tokens.run_len.Given as goal

abbrev pub invariant-loop-i : goal.invariant-loop-i
invariant-loop-i l = (k : ℕ) → k < l.i → has l.class (get_or l.text k 0) ≡ true
