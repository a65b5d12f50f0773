use Rattle.std.proofs.Common.{◌≡◌, ℕ, take, None}
use Rattle.std.specs.List.{fold}
use Rattle.lists.specs.Sets.{with}
use Rattle.promotions.specs.Strongest.{strongest}
use Rattle.promotions.specs.Nearness.{better_near}
use Rattle.promotions.proofs.near.near_lines.Given as goal

abbrev pub invariant-loop-line : goal.invariant-loop-line
invariant-loop-line l = (c : ℕ) → fold (better_near c) None l.list.items ≡ strongest (take l.line-index l.lines) (with l.set c)
