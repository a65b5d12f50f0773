use Rattle.std.proofs.Common.{◌≡◌, take, None}
use Rattle.std.specs.List.{fold}
use Rattle.std.specs.Option.{option_map}
use Rattle.promotions.specs.Nearness.{better_near}
use Rattle.promotions.proofs.near.strongest_with.Given as goal

abbrev pub invariant-loop-near : goal.invariant-loop-near
invariant-loop-near l = option_map (λ best. best.now) l.best ≡ fold (better_near l.choice) None (take l.near-index l.near)
