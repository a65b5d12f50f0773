use Rattle.std.proofs.Common.{◌≡◌, drop, IsTrue}
use Rattle.lists.specs.Sets.{is_rising}
use Rattle.promotions.specs.declared.near.Lack.TheVariants.{Nothing}
use Rattle.promotions.specs.Nearness.{lack_from}
use Rattle.promotions.proofs.near.lack_in.Given as goal

-- what is left of the one list is looked for in what is left of the other
abbrev pub invariant-loop-choice : goal.invariant-loop-choice
invariant-loop-choice l = (lack_from l.set Nothing l.part ≡ lack_from l.rest l.lack (drop l.choice-index l.part)) × IsTrue (is_rising l.part) × IsTrue (is_rising l.rest)
