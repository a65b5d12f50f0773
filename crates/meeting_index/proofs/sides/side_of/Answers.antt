-- In order they serve as before.
use Rattle.std.proofs.Common.{◌∙◌}
use Rattle.std.proofs.lemmas.List.Sorted.{Contains-permutation, IsPermutation-sym}
use Rattle.meeting_index.proofs.CrowdLaws.{fitting-moved}
use Rattle.meeting_index.proofs.SideLaws.{serves-either}
use Rattle.meeting_index.proofs.sides.side_of.Goals as goal

pub returns-clause-serves : goal.returns-clause-serves
returns-clause-serves c =
    serves-either c.args.side c.args.by_number.now c.sort_unstable.new.self.items (λ bound number reach.
    fitting-moved c.in_ok-kept.kept.items c.sort_unstable.new.self.items c.sort_unstable.ensures.permutation bound number
    ∙ c.in_ok-kept.ensures.serves bound number reach)

pub returns-clause-part : goal.returns-clause-part
returns-clause-part c = λ y there.
    c.in_ok-kept.ensures.part y
    (Contains-permutation c.sort_unstable.new.self.items c.in_ok-kept.kept.items y
    (IsPermutation-sym c.in_ok-kept.kept.items c.sort_unstable.new.self.items c.sort_unstable.ensures.permutation) there)
