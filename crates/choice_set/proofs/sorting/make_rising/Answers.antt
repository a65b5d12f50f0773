-- A sort moves numbers, and of equal neighbours one stays.
use Rattle.std.proofs.Common.{◌==◌, ◌∙◌, sym, ap}
use Rattle.std.proofs.lemmas.List.Filters.{dedup_is}
use Rattle.std.proofs.lemmas.List.Sorted.{list_any-IsPermutation}
use Rattle.std.proofs.lemmas.Map.Keys.{IsStrictlyIncreasing-dedup}
use Rattle.lists.specs.Sets.{has, is_rising}
use Rattle.lists.proofs.Sets.{is_rising-increasing, has-dedup}
use Rattle.choice_set.proofs.sorting.make_rising.Goals as goal

pub returns-then-len-gt1-clause-rising : goal.returns-then-len-gt1-clause-rising
returns-then-len-gt1-clause-rising c =
    ap is_rising (dedup_is _ _ _ c.dedup.ensures.filtered) ∙ is_rising-increasing _ (IsStrictlyIncreasing-dedup _ c.sort_unstable.ensures.sorted)

pub returns-then-len-gt1-clause-same : goal.returns-then-len-gt1-clause-same
returns-then-len-gt1-clause-same c =
    λ number.
    ap (λ numbers. has numbers number) (dedup_is _ _ _ c.dedup.ensures.filtered)
    ∙ has-dedup _ number
    ∙ sym (list_any-IsPermutation (λ other. other == number) _ _ c.sort_unstable.ensures.permutation)
