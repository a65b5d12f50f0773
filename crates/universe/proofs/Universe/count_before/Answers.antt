use Rattle.std.proofs.Common.{rules}
use Rattle.std.proofs.lemmas.List.Sorted.{IsPartitionPoint-from_clause}
use Rattle.laws_universe.specs.Standing.{is_before}
use Rattle.universe_model.specs.Universes.{requirement_numbered}
use Rattle.universe.proofs.Universe.count_before.Goals as goal

pub returns : goal.returns
returns c =
    IsPartitionPoint-from_clause (λ dep. is_before c.args.place (requirement_numbered c.args.self.now dep)) _ _ c.partition_point.ensures.partitioned c.requires
    (λ a r q k. search rules)
