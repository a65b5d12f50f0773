use Rattle.std.proofs.Common.{◌∙◌, ap, length}
use Rattle.frontier.proofs.Ladders.{places_as_many}
use Rattle.frontier.proofs.fronts.route_all.Goals as goal

pub rebuild-requires-clause-places : goal.rebuild-requires-clause-places
rebuild-requires-clause-places c =
    places_as_many c.args.lines.now c.args.slots.now.items c.deref.result.now c.args.bests.now.items c.requires (ap length c.deref.ensures.value ∙ c.restand.ensures.same)
