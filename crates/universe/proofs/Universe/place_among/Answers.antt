use Rattle.std.proofs.Common.{rules}
use Rattle.laws_universe.specs.Standing.{known_order}
use Rattle.universe_model.specs.Universes.{version_numbered}
use Rattle.universe.specs.Order.{sought}
use Rattle.universe.proofs.Ordered.{searched-from_clause}
use Rattle.universe.proofs.Universe.place_among.Goals as goal

pub returns-clause-position : goal.returns-clause-position
returns-clause-position c =
    searched-from_clause (λ number. known_order (version_numbered c.args.self.now number) (sought c.args.«package» c.args.version.now.text.now)) c.args.order.now c.binary_search_by.result
    c.binary_search_by.ensures.position (λ a r g called. search rules)
