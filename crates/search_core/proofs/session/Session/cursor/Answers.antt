-- The cursor stands at no delivery past the last.
use Rattle.std.proofs.Common.{◌≤◌, arith, subst}
use Rattle.resolver_model.specs.Answers.{delivery_count}
use Rattle.laws_session.proofs.Counted.{IsCursorLow-legal}
use Rattle.search_core.specs.Sessions.{Session}
use Rattle.search_core.proofs.session.Session.cursor.Goals as goal

pub returns-clause-low : goal.returns-clause-low
returns-clause-low c =
    let i = c.self.inside in
    let e = c.cursor.ensures in
    let low = IsCursorLow-legal i.ledger.setting i.ledger.history c.self.invariant.legal in
    let le : c.cursor.result ≤ delivery_count i.ledger.history = omega (arith, e, low) in
    let P : Session → Type 0 = λ x. c.cursor.result ≤ delivery_count x.history in
    subst P c.self.view_is le
