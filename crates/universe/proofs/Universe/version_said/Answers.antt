use Rattle.std.proofs.Common.{◌∙◌, sym, ap, map, Some, length, arith}
use Rattle.universe_model.specs.Tokens.{version_named}
use Rattle.universe.specs.Said.{token_said}
use Rattle.universe_model.specs.Universes.{Universe, owner_of}
use Rattle.universe.proofs.Walks.{absent-found}
use Rattle.universe.proofs.Universe.version_said.Goals as goal

pub returns-in-Removal-clause-version : goal.returns-in-Removal-clause-version
returns-in-Removal-clause-version c =
    let owners = c.self.invariant.owners ∙ ap (λ (u : Universe). map owner_of u.versions) c.self.view_is in
    ap Some (c.absent_of.ensures.absent ∙ sym (absent-found c.args.self.now c.self.inside.problem owners c.versions.ensures.formed c.args.«package»
    (omega (arith, c.requires, c.self.invariant.names, ap (λ (u : Universe). length u.names) c.self.view_is))))
    ∙ ap (λ said. version_named c.args.self.now c.args.«package» (token_said said)) (sym c.in-Removal.is)
