use Rattle.std.proofs.Common.{◌∙◌, ap, is_some}
use Rattle.resolver_model.specs.Problems.{installs_of}
use Rattle.problem.proofs.Installs.{some_found}
use Rattle.problem.proofs.parts.Parts.any_installs.Goals as goal

pub returns : goal.returns
returns c = c.is_some.ensures ∙ ap is_some c.first_install.ensures ∙ some_found (installs_of c.args.self.now c.args.package) c.args.items.now
