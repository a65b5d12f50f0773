-- Each part of a setting is known of a type, or asked of the caller.
use Rattle.std.proofs.Common.{◌≡◌, ◌+◌, ℕ}
use Rattle.std.proofs.lemmas.Bool.{and_from}
use Rattle.lists.specs.Sets.{is_rising}
use Rattle.resolver_model.specs.Problems.{Problem, IsWellFormed, version_count, dependency_count}
use Rattle.resolver_model.specs.Costs.{Table}
use Rattle.resolver_model.specs.Rules.{Rules, AreWellFormed}
use Rattle.resolver_model.specs.Legal.{IsSetting}
use Rattle.search_core.specs.Begins.{MayBegin}
use Rattle.search_core.specs.Sessions.{setting_of}
use Rattle.search_core.proofs.beginning.begins.Goals as goal

setting_is : (p : Problem) (table : Table) (rules : Rules) (slice actors : ℕ) → IsWellFormed p → table.choices ≡ version_count p + dependency_count p → AreWellFormed rules → MayBegin p table rules slice actors → IsSetting (setting_of p table rules slice actors)
setting_is p table rules slice actors formed fits are may = record {
  problem = formed;
  table = fits;
  approved = and_from (is_rising rules.approved) _ are.approved may.approved;
  rejected = and_from (is_rising rules.rejected) _ are.rejected may.rejected;
  apart = are.apart;
  caps = may.caps;
  slice = may.slice_is;
  actors = may.actors_are;
}

pub returns : goal.returns
returns c = setting_is c.args.basis.now.problem c.args.basis.now.table c.args.rules.now c.args.slice c.args.actors c.versions.ensures.formed c.args.basis.now.fits c.are_well_formed.ensures c.requires
