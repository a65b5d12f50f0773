use Rattle.std.proofs.Common.{◌∙◌, false, ap, sym, arith, slice_index_or}
use Rattle.std.proofs.lemmas.List.{get_or_read}
use Rattle.universe_model.specs.Universes.{Universe, no_requirement}
use Rattle.universe.specs.Views.{requirements_of}
use Rattle.universe.proofs.Zips.{conflict_in, requirements_of-conflicts, at-map}
use Rattle.universe.proofs.Kept.{conflict-within}
use Rattle.universe.proofs.Universe.is_conflict.Goals as goal

pub index-requires : goal.index-requires
index-requires c = omega (arith, conflict-within c.self.inside c.args.self.now c.self.view_is c.self.invariant c.args.dep c.requires, c.self.inside.conflicts.ok)

pub returns : goal.returns
returns c =
    let rs = requirements_of c.self.inside.problem.dependencies c.self.inside.groups.items c.self.inside.conflicts.items in
    get_or_read c.self.inside.conflicts.items c.args.dep c.index.result.now (conflict-within c.self.inside c.args.self.now c.self.view_is c.self.invariant c.args.dep c.requires) c.index.ensures false
    ∙ ap (λ xs. slice_index_or xs c.args.dep false) (sym (requirements_of-conflicts c.self.inside.problem.dependencies c.self.inside.groups.items c.self.inside.conflicts.items c.self.invariant.groups c.self.invariant.conflicts))
    ∙ at-map conflict_in rs c.args.dep no_requirement
    ∙ ap (λ (u : Universe). conflict_in (slice_index_or u.requirements c.args.dep no_requirement)) c.self.view_is
