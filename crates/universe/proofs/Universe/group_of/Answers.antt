use Rattle.std.proofs.Common.{◌∙◌, ap, sym, arith, slice_index_or}
use Rattle.std.proofs.lemmas.List.{get_or_read}
use Rattle.universe_model.specs.Universes.{Universe, no_requirement}
use Rattle.universe.specs.Views.{requirements_of}
use Rattle.universe.proofs.Zips.{group_in, requirements_of-groups, at-map}
use Rattle.universe.proofs.Kept.{group-within}
use Rattle.universe.proofs.Universe.group_of.Goals as goal

pub index-requires : goal.index-requires
index-requires c = omega (arith, group-within c.self.inside c.args.self.now c.self.view_is c.self.invariant c.args.dep c.requires, c.self.inside.groups.ok)

pub returns : goal.returns
returns c =
    let rs = requirements_of c.self.inside.problem.dependencies c.self.inside.groups.items c.self.inside.conflicts.items in
    get_or_read c.self.inside.groups.items c.args.dep c.index.result.now (group-within c.self.inside c.args.self.now c.self.view_is c.self.invariant c.args.dep c.requires) c.index.ensures 0
    ∙ ap (λ xs. slice_index_or xs c.args.dep 0) (sym (requirements_of-groups c.self.inside.problem.dependencies c.self.inside.groups.items c.self.inside.conflicts.items c.self.invariant.groups c.self.invariant.conflicts))
    ∙ at-map group_in rs c.args.dep no_requirement
    ∙ ap (λ (u : Universe). group_in (slice_index_or u.requirements c.args.dep no_requirement)) c.self.view_is
