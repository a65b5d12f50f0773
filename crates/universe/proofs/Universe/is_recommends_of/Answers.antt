use Rattle.std.proofs.Common.{◌∙◌, ◌&&◌, ◌==◌, sym, ap, arith}
use Rattle.resolver_model.specs.Problems.{Dependency}
use Rattle.universe_model.specs.Universes.{requirement_numbered}
use Rattle.universe.proofs.Kept.{count-same, dependency-same}
use Rattle.universe.proofs.Universe.is_recommends_of.Goals as goal

pub is_soft-soft-requires : goal.is_soft-soft-requires
is_soft-soft-requires c = omega (arith, count-same c.self.inside c.args.self.now c.self.view_is c.self.invariant, c.requires)

pub source-source-requires : goal.source-source-requires
source-source-requires c = omega (arith, count-same c.self.inside c.args.self.now c.self.view_is c.self.invariant, c.requires)

pub returns : goal.returns
returns c =
    let same = sym (dependency-same c.self.inside c.args.self.now c.self.view_is c.self.invariant c.args.dep) in
    let r = requirement_numbered c.args.self.now c.args.dep in
    c.is_all.ensures
    ∙ ap (λ soft. soft && (c.source-source.result == c.args.version) && (c.group_of.result == c.args.place)) (c.is_soft-soft.ensures ∙ ap (λ (d : Dependency). d.soft) same)
    ∙ ap (λ source. r.dependency.soft && (source == c.args.version) && (c.group_of.result == c.args.place)) (c.source-source.ensures.source ∙ ap (λ (d : Dependency). d.source) same)
    ∙ ap (λ group. r.dependency.soft && (r.dependency.source == c.args.version) && (group == c.args.place)) c.group_of.ensures
