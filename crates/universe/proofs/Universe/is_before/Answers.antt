use Rattle.std.proofs.Common.{◌∙◌, ◌≡◌, ◌≤◌, Bool, ℕ, cond, not, length, nat_lt, sym, ap, arith, true, false}
use Rattle.std.proofs.lemmas.List.{get_or_past}
use Rattle.resolver_model.specs.Problems.{Dependency}
use Rattle.laws_universe.specs.Standing.{is_before}
use Rattle.universe_model.specs.Dependencies.{Requirement}
use Rattle.universe_model.specs.Universes.{Universe, no_requirement, requirement_numbered}
use Rattle.universe.proofs.Kept.{count-same, dependency-same}
use Rattle.universe.proofs.Universe.is_before.Goals as goal

past : (u : Universe) (place dep : ℕ) → length u.requirements ≤ dep → true ≡ is_before place (requirement_numbered u dep)
past u place dep l = sym (ap (is_before place) (get_or_past u.requirements dep no_requirement l))

chosen : (place : ℕ) (r : Requirement) (b : Bool) → r.dependency.soft ≡ b → is_before place r ≡ cond b (nat_lt r.group place) (not r.conflict)
chosen place r b e = ap (λ soft. cond soft (nat_lt r.group place) (not r.conflict)) e

pub returns-then-dep-deps : goal.returns-then-dep-deps
returns-then-dep-deps c =
    past c.args.self.now c.args.place c.args.dep (omega (arith, count-same c.self.inside c.args.self.now c.self.view_is c.self.invariant, c.deps.ensures, c.if-dep-deps.true))

pub group_of-requires : goal.group_of-requires
group_of-requires c = omega (arith, count-same c.self.inside c.args.self.now c.self.view_is c.self.invariant, c.deps.ensures, c.if-dep-deps.false)

pub is_conflict-requires : goal.is_conflict-requires
is_conflict-requires c = omega (arith, count-same c.self.inside c.args.self.now c.self.view_is c.self.invariant, c.deps.ensures, c.if-dep-deps.false)

pub returns-then-is_soft : goal.returns-then-is_soft
returns-then-is_soft c =
    let r : Requirement = requirement_numbered c.args.self.now c.args.dep in
    let same = dependency-same c.self.inside c.args.self.now c.self.view_is c.self.invariant c.args.dep in
    ap (λ group. nat_lt group c.args.place) c.group_of.ensures
    ∙ sym (chosen c.args.place r true (ap (λ (d : Dependency). d.soft) same ∙ sym c.is_soft.ensures ∙ c.if-is_soft.true))

pub returns : goal.returns
returns c =
    let r : Requirement = requirement_numbered c.args.self.now c.args.dep in
    let same = dependency-same c.self.inside c.args.self.now c.self.view_is c.self.invariant c.args.dep in
    ap not c.is_conflict.ensures
    ∙ sym (chosen c.args.place r false (ap (λ (d : Dependency). d.soft) same ∙ sym c.is_soft.ensures ∙ c.if-is_soft.false))
