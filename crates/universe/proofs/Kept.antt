-- The tables of a universe that is kept are as long as what they are of.
use Rattle.std.proofs.Common.{◌≡◌, ◌<◌, ◌∙◌, ℕ, ap, sym, arith, length, slice_index_or}
use Rattle.std.proofs.lemmas.List.{length-map}
use Rattle.universe_model.specs.Universes.{Universe, dependency_in, no_requirement, requirement_numbered}
use Rattle.resolver_model.specs.Problems.{dependency, dependency_count, no_dependency}
use Rattle.universe.specs.declared.Universe.TheInside.{Inside}
use Rattle.universe.specs.Views.{requirements_of, universe_kept, IsKept}
use Rattle.universe.proofs.Zips.{requirements_of-dependencies, at-map}

-- a dependency of what is seen is one of the problem
pub dependency-within : (u : Inside) (now : Universe) → universe_kept u ≡ now → IsKept u → (d : ℕ) → d < length now.requirements → d < length u.problem.dependencies
dependency-within u now is kept d h =
    let rs = requirements_of u.problem.dependencies u.groups.items u.conflicts.items in
    omega (
      arith,
      h,
      length-map rs dependency_in,
      ap length (requirements_of-dependencies u.problem.dependencies u.groups.items u.conflicts.items kept.groups kept.conflicts),
      ap (λ (seen : Universe). length seen.requirements) is,
    )

pub group-within : (u : Inside) (now : Universe) → universe_kept u ≡ now → IsKept u → (d : ℕ) → d < length now.requirements → d < length u.groups.items
group-within u now is kept d h = omega (arith, dependency-within u now is kept d h, kept.groups)

pub conflict-within : (u : Inside) (now : Universe) → universe_kept u ≡ now → IsKept u → (d : ℕ) → d < length now.requirements → d < length u.conflicts.items
conflict-within u now is kept d h = omega (arith, dependency-within u now is kept d h, kept.conflicts)

-- what a dependency of what is seen is, in the problem
pub dependency-same : (u : Inside) (now : Universe) → universe_kept u ≡ now → IsKept u → (d : ℕ) → (requirement_numbered now d).dependency ≡ dependency u.problem d
dependency-same u now is kept d =
    sym (ap (λ ds. slice_index_or ds d no_dependency)
    (sym (requirements_of-dependencies u.problem.dependencies u.groups.items u.conflicts.items kept.groups kept.conflicts))
    ∙ at-map dependency_in (requirements_of u.problem.dependencies u.groups.items u.conflicts.items) d no_requirement
    ∙ ap (λ (seen : Universe). dependency_in (slice_index_or seen.requirements d no_requirement)) is)

pub count-same : (u : Inside) (now : Universe) → universe_kept u ≡ now → IsKept u → length now.requirements ≡ dependency_count u.problem
count-same u now is kept =
    let rs = requirements_of u.problem.dependencies u.groups.items u.conflicts.items in
    omega (
      arith,
      length-map rs dependency_in,
      ap length (requirements_of-dependencies u.problem.dependencies u.groups.items u.conflicts.items kept.groups kept.conflicts),
      ap (λ (seen : Universe). length seen.requirements) is,
    )
