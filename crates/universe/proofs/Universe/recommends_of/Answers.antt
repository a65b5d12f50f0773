use Rattle.std.proofs.Common.{◌≡◌, ◌==◌, ◌<◌, ℕ, true, false, Some, None, List, length, get_or, sym, ap, ◌∙◌, subst, arith, AllPairs}
use Rattle.std.specs.List.Sorted.{IsPartitionedBy, IsPartitionPoint}
use Rattle.std.specs.List.{position, filter}
use Rattle.lists.specs.Below.{below}
use Rattle.laws_universe.specs.Standing.{is_before, StaysBefore}
use Rattle.resolver_model.specs.Problems.{Dependency, dependency, dependency_count}
use Rattle.universe_model.specs.Tokens.{is_recommends_of}
use Rattle.universe_model.specs.Universes.{Universe, requirement_numbered}
use Rattle.universe.specs.Views.{IsKept, universe_kept}
use Rattle.universe.specs.declared.Universe.TheInside.{Inside}
use Rattle.universe.proofs.Halves.{parted, group-found, group-missing}
use Rattle.universe.proofs.Kept.{count-same, dependency-same}
use Rattle.universe.proofs.Universe.recommends_of.Goals as goal

ordered : (u : Inside) (now : Universe) → universe_kept u ≡ now → IsKept u → AllPairs StaysBefore now.requirements
ordered u now is kept = subst (λ (seen : Universe). AllPairs StaysBefore seen.requirements) is kept.dependencies

is_mine : (u : Inside) (now : Universe) → universe_kept u ≡ now → IsKept u → (v k : ℕ) → ((dependency u.problem k).source == v) ≡ ((requirement_numbered now k).dependency.source == v)
is_mine u now is kept v k = ap (λ (d : Dependency). d.source == v) (sym (dependency-same u now is kept k))

-- the dependencies of a version, and how many of them stand before a group
module _ (u : Inside) (now : Universe) (is : universe_kept u ≡ now) (kept : IsKept u) (v place i : ℕ) where
  abbrev own : List ℕ
  own = filter (λ d. (dependency u.problem d).source == v) (below (dependency_count u.problem))

  abbrev Split : List ℕ → Type 0
  Split list = IsPartitionPoint (λ d. is_before place (requirement_numbered now d) ≡ true) (λ d. is_before place (requirement_numbered now d) ≡ false) list i

  abbrev Found : List ℕ → Type 0
  Found list = Split list → i < length list → is_recommends_of v place (requirement_numbered now (get_or list i 0)) ≡ true → Some (get_or list i 0) ≡ position (is_recommends_of v place) now.requirements

  abbrev Missing : List ℕ → Type 0
  Missing list = Split list → (i < length list → is_recommends_of v place (requirement_numbered now (get_or list i 0)) ≡ false) → None ≡ position (is_recommends_of v place) now.requirements

  found : (list : List ℕ) → list ≡ own → Found list
  found list same =
      subst Found (sym same)
      (λ split less h.
      sym (group-found now (ordered u now is kept) v place (dependency_count u.problem) (sym (count-same u now is kept)) (λ d. (dependency u.problem d).source == v) (is_mine u now is kept v) i less
      (λ j before. split.0 j 0 (omega arith) before) h))

  missing : (list : List ℕ) → list ≡ own → Missing list
  missing list same =
      subst Missing (sym same)
      (λ split other.
      sym (group-missing now (ordered u now is kept) v place (dependency_count u.problem) (sym (count-same u now is kept)) (λ d. (dependency u.problem d).source == v) (is_mine u now is kept v) i
      (λ j before. split.0 j 0 (omega arith) before) (λ less. split.1 i 0 (omega arith) less) other))

pub count_before-first-requires : goal.count_before-first-requires
count_before-first-requires c =
    let u = c.args.self.now in
    let P : List ℕ → Type 0 = λ own. IsPartitionedBy (λ dep. is_before c.args.place (requirement_numbered u dep)) own in
    subst P (sym c.deps_of-own.ensures.list)
    (parted u (ordered c.self.inside u c.self.view_is c.self.invariant) c.args.version c.args.place (dependency_count c.self.inside.problem) (sym (count-same c.self.inside u c.self.view_is c.self.invariant))
    (λ k. (dependency c.self.inside.problem k).source == c.args.version) (is_mine c.self.inside u c.self.view_is c.self.invariant c.args.version))

pub returns-in_err-dep : goal.returns-in_err-dep
returns-in_err-dep c =
    c.from_residual.ensures
    ∙ missing c.self.inside c.args.self.now c.self.view_is c.self.invariant c.args.version c.args.place c.count_before-first.result c.deps_of-own.result.now c.deps_of-own.ensures.list
    c.count_before-first.ensures (λ less. absurd (omega (arith, less, c.in_err-dep.ensures.lookup.3)))

pub returns-then-is_recommends_of : goal.returns-then-is_recommends_of
returns-then-is_recommends_of c =
    let u = c.args.self.now in
    let at = c.in_ok-dep.ensures.lookup.3 in
    let here = at.1 0 in
    ap Some here
    ∙ found c.self.inside u c.self.view_is c.self.invariant c.args.version c.args.place c.count_before-first.result c.deps_of-own.result.now c.deps_of-own.ensures.list c.count_before-first.ensures at.0
    (ap (λ d. is_recommends_of c.args.version c.args.place (requirement_numbered u d)) (sym here) ∙ sym c.is_recommends_of.ensures ∙ c.if-is_recommends_of.true)

pub returns : goal.returns
returns c =
    let u = c.args.self.now in
    let here = c.in_ok-dep.ensures.lookup.3.1 0 in
    missing c.self.inside u c.self.view_is c.self.invariant c.args.version c.args.place c.count_before-first.result c.deps_of-own.result.now c.deps_of-own.ensures.list c.count_before-first.ensures
    (λ less. ap (λ d. is_recommends_of c.args.version c.args.place (requirement_numbered u d)) (sym here) ∙ sym c.is_recommends_of.ensures ∙ c.if-is_recommends_of.false)
