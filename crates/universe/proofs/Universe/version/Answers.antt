use Rattle.std.proofs.Common.{◌≡◌, ℕ, List, sym, subst, AllPairs}
use Rattle.laws_universe.specs.Standing.{StandApart}
use Rattle.universe_model.specs.Universes.{Universe}
use Rattle.universe.specs.Order.{AreInOrder}
use Rattle.universe.specs.Views.{IsKept, universe_kept}
use Rattle.universe.specs.declared.Universe.TheInside.{Inside}
use Rattle.universe.proofs.Ordered.{version-found, version-missing, order-parted, found-within, found-own}
use Rattle.universe.proofs.Universe.version.Goals as goal

apart : (u : Inside) (now : Universe) → universe_kept u ≡ now → IsKept u → AllPairs StandApart now.versions
apart u now is kept = subst (λ (seen : Universe). AllPairs StandApart seen.versions) is kept.apart

order : (u : Inside) (now : Universe) (list : List ℕ) → universe_kept u ≡ now → IsKept u → list ≡ u.order.items → AreInOrder now.versions list
order u now list is kept same = subst (AreInOrder now.versions) (sym same) (subst (λ (seen : Universe). AreInOrder seen.versions u.order.items) is kept.order)

pub bounds-order-place : goal.bounds-order-place
bounds-order-place c = c.in-Ok.ensures.bound

pub returns-in-Ok-clause-version : goal.returns-in-Ok-clause-version
returns-in-Ok-clause-version c =
    sym (version-found c.args.self.now c.args.«package» c.args.version.now.text.now (apart c.self.inside c.args.self.now c.self.view_is c.self.invariant) _ (c.in-Ok.ensures.position 0))

pub returns-in-Ok-clause-range : goal.returns-in-Ok-clause-range
returns-in-Ok-clause-range c = found-within c.args.self.now c.args.«package» c.args.version.now.text.now _ (c.in-Ok.ensures.position 0)

pub returns-in-Ok-clause-own : goal.returns-in-Ok-clause-own
returns-in-Ok-clause-own c = found-own c.args.self.now c.args.«package» c.args.version.now.text.now _ (c.in-Ok.ensures.position 0)

pub returns-in-Err-clause-version : goal.returns-in-Err-clause-version
returns-in-Err-clause-version c =
    let all = order c.self.inside c.args.self.now c.as_slice-order.result.now c.self.view_is c.self.invariant c.as_slice-order.ensures.value in
    sym (version-missing c.args.self.now c.args.«package» c.args.version.now.text.now c.as_slice-order.result.now all c.in-Err.field-0
    (c.in-Err.ensures.position (order-parted c.args.self.now c.args.«package» c.args.version.now.text.now c.as_slice-order.result.now all)))
