-- All versions, and the carriers in the order of their versions.
use Rattle.std.proofs.Common.{◌≡◌, ◌∙◌, ap, ◌++◌, ℕ, List, Some, None, Result, Ok, Err}
use Rattle.std.specs.List.{Contains, flat_map, list_any, slice_get}
use Rattle.std.specs.Result.{IfOk}
use Rattle.choice_set.specs.declared.NoMemory.{NoMemory}
use Rattle.lists.specs.Sets.{has}
use Rattle.dep_fields.specs.Relationships.{VersionBound}
use Rattle.meeting_index.specs.Carriers.{Carrier, met_under}
use Rattle.meeting_index.specs.Crowds.{IsCrowdOf, Keeps, crowd_has, finds_as}
use Rattle.meeting_index.specs.Fitting.{has_fitting}
use Rattle.meeting_index.specs.Members.{AreReal}
use Rattle.meeting_index.specs.Provided.{carriers_listed}
use Rattle.meeting_index.specs.declared.carried.Carried.{Carried}
use Rattle.meeting_index.specs.declared.crowd.Crowd.{Crowd}
use Rattle.meeting_index.proofs.CarrierLists.{has-found}
use Rattle.meeting_index.proofs.crowds.crowd_of.Goals as goal

joined : (carriers : List Carrier) (numbers all : List ℕ) (by_version : List Carried) (made : Result Crowd NoMemory)
    → ((c : ℕ) → has all c ≡ list_any (finds_as carriers None c) numbers)
    → ((bound : VersionBound) (c : ℕ) → has_fitting by_version bound c ≡ list_any (finds_as carriers (Some bound) c) numbers)
    → AreReal carriers numbers by_version
    → IfOk made (λ crowd. (c : ℕ) → crowd_has crowd None c ≡ has all c)
    → IfOk made (λ crowd. (bound : VersionBound) (c : ℕ) → crowd_has crowd (Some bound) c ≡ has_fitting by_version bound c)
    → IfOk made (λ crowd. (y : Carried) → Keeps crowd y → Contains by_version y)
    → IfOk made (IsCrowdOf carriers numbers)
joined carriers numbers all by_version (Ok crowd) a b real p q kept = record {
  finds = λ bound c.
      elim bound as (λ o. crowd_has crowd o c ≡ list_any (finds_as carriers o c) numbers) [
        | None ↦ p c ∙ a c
        | Some limit ↦ q limit c ∙ b limit c
      ];
  real = λ y there. real y (kept y there);
}
joined carriers numbers all by_version (Err failed) a b real p q kept = tt

pub returns : goal.returns
returns c =
    let carriers = carriers_listed c.args.carriers.now in
    let numbers = c.args.numbers.now in
    let find = λ (number : ℕ). met_under None (slice_get carriers number) in
    joined carriers numbers c.make_rising.new.numbers.items c.in_ok-by_version.by_version.items c.new.result
    (λ n.
    c.make_rising.ensures.same n
    ∙ ap (λ ns. has ns n) (c.in_ok-add_met.ensures ∙ ap (λ ns. ns ++ flat_map find numbers) c.new-all.ensures.items)
    ∙ has-found find numbers n)
    c.in_ok-by_version.ensures.fitting c.in_ok-by_version.ensures.real c.new.ensures.all c.new.ensures.within c.new.ensures.kept
