-- The carriers of the item's name, each for the package of its version, find the packages of what is carried.
use Rattle.std.proofs.Common.{◌≡◌, ◌∙◌, sym, ap, map, ℕ, Bool, ◌++◌, ◌||◌, true, false, nat_eq}
use Rattle.std.specs.List.{flat_map, list_any, slice_get}
use Rattle.std.proofs.lemmas.List.Folds.{list_any-append}
use Rattle.std.proofs.lemmas.Result.{on_ok_weaker}
use Rattle.lists.specs.Sets.{has}
use Rattle.dep_fields.specs.Relationships.{meaning}
use Rattle.meeting_index.specs.Carriers.{own, carriers, carried, is_named, met_under}
use Rattle.meeting_index.specs.Crowds.{is_crowd}
use Rattle.meeting_index.specs.Indexes.{Indexed}
use Rattle.meeting_index.specs.Owners.{for_package, owner_of}
use Rattle.meeting_index.specs.Provided.{carrier_of}
use Rattle.meeting_index.specs.declared.named.Name.{Name}
use Rattle.meeting_index.proofs.CarrierLists.{crowd-carriers, has-found, has-none}
use Rattle.meeting_index.proofs.CrowdLaws.{or-none}
use Rattle.meeting_index.proofs.Owners.{none-owned, numbers-for_package, packages-carried}
use Rattle.universe_model.specs.Lists.{map_from, numbers_of}
use Rattle.universe_parts.specs.Listed.{version_listed}
use Rattle.universe_model.specs.Meeting.{is_plain}
use Rattle.meeting_index.proofs.index.MeetingIndex.add_packages.Goals as goal

pub returns-then-not-plain : goal.returns-then-not-plain
returns-then-not-plain c = λ q.
    let index = c.self.inside in
    let item = meaning c.args.item.now in
    let native = index.native.now in
    let vs = map version_listed index.versions.now in
    let other : is_plain native item.arch ≡ false = sym c.is_plain-plain.ensures ∙ c.if-not-plain.true in
    let nothing : has (map (owner_of vs) (carried native vs item)) q ≡ false = none-owned vs (carried native vs item) q (λ n. has-none native vs item n other) in
    sym (or-none (has c.args.packages.now.items q))
    ∙ ap (λ b. has c.args.packages.now.items q || b) (sym nothing
    ∙ ap (λ (i : Indexed). has (map (owner_of i.versions) (carried i.native i.versions item)) q) c.self.view_is)

pub returns-then-is_crowd : goal.returns-then-is_crowd
returns-then-is_crowd c =
    let index = c.self.inside in
    let item = meaning c.args.item.now in
    let native = index.native.now in
    let vs = map version_listed index.versions.now in
    let plain : is_plain native item.arch ≡ true = sym c.is_plain-plain.ensures ∙ c.if-not-plain.false in
    on_ok_weaker c.add_crowd.result (λ more q.
    more q
    ∙ ap (λ b. has c.args.packages.now.items q || b)
    (c.self.invariant.owners (record { bytes = c.args.item.now.name }) (sym (c.is_crowd.ensures ∙ ap is_crowd c.at-numbers.ensures) ∙ c.if-is_crowd.true) item.rel q
    ∙ packages-carried native vs item q plain
    ∙ ap (λ (i : Indexed). has (map (owner_of i.versions) (carried i.native i.versions item)) q) c.self.view_is)) c.add_crowd.ensures

pub returns : goal.returns
returns c =
    let index = c.self.inside in
    let item = meaning c.args.item.now in
    let native = index.native.now in
    let vs = map version_listed index.versions.now in
    let name : Name = record { bytes = c.args.item.now.name } in
    let listed = map (for_package vs) (map_from own 0 vs ++ map carrier_of c.as_slice.result.now) in
    let cs = map (for_package vs) (carriers native vs) in
    let plain : is_plain native item.arch ≡ true = sym c.is_plain-plain.ensures ∙ c.if-not-plain.false in
    let all : listed ≡ cs = ap (λ ps. map (for_package vs) (map_from own 0 vs ++ ps)) (ap (map carrier_of) c.as_slice.ensures.value ∙ c.self.invariant.provided) in
    let find = λ (number : ℕ). met_under item.rel (slice_get listed number) in
    let named : (test : ℕ → Bool) → list_any test c.at-numbers.result.now ≡ list_any test (numbers_of (is_named item.name) cs) =
    λ test.
    ap (list_any test) c.at-numbers.ensures
    ∙ c.self.invariant.named name test
    ∙ ap (list_any test) (sym (numbers-for_package item.name vs (carriers native vs))) in
    on_ok_weaker c.add_met.result (λ added q.
    ap (λ ps. has ps q) added
    ∙ list_any-append (λ x. nat_eq x q) c.args.packages.now.items (flat_map find c.at-numbers.result.now)
    ∙ ap (λ b. has c.args.packages.now.items q || b)
    (has-found find c.at-numbers.result.now q
    ∙ crowd-carriers cs listed item.name c.at-numbers.result.now item.rel q all named
    ∙ packages-carried native vs item q plain
    ∙ ap (λ (i : Indexed). has (map (owner_of i.versions) (carried i.native i.versions item)) q) c.self.view_is)) c.add_met.ensures
