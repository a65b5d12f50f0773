-- One of what is carried.
use Rattle.std.proofs.Common.{◌≡◌, ◌∙◌, refl, sym, ap, map, ℕ, ◌++◌, true, false}
use Rattle.std.specs.List.{flat_map, list_any, slice_get}
use Rattle.lists.specs.Sets.{has}
use Rattle.dep_fields.specs.Relationships.{meaning}
use Rattle.meeting_index.specs.Carriers.{own, carriers, carried, is_named, met_under}
use Rattle.meeting_index.specs.Crowds.{crowds_have, is_crowd}
use Rattle.meeting_index.specs.Indexes.{Indexed}
use Rattle.meeting_index.specs.Provided.{carrier_of}
use Rattle.meeting_index.proofs.CarrierLists.{found-carried, has-found, has-none, has-plain}
use Rattle.meeting_index.proofs.Finding.{finds-alike}
use Rattle.universe_model.specs.Lists.{map_from, numbers_of}
use Rattle.universe_parts.specs.Listed.{version_listed}
use Rattle.universe_model.specs.Meeting.{is_plain}
use Rattle.meeting_index.proofs.index.MeetingIndex.one_met_by.Goals as goal

pub returns-then-not-plain : goal.returns-then-not-plain
returns-then-not-plain c =
    λ n.
    let index = c.self.inside in
    let item = meaning c.args.item.now in
    let vs = map version_listed index.versions.now in
    let other : is_plain index.native.now item.arch ≡ false = sym c.is_plain-plain.ensures ∙ c.if-not-plain.true in
    ap (λ (i : Indexed). has (carried i.native i.versions item) n) (sym c.self.view_is) ∙ has-none index.native.now vs item n other

pub returns-then-is_crowd : goal.returns-then-is_crowd
returns-then-is_crowd c =
    let index = c.self.inside in
    let item = meaning c.args.item.now in
    let vs = map version_listed index.versions.now in
    let plain : is_plain index.native.now item.arch ≡ true = sym c.is_plain-plain.ensures ∙ c.if-not-plain.false in
    finds-alike (crowds_have index.crowds item.name item.rel) (has (carried c.args.self.now.native c.args.self.now.versions item)) c.one_of_crowd.result
    (λ n.
    c.self.invariant.crowds (record { bytes = c.args.item.now.name }) (sym (c.is_crowd.ensures ∙ ap is_crowd c.at-numbers.ensures) ∙ c.if-is_crowd.true) item.rel n
    ∙ sym (has-plain index.native.now vs item n plain)
    ∙ ap (λ (i : Indexed). has (carried i.native i.versions item) n) c.self.view_is) c.one_of_crowd.ensures

pub returns : goal.returns
returns c =
    let index = c.self.inside in
    let item = meaning c.args.item.now in
    let native = index.native.now in
    let vs = map version_listed index.versions.now in
    let listed = map_from own 0 vs ++ map carrier_of c.as_slice.result.now in
    let plain : is_plain native item.arch ≡ true = sym c.is_plain-plain.ensures ∙ c.if-not-plain.false in
    let all : listed ≡ carriers native vs = ap (λ ps. map_from own 0 vs ++ ps) (ap (map carrier_of) c.as_slice.ensures.value ∙ c.self.invariant.provided) in
    let find = λ (number : ℕ). met_under item.rel (slice_get listed number) in
    let named = numbers_of (is_named item.name) (carriers native vs) in
    let found : flat_map find named ≡ carried native vs item = found-carried native vs item listed named plain all refl in
    let seen : carried native vs item ≡ carried c.args.self.now.native c.args.self.now.versions item =
    ap (λ (i : Indexed). carried i.native i.versions item) c.self.view_is in
    finds-alike (has (flat_map find c.at-numbers.result.now)) (has (carried c.args.self.now.native c.args.self.now.versions item)) c.first_met.result
    (λ n.
    has-found find c.at-numbers.result.now n
    ∙ ap (list_any (λ m. has (find m) n)) c.at-numbers.ensures
    ∙ c.self.invariant.named (record { bytes = c.args.item.now.name }) (λ m. has (find m) n)
    ∙ sym (has-found find named n)
    ∙ ap (λ numbers. has numbers n) (found ∙ seen)) c.first_met.ensures
