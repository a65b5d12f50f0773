-- Some version meets an item where one is found for it.
use Rattle.std.proofs.Common.{◌≡◌, ◌∙◌, ◌∷◌, List, sym, ap, ◌||◌, is_some, ℕ, Option}
use Rattle.std.specs.List.{list_any}
use Rattle.lists.specs.Sets.{has}
use Rattle.dep_fields.specs.Relationships.{Relationship, meaning}
use Rattle.dep_fields.specs.Views.{items_left}
use Rattle.meeting_index.specs.Carriers.{carried}
use Rattle.meeting_index.specs.Finding.{Finds}
use Rattle.meeting_index.proofs.CarrierLists.{has-carried}
use Rattle.meeting_index.proofs.Finding.{any-either, any-neither, finds-alike, found-some}
use Rattle.universe_model.specs.Lists.{numbers_of}
use Rattle.universe_model.specs.Meeting.{meets, meets_any}
use Rattle.universe_model.specs.Versions.{Version}
use Rattle.meeting_index.proofs.index.MeetingIndex.has_target.Goals as goal

-- the first item, and the items that are left
first-item : (native : List ℕ) (vs : List Version) (item : Relationship) (left : List Relationship) (found : Option ℕ)
    → Finds (has (carried native vs item)) found → list_any (meets_any native (item ∷ left)) vs ≡ (is_some found || list_any (meets_any native left) vs)
first-item native vs item left found finds =
    any-either (meets native item) (meets_any native left) vs
    ∙ ap (λ b. b || list_any (meets_any native left) vs)
    (sym (found-some (meets native item) vs found (finds-alike (has (carried native vs item)) (has (numbers_of (meets native item) vs)) found (has-carried native vs item) finds)))

pub returns-then-is_some : goal.returns-then-is_some
returns-then-is_some c =
    let native = c.args.self.now.native in
    let vs = c.args.self.now.versions in
    let left = items_left c.next.new.self in
    sym (sym c.loop-item.invariant
    ∙ ap (λ items. list_any (meets_any native items) vs) c.in-Some.ensures.steps
    ∙ first-item native vs (meaning c.in-Some.item) left c.one_met_by.result c.one_met_by.ensures
    ∙ ap (λ b. b || list_any (meets_any native left) vs) (sym c.is_some.ensures ∙ c.if-is_some.true))

pub returns : goal.returns
returns c =
    let native = c.args.self.now.native in
    let vs = c.args.self.now.versions in
    sym (sym c.loop-item.invariant
    ∙ ap (λ items. list_any (meets_any native items) vs) c.in-None.ensures.steps.0
    ∙ any-neither vs)

pub loop-item-preserved : goal.loop-item-preserved
loop-item-preserved c =
    let native = c.args.self.now.native in
    let vs = c.args.self.now.versions in
    let left = items_left c.next.new.self in
    ap (λ b. b || list_any (meets_any native left) vs) (sym (sym c.is_some.ensures ∙ c.if-is_some.false))
    ∙ sym (first-item native vs (meaning c.in-Some.item) left c.one_met_by.result c.one_met_by.ensures)
    ∙ ap (λ items. list_any (meets_any native items) vs) (sym c.in-Some.ensures.steps)
    ∙ c.loop-item.invariant
