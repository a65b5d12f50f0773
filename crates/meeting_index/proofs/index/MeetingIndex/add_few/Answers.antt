-- One more item.
use Rattle.std.proofs.Common.{◌∙◌, sym, ap, ◌||◌, nat_eq}
use Rattle.std.specs.List.{flat_map}
use Rattle.std.proofs.lemmas.List.Folds.{list_any-append}
use Rattle.lists.specs.Sets.{has}
use Rattle.dep_fields.specs.Relationships.{meaning}
use Rattle.dep_fields.specs.Views.{items_left}
use Rattle.meeting_index.specs.Carriers.{carried}
use Rattle.meeting_index.proofs.CrowdLaws.{or-assoc, or-none}
use Rattle.meeting_index.proofs.index.MeetingIndex.add_few.Goals as goal

pub loop-item-preserved : goal.loop-item-preserved
loop-item-preserved c = λ n.
    let native = c.args.self.now.native in
    let vs = c.args.self.now.versions in
    let met = c.loop-item.met.items in
    let item = meaning c.in-Some.item in
    let left = items_left c.next.new.self in
    ap (λ b. b || has (flat_map (carried native vs) left) n) (c.in_ok-add_met_by.ensures n)
    ∙ or-assoc (has met n) (has (carried native vs item) n) (has (flat_map (carried native vs) left) n)
    ∙ ap (λ b. has met n || b) (sym (list_any-append (λ x. nat_eq x n) (carried native vs item) (flat_map (carried native vs) left)))
    ∙ ap (λ items. has met n || has (flat_map (carried native vs) items) n) (sym c.in-Some.ensures.steps)
    ∙ c.loop-item.invariant n

pub returns : goal.returns
returns c = λ n.
    let native = c.args.self.now.native in
    let vs = c.args.self.now.versions in
    sym (or-none (has c.loop-item.met.items n))
    ∙ ap (λ items. has c.loop-item.met.items n || has (flat_map (carried native vs) items) n) (sym c.in-None.ensures.steps.0)
    ∙ c.loop-item.invariant n
