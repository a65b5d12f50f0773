-- One more item.
use Rattle.std.proofs.Common.{◌∙◌, sym, ap, ◌||◌, nat_eq, map}
use Rattle.std.specs.List.{flat_map}
use Rattle.std.proofs.lemmas.List.Folds.{list_any-append}
use Rattle.lists.specs.Sets.{has}
use Rattle.dep_fields.specs.Relationships.{meaning}
use Rattle.dep_fields.specs.Views.{items_left}
use Rattle.meeting_index.specs.Carriers.{carried}
use Rattle.meeting_index.proofs.CrowdLaws.{or-assoc, or-none}
use Rattle.meeting_index.proofs.index.MeetingIndex.plain_items.Goals as goal

pub loop-item-preserved : goal.loop-item-preserved
loop-item-preserved c = λ n.
    let native = c.args.self.now.native in
    let vs = c.args.self.now.versions in
    let old = has (flat_map (carried native vs) (map meaning c.loop-item.items.items)) n in
    let item = meaning c.in-Some.item in
    let left = items_left c.next.new.self in
    ap (λ b. b || has (flat_map (carried native vs) left) n) (c.in_ok-add_plain.ensures n)
    ∙ or-assoc old (has (carried native vs item) n) (has (flat_map (carried native vs) left) n)
    ∙ ap (λ b. old || b) (sym (list_any-append (λ x. nat_eq x n) (carried native vs item) (flat_map (carried native vs) left)))
    ∙ ap (λ items. old || has (flat_map (carried native vs) items) n) (sym c.in-Some.ensures.steps)
    ∙ c.loop-item.invariant n

pub returns : goal.returns
returns c = λ n.
    let native = c.args.self.now.native in
    let vs = c.args.self.now.versions in
    let found = has (flat_map (carried native vs) (map meaning c.loop-item.items.items)) n in
    sym (or-none found)
    ∙ ap (λ items. found || has (flat_map (carried native vs) items) n) (sym c.in-None.ensures.steps.0)
    ∙ c.loop-item.invariant n
