-- In whatever order the items stand.
use Rattle.std.proofs.Common.{◌∙◌, ap, ◌||◌, map, List}
use Rattle.std.proofs.lemmas.Result.{on_ok_weaker}
use Rattle.std.specs.List.{flat_map}
use Rattle.lists.specs.Sets.{has}
use Rattle.dep_fields.specs.Relationships.{meaning}
use Rattle.dep_fields.specs.declared.Item.{Item}
use Rattle.meeting_index.specs.Carriers.{carried}
use Rattle.meeting_index.proofs.Covering.{carried-moved}
use Rattle.meeting_index.proofs.index.MeetingIndex.add_alternatives.Goals as goal

pub returns : goal.returns
returns c =
    let native = c.args.self.now.native in
    let vs = c.args.self.now.versions in
    on_ok_weaker c.add_many.result (λ added n.
    added n
    ∙ ap (λ b. has c.args.targets.now.numbers.items n || b)
    (ap (λ (items : List Item). has (flat_map (carried native vs) (map meaning items)) n) c.as_slice.ensures.value
    ∙ carried-moved native vs c.in_ok-items.items.items c.sort_unstable_by.new.self.items c.sort_unstable_by.ensures.permutation n
    ∙ c.in_ok-items.ensures n)) c.add_many.ensures
