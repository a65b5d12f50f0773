-- Rising numbers with those that are carried for the items are those of the versions that meet one of them.
use Rattle.std.proofs.Common.{◌∙◌, ap, ◌||◌, length, nat_lt, arith}
use Rattle.std.specs.List.{flat_map, list_all}
use Rattle.lists.specs.Sets.{has}
use Rattle.dep_fields.specs.Views.{group_items}
use Rattle.meeting_index.specs.Carriers.{carried}
use Rattle.meeting_index.proofs.CarrierLists.{rising-carried-any}
use Rattle.meeting_index.proofs.Numbers.{numbers_from-below}
use Rattle.universe_model.specs.Meeting.{meets_any}
use Rattle.meeting_index.proofs.index.MeetingIndex.targets.Goals as goal

pub returns-clause-targets : goal.returns-clause-targets
returns-clause-targets c =
    let native = c.args.self.now.native in
    let vs = c.args.self.now.versions in
    let group = group_items c.args.group.now in
    rising-carried-any native vs group c.make_rising.new.numbers.items c.make_rising.ensures.rising
    (λ n.
    c.make_rising.ensures.same n
    ∙ c.in_ok-add_group.ensures n
    ∙ ap (λ numbers. has numbers n || has (flat_map (carried native vs) group) n) c.clear.ensures.items)

pub returns-clause-within : goal.returns-clause-within
returns-clause-within c =
    let vs = c.args.self.now.versions in
    ap (list_all (λ v. nat_lt v (length vs))) (returns-clause-targets c)
    ∙ numbers_from-below (length vs) 0 (meets_any c.args.self.now.native (group_items c.args.group.now)) vs (omega arith)
