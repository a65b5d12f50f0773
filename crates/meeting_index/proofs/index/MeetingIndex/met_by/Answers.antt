-- Rising numbers with those that are carried are those of the versions that meet the item.
use Rattle.std.proofs.Common.{◌∙◌, ap, ◌||◌, length, nat_lt, arith}
use Rattle.std.specs.List.{list_all}
use Rattle.lists.specs.Sets.{has}
use Rattle.dep_fields.specs.Relationships.{meaning}
use Rattle.meeting_index.specs.Carriers.{carried}
use Rattle.meeting_index.proofs.CarrierLists.{rising-carried}
use Rattle.meeting_index.proofs.Numbers.{numbers_from-below}
use Rattle.universe_model.specs.Meeting.{meets}
use Rattle.meeting_index.proofs.index.MeetingIndex.met_by.Goals as goal

pub returns-clause-met : goal.returns-clause-met
returns-clause-met c =
    let native = c.args.self.now.native in
    let vs = c.args.self.now.versions in
    let item = meaning c.args.item.now in
    rising-carried native vs item c.make_rising.new.numbers.items c.make_rising.ensures.rising
    (λ n. c.make_rising.ensures.same n ∙ c.in_ok-add_met_by.ensures n ∙ ap (λ numbers. has numbers n || has (carried native vs item) n) c.clear.ensures.items)

pub returns-clause-within : goal.returns-clause-within
returns-clause-within c =
    let vs = c.args.self.now.versions in
    ap (list_all (λ v. nat_lt v (length vs))) (returns-clause-met c)
    ∙ numbers_from-below (length vs) 0 (meets c.args.self.now.native (meaning c.args.item.now)) vs (omega arith)
