-- The packages of what is carried.
use Rattle.std.proofs.Common.{◌∙◌, ap, ◌||◌, map}
use Rattle.lists.specs.Sets.{has}
use Rattle.dep_fields.specs.Relationships.{meaning}
use Rattle.meeting_index.specs.Carriers.{carried}
use Rattle.meeting_index.specs.Owners.{owner_of}
use Rattle.meeting_index.proofs.Owners.{packages-met}
use Rattle.meeting_index.proofs.index.MeetingIndex.packages.Goals as goal

pub returns-clause-packages : goal.returns-clause-packages
returns-clause-packages c = λ q.
    let native = c.args.self.now.native in
    let vs = c.args.self.now.versions in
    let item = meaning c.args.item.now in
    c.make_rising.ensures.same q
    ∙ c.in_ok-add_packages.ensures q
    ∙ ap (λ ps. has ps q || has (map (owner_of vs) (carried native vs item)) q) c.clear.ensures.items
    ∙ packages-met native vs item q
