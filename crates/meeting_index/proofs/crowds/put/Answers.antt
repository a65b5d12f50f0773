-- A name has what was put there.
use Rattle.meeting_index.proofs.CrowdLaws.{updated-same}
use Rattle.meeting_index.proofs.crowds.put.Goals as goal

pub returns : goal.returns
returns c =
    λ other.
    updated-same c.args.name other c.args.crowd c.args.by_name.now.entries c.insert.new.self.entries (c.in_ok-insert.ensures.updates.0 other)
