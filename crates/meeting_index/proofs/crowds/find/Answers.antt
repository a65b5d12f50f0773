-- What is found by comparing bytes.
use Rattle.std.proofs.Common.{◌∙◌}
use Rattle.meeting_index.proofs.CrowdLaws.{lookup-same}
use Rattle.meeting_index.proofs.crowds.find.Goals as goal

pub returns : goal.returns
returns c = c.get.ensures.value ∙ lookup-same (record { bytes = c.args.name }) c.args.by_name.now.entries
