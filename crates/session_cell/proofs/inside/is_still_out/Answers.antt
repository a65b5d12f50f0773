use Rattle.session_cell.proofs.Calls.{still_out}
use Rattle.session_cell.proofs.inside.is_still_out.Goals as goal

pub returns : goal.returns
returns c =
    let session = c.args.session.now in
    still_out session.setting session.history c.args.job.now c.history.ensures.legal c.requires
