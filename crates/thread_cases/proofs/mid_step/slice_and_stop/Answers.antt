use denote.Param.Send.{IsSend, Quiet-if, mut_send}
use denote.Ref.{MutRef}
use mir.Syntax.{of_param, named}
use Rattle.std.proofs.Common.{[]}
use Rattle.std.proofs.alloc.Global.TheSendSync as global
use Rattle.basis.proofs.Basis.TheSendSync as basis
use Rattle.session_cell.specs.contracts.pass.Pass as pass
use Rattle.session_cell.proofs.Sent.{pass_send, cell_sync}
use Rattle.thread_cases.proofs.meeting.HeldGate.TheSendSync as held_gate
use Rattle.thread_cases.proofs.mid_step.slice_and_stop.Goals as goal

pub join_mut-end-requires-send-F : goal.join_mut-end-requires-send-F
join_mut-end-requires-send-F g c κs within =
    let worker : IsSend (MutRef (named 0) [] pass.the_row) = mut_send (named 0) [] pass.the_row pass_send in
    record {
      owned = λ x vs vss. (
        tt,
        (
          (tt, c.type_bounds.sync-H.shared x.0.now x.0.ref_ptr.0 x.0.ref_ptr.1 κs.1.1.1.1.1.1.1.1.0),
          (
            (tt, global.the_sync.shared x.1.now x.1.ref_ptr.0 x.1.ref_ptr.1 κs.0),
            (
              (tt, cell_sync.shared x.2.now x.2.ref_ptr.0 x.2.ref_ptr.1 _),
              (
                (tt, basis.the_sync.shared x.3.now x.3.ref_ptr.0 x.3.ref_ptr.1 _),
                (
                  worker.owned x.4 vss.1.1.1.1.0,
                  (
                    (tt, held_gate.the_sync.shared x.5.now x.5.ref_ptr.0 x.5.ref_ptr.1 _),
                    tt,
                  ),
                ),
              ),
            ),
          ),
        ),
      );
      leaving = λ k. Quiet-if (k (of_param 1)) _ _ (λ x w. (tt, (tt, (tt, (tt, (tt, tt)))))) (λ x w. tt);
    }
