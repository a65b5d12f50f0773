use denote.Param.Send.{IsSync, IsSend, sendable, Quiet-if, mut_slice_send}
use denote.Plain.{UInt}
use denote.Slice.{MutSlice}
use mir.Syntax.{w64, of_param, named}
use Rattle.std.proofs.Common.{[]}
use Rattle.std.proofs.alloc.Global.TheSendSync as global
use Rattle.basis.proofs.Basis.TheSendSync as basis
use Rattle.session_cell.specs.contracts.pass.Pass as pass
use Rattle.session_cell.proofs.Sent.{pass_send, cell_sync}
use Rattle.search_thread.proofs.round_here.Goals as goal

pub join_mut-answer-requires-send-F : goal.join_mut-answer-requires-send-F
join_mut-answer-requires-send-F g c κs within =
    let number : IsSync (UInt w64) = search sendable in
    let passes : IsSend (MutSlice (named 0) [] pass.the_row) = mut_slice_send (named 0) [] pass.the_row pass_send in
    record {
      owned = λ x vs vss. (
        tt,
        (
          (tt, c.type_bounds.sync-H.shared x.0.now x.0.ref_ptr.0 x.0.ref_ptr.1 κs.1.1.1.1.1.1.1.1.0),
          (
            (tt, global.the_sync.shared x.1.now x.1.ref_ptr.0 x.1.ref_ptr.1 κs.0),
            (
              (tt, cell_sync.shared x.2.now x.2.ref_ptr.0 x.2.ref_ptr.1 _),
              (
                (tt, basis.the_sync.shared x.3.now x.3.ref_ptr.0 x.3.ref_ptr.1 _),
                (
                  passes.owned x.4 vss.1.1.1.1.0,
                  (
                    (tt, c.type_bounds.sync-G.shared x.5.now x.5.ref_ptr.0 x.5.ref_ptr.1 κs.1.1.1.1.1.1.1.1.1.1.1.1.1.0),
                    (
                      (tt, number.shared x.6.now x.6.ref_ptr.0 x.6.ref_ptr.1 κs.0),
                      tt,
                    ),
                  ),
                ),
              ),
            ),
          ),
        ),
      );
      leaving = λ k. Quiet-if (k (of_param 1)) _ _ (λ x w. (tt, (tt, (tt, (tt, (tt, tt)))))) (λ x w. tt);
    }
