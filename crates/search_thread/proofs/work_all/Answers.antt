use denote.Param.Send.{IsSync, sendable}
use denote.Plain.{UInt}
use mir.Syntax.{w64}
use Rattle.std.proofs.alloc.Global.TheSendSync as global
use Rattle.basis.proofs.Basis.TheSendSync as basis
use Rattle.session_cell.proofs.Sent.{pass_send, cell_sync}
use Rattle.search_thread.proofs.work_all.Goals as goal

pub for_each_mut-requires-send-T : goal.for_each_mut-requires-send-T
for_each_mut-requires-send-T g c κs within = search (sendable, pass_send) depth 20

pub for_each_mut-requires-sync-F : goal.for_each_mut-requires-sync-F
for_each_mut-requires-sync-F g c κs within =
    let number : IsSync (UInt w64) = search sendable in
    record {
      shared = λ x b o κ. (
        (
          ((λ q. tt), c.type_bounds.sync-H.shared x.0.now x.0.ref_ptr.0 x.0.ref_ptr.1 κs.1.1.1.1.1.1.0),
          (
            ((λ q. tt), global.the_sync.shared x.1.now x.1.ref_ptr.0 x.1.ref_ptr.1 κ),
            (
              ((λ q. tt), cell_sync.shared x.2.now x.2.ref_ptr.0 x.2.ref_ptr.1 _),
              (
                ((λ q. tt), basis.the_sync.shared x.3.now x.3.ref_ptr.0 x.3.ref_ptr.1 _),
                (
                  ((λ q. tt), c.type_bounds.sync-G.shared x.4.now x.4.ref_ptr.0 x.4.ref_ptr.1 κs.1.1.1.1.1.1.1.1.1.1.0),
                  (
                    ((λ q. tt), number.shared x.5.now x.5.ref_ptr.0 x.5.ref_ptr.1 κ),
                    tt,
                  ),
                ),
              ),
            ),
          ),
        ),
        λ q. tt,
      );
    }
