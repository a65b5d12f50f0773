use Rattle.std.proofs.Common.{map, string_bytes, refl}
use Rattle.resolve_cli.specs.Reports.{World, world}
use Rattle.resolve_cli.proofs.Threads.{run_beside_by, refused_beside}
use Rattle.resolve_cli.proofs.Ended.{ended_beside}
use Rattle.resolve_cli.proofs.Complete.{ended_ends}
use Rattle.resolve_cli.proofs.Sure.{ended_no_read_fault, ended_full}
use Rattle.resolve_cli.proofs.beside.run_session.Goals as goal

pub returns-in-Ok-clause-run : goal.returns-in-Ok-clause-run
returns-in-Ok-clause-run g c =
    let old : World = world (g.F.Shelf.state c.args.shelf.now) (g.I.Source.state c.args.input.now) (g.O.Sink.state c.args.out.now) in
    let new : World = world (g.F.Shelf.state c.prepare.new.shelf) (g.I.Source.state c.speak_all-report.new.input) (g.O.Sink.state c.speak_all-report.new.out) in
    run_beside_by (map string_bytes c.args.words.now) old new c.in-Ok.prepared c.speak_all-report.result c.in-Ok.ensures.prepared c.speak_all-report.ensures

pub returns-in-Ok-clause-complete : goal.returns-in-Ok-clause-complete
returns-in-Ok-clause-complete g c w =
    let old : World = world (g.F.Shelf.state c.args.shelf.now) (g.I.Source.state c.args.input.now) (g.O.Sink.state c.args.out.now) in
    let new : World = world (g.F.Shelf.state c.prepare.new.shelf) (g.I.Source.state c.speak_all-report.new.input) (g.O.Sink.state c.speak_all-report.new.out) in
    ended_ends (map string_bytes c.args.words.now) old new c.speak_all-report.result.status (ended_beside (map string_bytes c.args.words.now) old new c.speak_all-report.result (returns-in-Ok-clause-run g c)) w

pub returns-in-Ok-clause-sure : goal.returns-in-Ok-clause-sure
returns-in-Ok-clause-sure g c s e =
    let old : World = world (g.F.Shelf.state c.args.shelf.now) (g.I.Source.state c.args.input.now) (g.O.Sink.state c.args.out.now) in
    let new : World = world (g.F.Shelf.state c.prepare.new.shelf) (g.I.Source.state c.speak_all-report.new.input) (g.O.Sink.state c.speak_all-report.new.out) in
    ended_no_read_fault (map string_bytes c.args.words.now) old new c.speak_all-report.result.status s c.in-Ok.ensures.kept (g.met.F.Shelf.is_state c.prepare.new.shelf) c.know_source.ensures (ended_beside (map string_bytes c.args.words.now) old new c.speak_all-report.result (returns-in-Ok-clause-run g c)) e

pub returns-in-Ok-clause-full : goal.returns-in-Ok-clause-full
returns-in-Ok-clause-full g c there e =
    let old : World = world (g.F.Shelf.state c.args.shelf.now) (g.I.Source.state c.args.input.now) (g.O.Sink.state c.args.out.now) in
    let new : World = world (g.F.Shelf.state c.prepare.new.shelf) (g.I.Source.state c.speak_all-report.new.input) (g.O.Sink.state c.speak_all-report.new.out) in
    ended_full (map string_bytes c.args.words.now) old new c.speak_all-report.result.status there c.know_sink.ensures (ended_beside (map string_bytes c.args.words.now) old new c.speak_all-report.result (returns-in-Ok-clause-run g c)) e

pub returns-in-Err-clause-run : goal.returns-in-Err-clause-run
returns-in-Err-clause-run g c =
    let old : World = world (g.F.Shelf.state c.args.shelf.now) (g.I.Source.state c.args.input.now) (g.O.Sink.state c.args.out.now) in
    let new : World = world (g.F.Shelf.state c.prepare.new.shelf) (g.I.Source.state c.args.input.now) (g.O.Sink.state c.args.out.now) in
    let none = c.without_session.ensures in
    refused_beside (map string_bytes c.args.words.now) old new c.without_session.result c.in-Err.status none.status none.empty none.unread refl refl c.in-Err.ensures.prepared

pub returns-in-Err-clause-complete : goal.returns-in-Err-clause-complete
returns-in-Err-clause-complete g c w =
    let old : World = world (g.F.Shelf.state c.args.shelf.now) (g.I.Source.state c.args.input.now) (g.O.Sink.state c.args.out.now) in
    let new : World = world (g.F.Shelf.state c.prepare.new.shelf) (g.I.Source.state c.args.input.now) (g.O.Sink.state c.args.out.now) in
    ended_ends (map string_bytes c.args.words.now) old new c.without_session.result.status (ended_beside (map string_bytes c.args.words.now) old new c.without_session.result (returns-in-Err-clause-run g c)) w

pub returns-in-Err-clause-sure : goal.returns-in-Err-clause-sure
returns-in-Err-clause-sure g c s e =
    let old : World = world (g.F.Shelf.state c.args.shelf.now) (g.I.Source.state c.args.input.now) (g.O.Sink.state c.args.out.now) in
    let new : World = world (g.F.Shelf.state c.prepare.new.shelf) (g.I.Source.state c.args.input.now) (g.O.Sink.state c.args.out.now) in
    ended_no_read_fault (map string_bytes c.args.words.now) old new c.without_session.result.status s c.in-Err.ensures.kept (g.met.F.Shelf.is_state c.prepare.new.shelf) c.know_source-in-Err.ensures (ended_beside (map string_bytes c.args.words.now) old new c.without_session.result (returns-in-Err-clause-run g c)) e

pub returns-in-Err-clause-full : goal.returns-in-Err-clause-full
returns-in-Err-clause-full g c there e =
    let old : World = world (g.F.Shelf.state c.args.shelf.now) (g.I.Source.state c.args.input.now) (g.O.Sink.state c.args.out.now) in
    let new : World = world (g.F.Shelf.state c.prepare.new.shelf) (g.I.Source.state c.args.input.now) (g.O.Sink.state c.args.out.now) in
    ended_full (map string_bytes c.args.words.now) old new c.without_session.result.status there c.know_sink-in-Err.ensures (ended_beside (map string_bytes c.args.words.now) old new c.without_session.result (returns-in-Err-clause-run g c)) e
