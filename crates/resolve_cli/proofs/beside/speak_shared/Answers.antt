use Rattle.std.proofs.Common.{rules, ◌≡◌, length}
use Rattle.std.specs.Vec.{vec_len}
use Rattle.resolve_cli.proofs.Threads.{some_below}
use Rattle.resolve_cli.proofs.beside.speak_shared.Goals as goal

pub converse_and_close-status-requires-clause-some : goal.converse_and_close-status-requires-clause-some
converse_and_close-status-requires-clause-some g c κs within =
    let cell = c.in-Ok-new.cell in
    let passes = c.in-Ok-new.passes in
    let count : vec_len passes ≡ length passes.items = search rules in
    rw count (some_below cell c.in-Ok.session c.args.actors passes.items c.requires.begins.actors_are c.in-Ok-new.ensures.passes)
