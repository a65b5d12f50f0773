use Rattle.resolve_cli.proofs.beside.know_sink.Goals as goal

pub returns : goal.returns
returns g c = g.met.O.Sink.is_state c.args.sink.now
