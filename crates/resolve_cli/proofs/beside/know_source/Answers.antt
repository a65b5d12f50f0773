use Rattle.resolve_cli.proofs.beside.know_source.Goals as goal

pub returns : goal.returns
returns g c = g.met.I.Source.is_state c.args.source.now
