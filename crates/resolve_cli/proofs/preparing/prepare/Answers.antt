use Rattle.std.proofs.Common.{map, string_bytes, refl}
use Rattle.sources.specs.Sources.{sources_of}
use Rattle.resolve_cli.proofs.Accepted.{sample_few}
use Rattle.resolve_cli.proofs.Beginning.{at_ground, prepared_by}
use Rattle.resolve_cli.proofs.preparing.prepare.Goals as goal

pub read_sources-requires : goal.read_sources-requires
read_sources-requires g c = record { few = sample_few (map string_bytes c.args.words.now) c.in-Ok.settings c.in-Ok.ensures }

pub returns-in-Ok-make_ground-clause-prepared : goal.returns-in-Ok-make_ground-clause-prepared
returns-in-Ok-make_ground-clause-prepared g c =
    prepared_by (map string_bytes c.args.words.now) c.in-Ok.settings (sources_of c.in-Ok-read_sources.sources) (g.F.Shelf.state c.args.shelf.now).files _ c.in-Ok.ensures c.in-Ok-read_sources.ensures.read c.in-Ok-make_ground.ensures.ground refl refl

pub returns-clause-prepared : goal.returns-clause-prepared
returns-clause-prepared g c =
    at_ground (map string_bytes c.args.words.now) c.in-Ok.settings (sources_of c.in-Ok-read_sources.sources) (g.F.Shelf.state c.args.shelf.now) (g.F.Shelf.state c.read_sources.new.shelf) c.in-Err-make_ground.status c.in-Ok.ensures c.in-Ok-read_sources.ensures.read c.in-Err-make_ground.ensures.ground
