use Rattle.std.proofs.Common.{◌≡◌, map, take, IsTrue}
use Rattle.std.specs.List.{list_all}
use Rattle.universe_model.specs.Universes.{known}
use Rattle.universe_parts.specs.Listed.{version_listed}
use Rattle.universe.specs.Views.{known_version, is_sound}
use Rattle.universe.proofs.known.known_versions.Given as goal

abbrev pub invariant-loop-version : goal.invariant-loop-version
invariant-loop-version l = record {
  known : map known_version l.list.items ≡ map known (map version_listed (take l.version-index l.versions));
  sound : IsTrue (list_all is_sound (map known_version l.list.items));
}
