-- A source in memory, as its caller sees it.
use Rattle.std.specs.Prelude.{ℕ, ◌&&◌, ◌==◌, min, length, drop, Some}
use Rattle.apt_base.specs.Bytes.{SourceState}
use Rattle.apt_base.specs.Plan.{fails_never}
use Rattle.apt_base.specs.declared.mem_source.MemSource.{MemSource}

abbrev pub source_state : MemSource → SourceState
source_state source = record {
  sure = fails_never source.plan && (source.faults == 0);
  faults = source.faults;
  left = Some (drop source.start source.bytes.items);
}

-- how many bytes a read into a buffer of that length could move
abbrev pub could_read : MemSource → ℕ → ℕ
could_read source room = min room (length (drop source.start source.bytes.items))
