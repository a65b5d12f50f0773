-- The open file of a shelf in memory.
use Rattle.std.specs.Prelude.{ℕ, Bool, true, List, Option, Some, None, string_bytes, Vec, String}
use Rattle.std.specs.declared.alloc.Global.{Global}
use Rattle.std.specs.Option.{is_some}
use Rattle.std.specs.List.{slice_get}
use Rattle.apt_base.specs.Faults.{ByName, at_name}
use Rattle.apt_base.specs.declared.mem_shelf.Opened.{Opened}

abbrev pub is_asked : ByName ℕ → Option (String Global × Vec ℕ Global) → Bool
is_asked asked None = true
is_asked asked (Some file) = is_some (at_name asked (string_bytes file.0))

-- the open file's name is one of those that were asked for
abbrev pub is_entered : List (String Global × Vec ℕ Global) → ByName ℕ → Option Opened → Bool
is_entered files asked None = true
is_entered files asked (Some opened) = is_asked asked (slice_get files opened.file)
