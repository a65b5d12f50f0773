-- A shelf in memory, as its caller sees it.
use Rattle.std.specs.Prelude.{◌≡◌, ℕ, ◌&&◌, Bool, true, false, not, min, List, [], length, drop, Option, Some, Result, Ok, Err, IsSome, IsTrue, if◌then◌else◌, string_bytes, Vec, String}
use Rattle.std.specs.Option.{option_map, option_and_then, is_some, unwrap_or}
use Rattle.std.specs.List.{slice_get}
use Rattle.std.specs.declared.alloc.Global.{Global}
use Rattle.apt_base.specs.Faults.{ByName, at_name, faults_of}
use Rattle.apt_base.specs.Files.{ShelfState, IsShelfState}
use Rattle.apt_base.specs.Memory.{files_of, none_failed, sure_of_files}
use Rattle.apt_base.specs.Plan.{fails_never, fails_now, planned}
use Rattle.apt_base.specs.declared.calls.Failed.{Failed}
use Rattle.apt_base.specs.declared.calls.OpenEnd.{OpenEnd}
use Rattle.apt_base.specs.declared.calls.OpenEnd.TheVariants as open_end
use Rattle.apt_base.specs.declared.mem_shelf.Opened.{Opened}
use Rattle.apt_base.specs.declared.mem_shelf.MemShelf.{MemShelf}

-- the file that is open
abbrev pub open_file : MemShelf → Option (String Global × Vec ℕ Global)
open_file shelf = option_and_then (λ opened. slice_get shelf.files.items opened.file) shelf.opened

abbrev pub bytes_left : List (String Global × Vec ℕ Global) → Opened → Option (List ℕ)
bytes_left files opened = option_map (λ file. drop opened.taken file.1.items) (slice_get files opened.file)

abbrev pub shelf_state : MemShelf → ShelfState
shelf_state shelf = record {
  sure = fails_never shelf.plan && none_failed shelf.asked (files_of shelf.files.items);
  asked = shelf.asked;
  files = Some (files_of shelf.files.items);
  opened = option_map (λ file. string_bytes file.0) (open_file shelf);
  rest = option_and_then (bytes_left shelf.files.items) shelf.opened;
}

-- `open` fails where the plan says so, and for a name that is not there
abbrev pub open_answer : MemShelf → List ℕ → Result (Unit {0}) OpenEnd
open_answer shelf name = if is_some (at_name (files_of shelf.files.items) name) && (not (fails_now shelf.plan)) then Ok tt else Err open_end.Failed

-- a read goes by the plan
abbrev pub read_answer : MemShelf → ℕ → Result ℕ Failed
read_answer shelf room = planned shelf.plan (min room (length (unwrap_or (shelf_state shelf).rest [])))

law : (never : Bool) (asked : ByName ℕ) (files : ByName (List ℕ)) → IsTrue (never && none_failed asked files) → (name : List ℕ) → IsSome (at_name files name) → faults_of asked name ≡ 0
law true asked files sure name there = sure_of_files asked files sure name there
law false asked files sure name there = cc

-- a sure shelf has never failed for one of its files
pub shelf_law : (shelf : MemShelf) → IsShelfState (shelf_state shelf)
shelf_law shelf sure = λ name there. law (fails_never shelf.plan) shelf.asked (files_of shelf.files.items) sure name there
