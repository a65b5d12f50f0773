-- The installed ones of all versions.
use Rattle.std.specs.Prelude.{◌≡◌, ℕ, Bool, true, false, List, None}
use Rattle.std.specs.List.{list_any, list_all}
use Rattle.std.specs.Option.{is_some}
use Rattle.lists.specs.Sets.{has}
use Rattle.universe_model.specs.Lists.{numbers_of}
use Rattle.universe_model.specs.Versions.{Version}
use Rattle.requirement_list.specs.declared.Indexes.{Indexes}

-- whether a version is not absent
abbrev pub is_read : Version → Bool
is_read v = is_some v.release

-- no absent version passes a test
abbrev pub PassesNoAbsent : (Version → Bool) → Type 0
PassesNoAbsent test = (v : Version) → v.release ≡ None → test v ≡ false

-- None of these is absent, and one of them passes a test that no absent version passes exactly where an installed version does.
pub record AreInstalled (installed : List ℕ) (versions these : List Version) : Type 0 where
  pub there : list_all is_read these ≡ true
  pub passes : (test : Version → Bool) → PassesNoAbsent test → list_any test these ≡ list_any (has installed) (numbers_of test versions)

-- an index of the installed ones stands beside that of all versions
pub record HasInstalled (installed : List ℕ) (indexes : Indexes) : Type 0 where
  pub native : indexes.installed.native ≡ indexes.all.native
  pub versions : AreInstalled installed indexes.all.versions indexes.installed.versions
