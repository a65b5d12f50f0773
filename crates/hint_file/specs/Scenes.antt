-- A setting as a scene, and what is looked up of a version in it.
use Rattle.std.specs.Prelude.{◌≡◌, ◌<◌, ℕ, length}
use Rattle.hint_file.specs.CostNames.{Scene, own_package, own_absent, own_installed, own_candidate}
use Rattle.hint_file.specs.declared.setting.Setting.{Setting}
use Rattle.hint_file.specs.declared.counting.Own.{Own}

abbrev pub scene_of : Setting → Scene
scene_of s = record { universe = s.universe.now; problem = s.problem.now; actions = s.wanted.now }

pub record IsOwn (s : Scene) (v : ℕ) (own : Own) : Type 0 where
  pub package_is : own.package_number ≡ own_package s v
  pub absent_is : own.absent ≡ own_absent s v
  pub installed_is : own.installed ≡ own_installed s v
  pub candidate_is : own.candidate ≡ own_candidate s v
  pub named : own.package_number < length s.universe.names
  pub installed_within : own.installed < length s.universe.versions
