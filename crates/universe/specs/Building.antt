-- What a build of a universe gives, and why there is none.
use Rattle.std.specs.Prelude.{◌≡◌, ◌⊎◌, ℕ, List, None, Some, option_map}
use Rattle.universe_model.specs.Faults.{build_end}
use Rattle.universe_model.specs.Limits.{limit_past}
use Rattle.universe_model.specs.Reading.{Stanzas}
use Rattle.universe_model.specs.Universes.{Universe, problem_of, universe_of}
use Rattle.universe_model.specs.declared.BuildEnd.{BuildEnd}
use Rattle.universe_model.specs.declared.BuildEnd.TheVariants.{NoMemory}

-- the universe of stanzas, within the limits
pub record IsOfStanzas (native : List ℕ) (stanzas : Stanzas) (u : Universe) : Type 0 where
  pub same : u ≡ universe_of native stanzas
  pub within : limit_past (problem_of (universe_of native stanzas)) ≡ None

-- the first limit that it exceeds, or want of memory
abbrev pub IsEndOf : List ℕ → Stanzas → BuildEnd → Type 0
IsEndOf native stanzas end = (end ≡ NoMemory) ⊎ (option_map build_end (limit_past (problem_of (universe_of native stanzas))) ≡ Some end)
