-- What is checked of the words before their texts are kept.
use Rattle.std.specs.Prelude.{◌≡◌, ◌≤◌, ℕ, true, List, Some}
use Rattle.std.specs.Option.{option_and_then}
use Rattle.std.specs.Prelude.{codes}
use Rattle.clap.specs.Words.{Row}
use Rattle.clap.specs.declared.error.kind.ErrorKind.{ErrorKind}
use Rattle.clap.specs.declared.error.kind.ErrorKind.TheVariants.{OutOfMemory}
use Rattle.cost_vector.specs.Grammar.{spec_of}
use Rattle.cost_vector.specs.SpecEnds.{IsSpecEnd}
use Rattle.cost_vector.specs.declared.cost_spec.SpecEnd.TheVariants.{SpecFault}
use Rattle.resolve_words.specs.SampleWords.{sample_of}
use Rattle.resolve_words.specs.Given.{slice_text, workers_text, cost_text, number_in, text_given, are_numbers_taken, is_taken}
use Rattle.resolve_words.specs.declared.ends.UsageFault.TheVariants.{Words, Cost}
use Rattle.resolve_words.specs.declared.ends.SettingsEnd.{SettingsEnd}
use Rattle.resolve_words.specs.declared.ends.SettingsEnd.TheVariants.{Usage, NoMemory}
use Rattle.resolve_words.specs.declared.reading.Numbers.{Numbers}
use Rattle.resolve_words.specs.declared.reading.Checked.{Checked}

-- the end for an error of the command
abbrev pub kind_end : ErrorKind → SettingsEnd
kind_end OutOfMemory = NoMemory
kind_end _ = Usage Words

-- why a text gave no cost spec
abbrev pub IsCostEnd : List ℕ → SettingsEnd → Type 0
IsCostEnd text (Usage (Cost at)) = IsSpecEnd text (SpecFault at)
IsCostEnd text (Usage _) = ⊥
IsCostEnd text NoMemory = Unit {0}

pub record AreNumbers (rs : List Row) (numbers : Numbers) : Type 0 where
  pub taken : are_numbers_taken rs ≡ true
  pub slice : numbers.slice ≡ number_in (slice_text rs)
  pub workers : numbers.workers ≡ number_in (workers_text rs)
  pub slice_from : 1 ≤ numbers.slice
  pub slice_to : numbers.slice ≤ 1000000
  pub workers_to : numbers.workers ≤ 16

pub record IsChecked (rs : List Row) (checked : Checked) : Type 0 where
  pub taken : is_taken rs ≡ true
  pub numbers : AreNumbers rs checked.numbers
  pub cost : spec_of (cost_text rs) ≡ Some checked.cost
  pub sample : checked.sample ≡ option_and_then sample_of (text_given rs (codes "sample"))
