-- Why a text is no cost spec.
use Rattle.std.specs.Prelude.{◌≡◌, ℕ, List, None}
use Rattle.cost_vector.specs.declared.cost_spec.SpecEnd.{SpecEnd}
use Rattle.cost_vector.specs.declared.cost_spec.SpecEnd.TheVariants.{SpecFault, NoMemory}
use Rattle.cost_vector.specs.Grammar.{spec_of}
use Rattle.cost_vector.specs.Reading.{IsLongestStart}

-- A fault tells that the text is no spec, and how long its longest prefix is that is a prefix of a spec.
abbrev pub IsSpecEnd : List ℕ → SpecEnd → Type 0
IsSpecEnd text (SpecFault at) = (spec_of text ≡ None) × IsLongestStart spec_of text at
IsSpecEnd text NoMemory = Unit {0}
