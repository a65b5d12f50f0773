-- What the words of the command line give, where the program takes them.
use Rattle.std.specs.Prelude.{ℕ, Bool, ◌&&◌, List, [], if◌then◌else◌}
use Rattle.clap.specs.Words.{Text}
use Rattle.resolve_words.specs.Given.{Given, given, are_understood, is_taken}
use Rattle.resolve_words.specs.ProgramCommand.{rows}
use Rattle.sources.specs.Sources.{names_of}

-- the command takes the words, and nothing that they give is refused
abbrev pub is_accepted : List Text → Bool
is_accepted words = are_understood words && is_taken (rows words)

abbrev pub settings_in : List Text → Given
settings_in words = given (rows words)

-- the names of the files that the words ask for, in their order
abbrev pub names_in : List Text → List (List ℕ)
names_in words = if is_accepted words then names_of (settings_in words) else []
