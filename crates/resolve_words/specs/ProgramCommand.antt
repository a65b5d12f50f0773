-- The command that the words of the program are read by.
use Rattle.std.specs.Prelude.{ℕ, true, List, [], ◌∷◌, Some, codes, fold}
use Rattle.clap.specs.Words.{App, Kinds, Row, Rule, Text, fault_of, matches_of, new_rule, with_rule}
use Rattle.clap.specs.Simple.{new_app, on_top}
use Rattle.clap.specs.declared.builder.ArgAction.TheVariants.{Append}
use Rattle.clap.specs.declared.builder.value_parser.ValueParser.TheVariants.{Unsigned}

-- an option that takes one text
abbrev pub option : Text → Rule
option name = record (new_rule name) { long = Some name }

-- the same, with the text that it has where it is not given
abbrev pub option_or : Text → Text → Rule
option_or name default = record (option name) { defaults = default ∷ [] }

-- the same, for a number from `least` to `most`
abbrev pub number_or : Text → Text → ℕ → ℕ → Rule
number_or name default least most = record (option_or name default) { parser = Some (Unsigned least most) }

-- any number of further words
abbrev pub further : Text → Rule
further name = record (new_rule name) { action = Some Append }

abbrev pub rules : List Rule
rules =
    option (codes "status")
    ∷ option (codes "packages")
    ∷ option (codes "sample")
    ∷ option (codes "hints")
    ∷ option_or (codes "cost") (codes "removals,canceled")
    ∷ option_or (codes "arch") (codes "amd64")
    ∷ number_or (codes "slice") (codes "5000") 1 1000000
    ∷ number_or (codes "workers") (codes "1") 0 16
    ∷ further (codes "ACTION")
    ∷ []

-- a command without options, `--help` among them
abbrev pub bare : App
bare = on_top (λ s. record s { disable_help_flag = true }) (new_app (codes "aptres"))

unfoldable pub command : App
command = fold with_rule bare rules

-- the values that the words give, with the command's own ones where they give none
unfoldable pub rows : List Text → List Row
rows words = matches_of command words

-- why the command does not take the words; empty exactly where it takes them
unfoldable pub faults : List Text → Kinds
faults words = fault_of command words
