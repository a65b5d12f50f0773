-- What the words of the program give, and which words are refused.
use Rattle.std.specs.Prelude.{◌≡◌, ◌⊎◌, ℕ, Bool, true, false, not, ◌&&◌, ◌||◌, List, [], map, length, ◌==◌, Option, Some, None, is_some, codes, unwrap_or, string_bytes}
use Rattle.std.specs.Option.{option_map, option_and_then}
use Rattle.std.specs.Str.Parse.{digits_value, without_leading_plus}
use Rattle.clap.specs.Words.{Row, Text, all_of, first_of}
use Rattle.clap.specs.ValueTests.{is_unsigned_in}
use Rattle.cost_vector.specs.Grammar.{spec_of}
use Rattle.cost_vector.specs.SpecEnds.{IsSpecEnd}
use Rattle.cost_vector.specs.declared.cost_spec.Level.{Level}
use Rattle.cost_vector.specs.declared.cost_spec.SpecEnd.TheVariants.{SpecFault}
use Rattle.dep_fields.specs.Tokens.{is_arch}
use Rattle.resolve_words.specs.ProgramCommand.{rows, faults}
use Rattle.resolve_words.specs.SampleWords.{sample_of}
use Rattle.resolve_words.specs.declared.settings.Settings.{Settings}
use Rattle.resolve_words.specs.declared.ends.UsageFault.{UsageFault}
use Rattle.resolve_words.specs.declared.ends.UsageFault.TheVariants.{Words, Cost, Arch, Sample, Files, Action}
use Rattle.resolve_words.specs.declared.ends.SettingsEnd.{SettingsEnd}
use Rattle.resolve_words.specs.declared.ends.SettingsEnd.TheVariants.{Usage, NoMemory}

-- ---- what the rows of the command's matches give

-- the text of an option, if it has one
abbrev pub text_given : List Row → Text → Option Text
text_given rs name = first_of name rs

abbrev pub text_of : List Row → Text → Text
text_of rs name = unwrap_or (text_given rs name) []

abbrev pub cost_text : List Row → Text
cost_text rs = text_of rs (codes "cost")

abbrev pub arch_text : List Row → Text
arch_text rs = text_of rs (codes "arch")

abbrev pub slice_text : List Row → Text
slice_text rs = text_of rs (codes "slice")

abbrev pub workers_text : List Row → Text
workers_text rs = text_of rs (codes "workers")

-- a number in decimal; a plus and zeros may lead
abbrev pub number_in : Text → ℕ
number_in text = digits_value 10 (without_leading_plus text)

abbrev pub actions_in : List Row → List Text
actions_in rs = unwrap_or (all_of (codes "ACTION") rs) []

pub record Given : Type 0 where
  pub status : Option Text
  pub packages : Option Text
  pub hints : Option Text
  pub sample : Option (ℕ × ℕ)
  pub cost : Option (List Level)
  pub arch : Text
  pub slice : ℕ
  pub workers : ℕ
  pub actions : List Text

abbrev pub given : List Row → Given
given rs = record {
  status = text_given rs (codes "status");
  packages = text_given rs (codes "packages");
  hints = text_given rs (codes "hints");
  sample = option_and_then sample_of (text_given rs (codes "sample"));
  cost = spec_of (cost_text rs);
  arch = arch_text rs;
  slice = number_in (slice_text rs);
  workers = number_in (workers_text rs);
  actions = actions_in rs;
}

-- settings as they are compared with it, field by field
abbrev pub given_by : Settings → Given
given_by s = record {
  status = option_map string_bytes s.status;
  packages = option_map string_bytes s.packages;
  hints = option_map string_bytes s.hints;
  sample = s.sample;
  cost = Some s.cost;
  arch = string_bytes s.arch;
  slice = s.slice;
  workers = s.workers;
  actions = map string_bytes s.actions.items;
}

-- ---- refusals of what is given, in their order

-- the numbers are within their ranges
abbrev pub are_numbers_taken : List Row → Bool
are_numbers_taken rs = is_unsigned_in 1 1000000 (slice_text rs) && is_unsigned_in 0 16 (workers_text rs)

abbrev pub is_cost_taken : List Row → Bool
is_cost_taken rs = are_numbers_taken rs && is_some (spec_of (cost_text rs))

abbrev pub is_arch_taken : List Row → Bool
is_arch_taken rs = is_cost_taken rs && is_arch (arch_text rs)

-- whether what is given as a sample is one
abbrev pub is_sample : Option Text → Bool
is_sample None = true
is_sample (Some text) = is_some (sample_of text)

abbrev pub is_sample_taken : List Row → Bool
is_sample_taken rs = is_arch_taken rs && is_sample (text_given rs (codes "sample"))

-- both files and no sample, or a sample and neither file
abbrev pub are_files : Bool → Bool → Bool → Bool
are_files status packages sample = (status && (packages && not sample)) || (not status && (not packages && sample))

abbrev pub are_files_given : List Row → Bool
are_files_given rs =
    are_files (is_some (text_given rs (codes "status"))) (is_some (text_given rs (codes "packages")))
    (is_some (text_given rs (codes "sample")))

abbrev pub is_taken : List Row → Bool
is_taken rs = is_sample_taken rs && are_files_given rs

-- the first refusal of what is given; actions are not looked at
abbrev pub IsFault : List Row → UsageFault → Type 0
IsFault rs Words = are_numbers_taken rs ≡ false
IsFault rs (Cost at) = (are_numbers_taken rs ≡ true) × IsSpecEnd (cost_text rs) (SpecFault at)
IsFault rs Arch = (is_cost_taken rs ≡ true) × (is_arch (arch_text rs) ≡ false)
IsFault rs Sample = (is_arch_taken rs ≡ true) × (is_sample (text_given rs (codes "sample")) ≡ false)
IsFault rs Files = (is_sample_taken rs ≡ true) × (are_files_given rs ≡ false)
IsFault rs (Action word) = ⊥

-- ---- refusals of words

-- there is a word, and the command takes the others
abbrev pub are_understood : List Text → Bool
are_understood words = not (length words == 0) && length (faults words) == 0

-- the first refusal of words: that of the command, or else of what they give
abbrev pub IsRefusal : List Text → UsageFault → Type 0
IsRefusal words fault =
    ((are_understood words ≡ false) × (fault ≡ Words)) ⊎ ((are_understood words ≡ true) × IsFault (rows words) fault)

-- ---- ends

-- a fault of what is given, or want of memory
abbrev pub IsFaultEnd : List Row → SettingsEnd → Type 0
IsFaultEnd rs (Usage fault) = IsFault rs fault
IsFaultEnd rs NoMemory = Unit {0}

-- a refusal of words, or want of memory
abbrev pub IsSettingsEnd : List Text → SettingsEnd → Type 0
IsSettingsEnd words (Usage fault) = IsRefusal words fault
IsSettingsEnd words NoMemory = Unit {0}

-- the settings that words give
pub record AreSettings (words : List Text) (settings : Settings) : Type 0 where
  pub understood : are_understood words ≡ true
  pub taken : is_taken (rows words) ≡ true
  pub given : given_by settings ≡ given (rows words)
