-- Words that are accepted.
use Rattle.std.proofs.Common.{inl, inr, ◌≡◌, ◌≤◌, ℕ, Bool, true, false, ◌&&◌, cond, List, [], Option, Some, None, IfSome, is_some, IsTrue, refl, sym, ap, subst, codes, nat_le}
use Rattle.std.proofs.lemmas.Bool.{and_parts, leb-true}
use Rattle.std.specs.List.{before_first, after_first, list_any}
use Rattle.std.specs.Option.{option_and_then}
use Rattle.ascii.specs.Bytes.{is_colon}
use Rattle.ascii.specs.Decimals.{number}
use Rattle.clap.specs.Words.{Row, Text}
use Rattle.cost_vector.specs.Grammar.{spec_of}
use Rattle.cost_vector.specs.declared.cost_spec.Level.{Level}
use Rattle.dep_fields.specs.Tokens.{is_arch}
use Rattle.resolve_cli.specs.Words.{is_accepted, settings_in, names_in}
use Rattle.resolve_words.specs.Given.{Given, text_given, cost_text, arch_text, are_understood, are_numbers_taken, is_cost_taken, is_arch_taken, is_sample, is_sample_taken, are_files_given, is_taken, IsFault, IsRefusal, AreSettings}
use Rattle.resolve_words.specs.ProgramCommand.{rows}
use Rattle.resolve_words.specs.SampleWords.{sample, is_decimal, is_seed, is_count, sample_of}
use Rattle.resolve_words.specs.declared.ends.UsageFault.{UsageFault}
use Rattle.resolve_words.specs.declared.ends.UsageFault.TheVariants.{Words, Cost, Arch, Sample, Files, Action}
use Rattle.resolve_words.specs.declared.settings.Settings.{Settings}
use Rattle.sources.specs.Sources.{names_of}

both_true : (a b : Bool) → a ≡ true → b ≡ true → (a && b) ≡ true
both_true true b h k = k
both_true false b h k = absurd (cc)

not_both : (b : Bool) → b ≡ true → b ≡ false → ⊥
not_both true h k = absurd (cc)
not_both false h k = absurd (cc)

pub accepted_by : (words : List Text) (s : Settings) → AreSettings words s → IsTrue (is_accepted words)
accepted_by words s taken = both_true (are_understood words) (is_taken (rows words)) taken.understood taken.taken

pub names_are : (words : List Text) → IsTrue (is_accepted words) → names_in words ≡ names_of (settings_in words)
names_are words accepted = ap (λ b. cond b (names_of (settings_in words)) []) accepted

not_some : (o : Option (List Level)) → o ≡ None → is_some o ≡ true → ⊥
not_some None none some = absurd (cc)
not_some (Some levels) none some = absurd (cc)

not_fault : (rs : List Row) (fault : UsageFault) → is_taken rs ≡ true → IsFault rs fault → ⊥
not_fault rs fault taken h =
    let files = and_parts (is_sample_taken rs) (are_files_given rs) taken in
    let sample = and_parts (is_arch_taken rs) (is_sample (text_given rs (codes "sample"))) files.0 in
    let arch = and_parts (is_cost_taken rs) (is_arch (arch_text rs)) sample.0 in
    let cost = and_parts (are_numbers_taken rs) (is_some (spec_of (cost_text rs))) arch.0 in
    by_fault fault cost.0 cost.1 arch.1 sample.1 files.1 h
  where
    by_fault : (fault : UsageFault) → are_numbers_taken rs ≡ true → is_some (spec_of (cost_text rs)) ≡ true → is_arch (arch_text rs) ≡ true → is_sample (text_given rs (codes "sample")) ≡ true → are_files_given rs ≡ true → IsFault rs fault → ⊥
    by_fault Words numbers cost arch sample files h = not_both (are_numbers_taken rs) numbers h
    by_fault (Cost at) numbers cost arch sample files h = not_some (spec_of (cost_text rs)) h.1.0 cost
    by_fault Arch numbers cost arch sample files h = not_both (is_arch (arch_text rs)) arch h.1
    by_fault Sample numbers cost arch sample files h = not_both (is_sample (text_given rs (codes "sample"))) sample h.1
    by_fault Files numbers cost arch sample files h = not_both (are_files_given rs) files h.1
    by_fault (Action word) numbers cost arch sample files h = h

-- accepted words are not refused
pub not_refused : (words : List Text) (fault : UsageFault) → IsTrue (is_accepted words) → IsRefusal words fault → ⊥
not_refused words fault accepted refused =
    let parts = and_parts (are_understood words) (is_taken (rows words)) accepted in
    elim refused as (λ _. ⊥) [ inl h ↦ not_both (are_understood words) parts.0 h.0 | inr h ↦ not_fault (rows words) fault parts.1 h.1 ]

-- ---- a sample of settings has at most 50,000 packages

few_if : (any seed count : Bool) (s n : ℕ) → (count ≡ true → n ≤ 50000) → IfSome (cond (any && (seed && count)) (Some (sample s n)) None) (λ p. p.1 ≤ 50000)
few_if true true true s n few = few refl
few_if true true false s n few = tt
few_if true false count s n few = tt
few_if false seed count s n few = tt

count_few : (digits : List ℕ) → is_count digits ≡ true → number digits ≤ 50000
count_few digits h =
    let parts = and_parts (is_decimal digits) (nat_le 1 (number digits) && nat_le (number digits) 50000) h in
    leb-true (number digits) 50000 (and_parts (nat_le 1 (number digits)) (nat_le (number digits) 50000) parts.1).1

text_few : (text : Option Text) → IfSome (option_and_then sample_of text) (λ p. p.1 ≤ 50000)
text_few None = tt
text_few (Some text) =
    let seed = before_first is_colon text in
    let count = after_first is_colon text in
    few_if (list_any is_colon text) (is_seed seed) (is_count count) (number seed) (number count) (count_few count)

pub sample_few : (words : List Text) (s : Settings) → AreSettings words s → IfSome s.sample (λ p. p.1 ≤ 50000)
sample_few words s taken =
    let F : Option (ℕ × ℕ) → Type 0 = λ o. IfSome o (λ p. p.1 ≤ 50000) in
    subst F (sym (ap (λ (g : Given). g.sample) taken.given)) (text_few (text_given (rows words) (codes "sample")))
