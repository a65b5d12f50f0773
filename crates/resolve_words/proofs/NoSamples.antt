-- A text whose count is none is no sample.
use Rattle.std.proofs.Common.{◌≡◌, ℕ, Bool, true, false, ◌&&◌, List, Option, Some, None, if◌then◌else◌, refl, sym, ap, ◌∙◌}
use Rattle.std.specs.List.{before_first, after_first, list_any}
use Rattle.ascii.specs.Bytes.{is_colon}
use Rattle.ascii.specs.Decimals.{number}
use Rattle.resolve_words.specs.SampleWords.{is_seed, is_count, sample, sample_of}

unset : (b : Bool) (n : ℕ) → None ≡ (if b then Some n else None) → b ≡ false
unset true n e = cc
unset false n e = refl

outside : (a b c : Bool) (x : Option (ℕ × ℕ)) → c ≡ false → None ≡ (if a && (b && c) then x else None)
outside true true true x e = cc
outside true true false x e = refl
outside true false c x e = refl
outside false b c x e = refl

pub no-sample : (text count : List ℕ) → count ≡ after_first is_colon text → None ≡ (if is_count count then Some (number count) else None)
    → None ≡ sample_of text
no-sample text count same none =
    outside (list_any is_colon text) (is_seed (before_first is_colon text)) (is_count (after_first is_colon text))
    (Some (sample (number (before_first is_colon text)) (number (after_first is_colon text))))
    (ap is_count (sym same) ∙ unset (is_count count) (number count) none)
