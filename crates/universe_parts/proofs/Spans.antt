-- A table keeps its texts while more come behind them.
use Rattle.std.proofs.Common.{◌≡◌, ◌≤◌, ◌-◌, ℕ, zero, suc, List, [], ◌∷◌, ◌++◌, true, length, take, drop, refl, ap, ◌∙◌, arith, nat_le, length-append}
use Rattle.std.specs.List.{list_all, slice_range}
use Rattle.std.proofs.lemmas.List.{take-append-le, drop-append-le, length-drop, map-append}
use Rattle.std.proofs.lemmas.List.Folds.{list_all-append}
use Rattle.std.proofs.Math.Seq.{drop-append_seam, take-length}
use Rattle.std.proofs.lemmas.Bool.{and_from, and_parts, leb-true, le-leb}
use Rattle.universe_parts.specs.declared.text_table.TextSpan.{TextSpan}
use Rattle.universe_parts.specs.TextTables.{is_span, text_at, texts_at}

range-more : (xs ys : List ℕ) (a b : ℕ) → a ≤ b → b ≤ length xs → slice_range (xs ++ ys) a b ≡ slice_range xs a b
range-more xs ys a b h k =
    let start : a ≤ length xs = omega arith in
    let enough : b - a ≤ length (drop a xs) = rw (length-drop a xs) (omega arith) in
    ap (λ zs. take (b - a) zs) (drop-append-le a xs ys start) ∙ take-append-le (b - a) (drop a xs) ys enough

range-end : (xs ys : List ℕ) → slice_range (xs ++ ys) (length xs) (length (xs ++ ys)) ≡ ys
range-end xs ys =
    let few : length (xs ++ ys) - length xs ≡ length ys = omega (arith, length-append xs ys) in
    rw (few, drop-append_seam xs ys) (take-length ys)

texts-more : (spans : List TextSpan) (xs ys : List ℕ) → list_all (is_span xs) spans ≡ true → texts_at (xs ++ ys) spans ≡ texts_at xs spans
texts-more [] xs ys h = refl
texts-more (span ∷ spans) xs ys h =
    let parts = and_parts (is_span xs span) _ h in
    let both = and_parts (nat_le span.first span.end) _ parts.0 in
    let same = range-more xs ys span.first span.end (leb-true _ _ both.0) (leb-true _ _ both.1) in
    rw (same, texts-more spans xs ys parts.1) refl

spans-more : (spans : List TextSpan) (xs ys : List ℕ) → list_all (is_span xs) spans ≡ true → list_all (is_span (xs ++ ys)) spans ≡ true
spans-more [] xs ys h = refl
spans-more (span ∷ spans) xs ys h =
    let parts = and_parts (is_span xs span) _ h in
    let both = and_parts (nat_le span.first span.end) _ parts.0 in
    let low : span.end ≤ length xs = leb-true _ _ both.1 in
    and_from (is_span (xs ++ ys) span) _ (and_from (nat_le span.first span.end) _ both.0 (le-leb _ _ (omega (arith, low, length-append xs ys)))) (spans-more spans xs ys parts.1)

-- the place of a text at the end
abbrev pub last_span : ℕ → ℕ → TextSpan
last_span first end = record { first = first; end = end }

pub spans-pushed : (spans : List TextSpan) (xs ys zs : List ℕ) (first end : ℕ) → zs ≡ xs ++ ys → first ≡ length xs → end ≡ length zs → list_all (is_span xs) spans ≡ true
    → list_all (is_span zs) (spans ++ last_span first end ∷ []) ≡ true
spans-pushed spans xs ys zs first end e f g h =
    let span = last_span first end in
    let low : first ≤ end = omega (arith, f, g, ap length e, length-append xs ys) in
    let high : end ≤ length zs = omega (arith, g) in
    let last : is_span zs span ≡ true = and_from (nat_le first end) _ (le-leb _ _ low) (le-leb _ _ high) in
    let old : list_all (is_span zs) spans ≡ true = rw e (spans-more spans xs ys h) in
    list_all-append (is_span zs) spans (span ∷ []) ∙ and_from _ _ old (and_from (is_span zs span) _ last refl)

pub texts-pushed : (spans : List TextSpan) (xs ys zs : List ℕ) (first end : ℕ) → zs ≡ xs ++ ys → first ≡ length xs → end ≡ length zs → list_all (is_span xs) spans ≡ true
    → texts_at zs (spans ++ last_span first end ∷ []) ≡ texts_at xs spans ++ ys ∷ []
texts-pushed spans xs ys zs first end e f g h =
    let old : texts_at zs spans ≡ texts_at xs spans = rw e (texts-more spans xs ys h) in
    let own : slice_range zs first end ≡ ys = rw (f, g, e) (range-end xs ys) in
    map-append (text_at zs) spans (last_span first end ∷ []) ∙ rw (old, own) refl

-- the first places are within the table too
pub spans-first : (bytes : List ℕ) (n : ℕ) (spans : List TextSpan) → list_all (is_span bytes) spans ≡ true → list_all (is_span bytes) (take n spans) ≡ true
spans-first bytes zero spans all = refl
spans-first bytes (suc n) [] all = refl
spans-first bytes (suc n) (span ∷ spans) all =
    let parts = and_parts (is_span bytes span) _ all in
    and_from (is_span bytes span) _ parts.0 (spans-first bytes n spans parts.1)
