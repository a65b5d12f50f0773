-- The flat table keeps its packages while more versions come behind them.
use Rattle.std.proofs.Common.{◌≡◌, ◌<◌, ◌≤◌, ◌+◌, ◌-◌, ℕ, suc, List, [], ◌∷◌, ◌++◌, true, length, get_or, take, drop, drop-cons, refl, ap, ◌∙◌, arith, nat_le, length-append}
use Rattle.std.specs.List.{list_all, slice_range}
use Rattle.std.proofs.lemmas.List.{take-append-le, drop-append-le, length-drop, map-append}
use Rattle.std.proofs.lemmas.List.Folds.{list_all-append}
use Rattle.std.proofs.lemmas.Bool.{and_from, and_parts, leb-true, le-leb}
use Rattle.std.proofs.Math.Seq.{drop-append_seam, take-length}
use Rattle.requirement_list.specs.declared.left.Entry.{Entry}
use Rattle.requirement_list.specs.Left.{left_in, all_left, is_entry}

pub range_more : {A : Type 0} (xs ys : List A) (a b : ℕ) → a ≤ b → b ≤ length xs → slice_range (xs ++ ys) a b ≡ slice_range xs a b
range_more xs ys a b h k =
    let start : a ≤ length xs = omega arith in
    let enough : b - a ≤ length (drop a xs) = rw (length-drop a xs) (omega arith) in
    ap (λ zs. take (b - a) zs) (drop-append-le a xs ys start) ∙ take-append-le (b - a) (drop a xs) ys enough

pub range_end : {A : Type 0} (xs ys : List A) → slice_range (xs ++ ys) (length xs) (length (xs ++ ys)) ≡ ys
range_end xs ys =
    let few : length (xs ++ ys) - length xs ≡ length ys = omega (arith, length-append xs ys) in
    rw (few, drop-append_seam xs ys) (take-length ys)

pub range_whole : {A : Type 0} (xs : List A) → slice_range xs 0 (length xs) ≡ xs
range_whole xs = range_end [] xs

-- the first of a range, and the rest
pub range_next : {A : Type 0} (xs : List A) (d : A) (a b : ℕ) → a < b → b ≤ length xs → slice_range xs a b ≡ get_or xs a d ∷ slice_range xs (a + 1) b
range_next xs d a b lt le =
    let count : b - a ≡ suc (b - (a + 1)) = omega arith in
    let step : suc a ≡ a + 1 = omega arith in
    ap (λ zs. take (b - a) zs) (drop-cons xs a d (omega arith))
    ∙ ap (λ k. take k (get_or xs a d ∷ drop (suc a) xs)) count
    ∙ ap (λ k. get_or xs a d ∷ take (b - (a + 1)) (drop k xs)) step

pub range_none : {A : Type 0} (xs : List A) (a b : ℕ) → b ≤ a → slice_range xs a b ≡ []
range_none xs a b le = let none : b - a ≡ 0 = omega arith in rw none refl

pub left_more : (entries : List Entry) (xs ys : List ℕ) → list_all (is_entry xs) entries ≡ true → all_left (xs ++ ys) entries ≡ all_left xs entries
left_more [] xs ys h = refl
left_more (entry ∷ entries) xs ys h =
    let parts = and_parts (is_entry xs entry) _ h in
    let both = and_parts (nat_le entry.first entry.end) _ parts.0 in
    let same = range_more xs ys entry.first entry.end (leb-true _ _ both.0) (leb-true _ _ both.1) in
    rw (same, left_more entries xs ys parts.1) refl

pub entries_more : (entries : List Entry) (xs ys : List ℕ) → list_all (is_entry xs) entries ≡ true → list_all (is_entry (xs ++ ys)) entries ≡ true
entries_more [] xs ys h = refl
entries_more (entry ∷ entries) xs ys h =
    let parts = and_parts (is_entry xs entry) _ h in
    let both = and_parts (nat_le entry.first entry.end) _ parts.0 in
    let low : entry.end ≤ length xs = leb-true _ _ both.1 in
    and_from (is_entry (xs ++ ys) entry) _ (and_from (nat_le entry.first entry.end) _ both.0 (le-leb _ _ (omega (arith, low, length-append xs ys)))) (entries_more entries xs ys parts.1)

-- the entry that stands for the versions at the end
abbrev pub last_entry : ℕ → ℕ → ℕ → Entry
last_entry owner first end = record { owner = owner; first = first; end = end }

pub entries_pushed : (entries : List Entry) (xs ys zs : List ℕ) (owner first end : ℕ) → zs ≡ xs ++ ys → first ≡ length xs → end ≡ length zs → list_all (is_entry xs) entries ≡ true
    → list_all (is_entry zs) (entries ++ last_entry owner first end ∷ []) ≡ true
entries_pushed entries xs ys zs owner first end e f g h =
    let entry = last_entry owner first end in
    let low : first ≤ end = omega (arith, f, g, ap length e, length-append xs ys) in
    let high : end ≤ length zs = omega (arith, g) in
    let last : is_entry zs entry ≡ true = and_from (nat_le first end) _ (le-leb _ _ low) (le-leb _ _ high) in
    let old : list_all (is_entry zs) entries ≡ true = rw e (entries_more entries xs ys h) in
    list_all-append (is_entry zs) entries (entry ∷ []) ∙ and_from _ _ old (and_from (is_entry zs entry) _ last refl)

pub left_pushed : (entries : List Entry) (xs ys zs : List ℕ) (owner first end : ℕ) → zs ≡ xs ++ ys → first ≡ length xs → end ≡ length zs → list_all (is_entry xs) entries ≡ true
    → all_left zs (entries ++ last_entry owner first end ∷ []) ≡ all_left xs entries ++ (record { owner = owner; versions = ys }) ∷ []
left_pushed entries xs ys zs owner first end e f g h =
    let entry = last_entry owner first end in
    let old : all_left zs entries ≡ all_left xs entries = rw e (left_more entries xs ys h) in
    let own : slice_range zs first end ≡ ys = rw (f, g, e) (range_end xs ys) in
    map-append (left_in zs) entries (entry ∷ []) ∙ rw (old, own) refl
