-- A flat table keeps its rows while more targets come behind them.
use Rattle.std.proofs.Common.{◌≡◌, ◌≤◌, ◌-◌, ℕ, List, [], ◌∷◌, ◌++◌, true, length, take, drop, refl, ap, ◌∙◌, arith, nat_le, length-append, Bool}
use Rattle.std.specs.List.{list_all, slice_range, sum_by}
use Rattle.std.proofs.lemmas.List.Sums.{sum_by_push}
use Rattle.std.proofs.lemmas.List.{take-append-le, drop-append-le, length-drop, map-append}
use Rattle.std.proofs.lemmas.List.Folds.{list_all-append}
use Rattle.std.proofs.Math.Seq.{drop-append_seam, take-length}
use Rattle.std.proofs.lemmas.Bool.{and_from, and_parts, leb-true, le-leb}
use Rattle.problem.specs.declared.tables.Row.{Row}
use Rattle.resolver_model.specs.Problems.{Dependency}
use Rattle.problem.specs.Tables.{dependency_of, dependencies_of, is_row, AreTables}

range_more : (xs ys : List ℕ) (a b : ℕ) → a ≤ b → b ≤ length xs → slice_range (xs ++ ys) a b ≡ slice_range xs a b
range_more xs ys a b h k =
    let start : a ≤ length xs = omega arith in
    let enough : b - a ≤ length (drop a xs) = rw (length-drop a xs) (omega arith) in
    ap (λ zs. take (b - a) zs) (drop-append-le a xs ys start) ∙ take-append-le (b - a) (drop a xs) ys enough

pub range_end : (xs ys : List ℕ) → slice_range (xs ++ ys) (length xs) (length (xs ++ ys)) ≡ ys
range_end xs ys =
    let few : length (xs ++ ys) - length xs ≡ length ys = omega (arith, length-append xs ys) in
    rw (few, drop-append_seam xs ys) (take-length ys)

pub rows_more : (rows : List Row) (xs ys : List ℕ) → list_all (is_row xs) rows ≡ true → dependencies_of (xs ++ ys) rows ≡ dependencies_of xs rows
rows_more [] xs ys h = refl
rows_more (row ∷ rows) xs ys h =
    let parts = and_parts (is_row xs row) _ h in
    let both = and_parts (nat_le row.first row.end) _ parts.0 in
    let same = range_more xs ys row.first row.end (leb-true _ _ both.0) (leb-true _ _ both.1) in
    rw (same, rows_more rows xs ys parts.1) refl

pub all_more : (rows : List Row) (xs ys : List ℕ) → list_all (is_row xs) rows ≡ true → list_all (is_row (xs ++ ys)) rows ≡ true
all_more [] xs ys h = refl
all_more (row ∷ rows) xs ys h =
    let parts = and_parts (is_row xs row) _ h in
    let both = and_parts (nat_le row.first row.end) _ parts.0 in
    let low : row.end ≤ length xs = leb-true _ _ both.1 in
    and_from (is_row (xs ++ ys) row) _ (and_from (nat_le row.first row.end) _ both.0 (le-leb _ _ (omega (arith, low, length-append xs ys)))) (all_more rows xs ys parts.1)

-- the row that stands for the targets at the end
abbrev pub last_row : ℕ → ℕ → ℕ → Bool → Row
last_row source first end soft = record { source = source; first = first; end = end; soft = soft }

pub all_pushed : (rows : List Row) (xs ys zs : List ℕ) (source first end : ℕ) (soft : Bool) → zs ≡ xs ++ ys → first ≡ length xs → end ≡ length zs → list_all (is_row xs) rows ≡ true
    → list_all (is_row zs) (rows ++ last_row source first end soft ∷ []) ≡ true
all_pushed rows xs ys zs source first end soft e f g h =
    let row = last_row source first end soft in
    let low : first ≤ end = omega (arith, f, g, ap length e, length-append xs ys) in
    let high : end ≤ length zs = omega (arith, g) in
    let last : is_row zs row ≡ true = and_from (nat_le first end) _ (le-leb _ _ low) (le-leb _ _ high) in
    let old : list_all (is_row zs) rows ≡ true = rw e (all_more rows xs ys h) in
    list_all-append (is_row zs) rows (row ∷ []) ∙ and_from _ _ old (and_from (is_row zs row) _ last refl)

pub view_pushed : (rows : List Row) (xs ys zs : List ℕ) (source first end : ℕ) (soft : Bool) → zs ≡ xs ++ ys → first ≡ length xs → end ≡ length zs → list_all (is_row xs) rows ≡ true
    → dependencies_of zs (rows ++ last_row source first end soft ∷ []) ≡ dependencies_of xs rows ++ (record { source = source; targets = ys; soft = soft }) ∷ []
view_pushed rows xs ys zs source first end soft e f g h =
    let row = last_row source first end soft in
    let old : dependencies_of zs rows ≡ dependencies_of xs rows = rw e (rows_more rows xs ys h) in
    let own : slice_range zs first end ≡ ys = rw (f, g, e) (range_end xs ys) in
    map-append (dependency_of zs) rows (row ∷ []) ∙ rw (old, own) refl

pub tables_pushed : (rows : List Row) (xs ys zs : List ℕ) (source first end : ℕ) (soft : Bool) → zs ≡ xs ++ ys → first ≡ length xs → end ≡ length zs → AreTables xs rows
    → AreTables zs (rows ++ last_row source first end soft ∷ [])
tables_pushed rows xs ys zs source first end soft e f g h =
    let d : Dependency = record { source = source; targets = ys; soft = soft } in
    let size : length zs ≡ sum_by (λ (d : Dependency). length d.targets) (dependencies_of zs (rows ++ last_row source first end soft ∷ [])) =
    rw (view_pushed rows xs ys zs source first end soft e f g h.parts)
    (omega (arith, ap length e, length-append xs ys, h.size, sum_by_push (λ (d : Dependency). length d.targets) (dependencies_of xs rows) d)) in
    record { parts = all_pushed rows xs ys zs source first end soft e f g h.parts; size = size }
