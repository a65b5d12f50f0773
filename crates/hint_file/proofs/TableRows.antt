-- Tables whose rows are set one after the other.
use Rattle.std.proofs.Common.{◌≡◌, ◌<◌, ℕ, suc, ◌+◌, ◌-◌, Bool, ◌||◌, true, false, List, [], ◌∷◌, ◌++◌, map, length, take, drop, replicate, set, get_or, slice_index, slice_index_or, slice_set, arith, refl, sym, ap, ap₂, ◌∙◌, append_assoc}
use Rattle.std.proofs.lemmas.List.{take_more, length-take-le, length-map, map-append, set-set, set-get_or, get_or-set_same}
use Rattle.std.proofs.lemmas.List.Folds.{list_any_more, list_any_at}
use Rattle.std.proofs.Math.Seq.{drop-cons, set-append_seam, get_or-append_seam}
use Rattle.cost_vector.specs.declared.cost_spec.Level.{Level}
use Rattle.hint_effects.specs.declared.Hint.{Hint}
use Rattle.resolver_model.specs.Costs as model
use Rattle.resolver_model.specs.Costs.{Table, no_level, with_amount, empty_table}
use Rattle.hint_file.specs.CostNames.{Scene}
use Rattle.hint_file.specs.Prices.{choice_numbers, level_priced, row_of, is_row_past, is_past}
use Rattle.hint_file.specs.Rows.{with_row, level_unpriced, table_upto}

-- ---- one row

-- one amount more at the front of zeros
pub amounts-next : (row : List ℕ) (n k : ℕ) → length row ≡ n → k < n → set (take k row ++ replicate (n - k) 0) k (slice_index row k) ≡ take (k + 1) row ++ replicate (n - (k + 1)) 0
amounts-next row n k size less =
    let front : length (take k row) ≡ k = length-take-le k row (omega arith) in
    let left : n - k ≡ suc (n - (k + 1)) = omega arith in
    ap (λ m. set (take k row ++ replicate m 0) k (slice_index row k)) left
    ∙ ap (λ place. set (take k row ++ 0 ∷ replicate (n - (k + 1)) 0) place (slice_index row k)) (sym front)
    ∙ set-append_seam (take k row) 0 (replicate (n - (k + 1)) 0) (slice_index row k)
    ∙ sym (append_assoc (take k row) (slice_index row k ∷ []) (replicate (n - (k + 1)) 0))
    ∙ ap (λ xs. xs ++ replicate (n - (k + 1)) 0) (sym (take_more row k 0 (omega arith)))

-- a table with a row that it has
pub row-same : (table : Table) (place : ℕ) (amounts : List ℕ) → (slice_index_or table.levels place no_level).amounts ≡ amounts → table ≡ with_row table place amounts
row-same table place amounts is =
    let levels : List model.Level → Table = λ ls. record { choices = table.choices; levels = ls } in
    let level : List ℕ → model.Level = λ xs. record { greatest = (slice_index_or table.levels place no_level).greatest; amounts = xs } in
    ap levels (sym (set-get_or table.levels place no_level)) ∙ ap (λ xs. levels (set table.levels place (level xs))) is

-- one amount more in a row that was set
pub row-amount : (table : Table) (place : ℕ) (amounts more : List ℕ) (c amount : ℕ) → place < length table.levels → set amounts c amount ≡ more
    → with_amount (with_row table place amounts) place c amount ≡ with_row table place more
row-amount table place amounts more c amount within is =
    let levels : List model.Level → Table = λ ls. record { choices = table.choices; levels = ls } in
    let kind : Bool = (slice_index_or table.levels place no_level).greatest in
    let level : List ℕ → model.Level = λ xs. record { greatest = kind; amounts = xs } in
    let again : model.Level → model.Level = λ l. record { greatest = l.greatest; amounts = slice_set l.amounts c amount } in
    let there : slice_index_or (set table.levels place (level amounts)) place no_level ≡ level amounts = get_or-set_same table.levels place (level amounts) no_level within in
    ap (λ l. levels (set (set table.levels place (level amounts)) place (again l))) there
    ∙ ap levels (set-set table.levels place (level amounts) (level (set amounts c amount)))
    ∙ ap (λ xs. levels (set table.levels place (level xs))) is

-- ---- all rows

map-map : {A B C : Type 0} (f : B → C) (g : A → B) (xs : List A) → map f (map g xs) ≡ map (λ x. f (g x)) xs
map-map f g [] = refl
map-map f g (x ∷ xs) = ap (λ ys. f (g x) ∷ ys) (map-map f g xs)

abbrev pub kind_of : Level → Bool
kind_of level = level.greatest

pub none-priced : (s : Scene) (hints : List Hint) (levels : List Level) → empty_table (map kind_of levels) (choice_numbers s.problem) ≡ table_upto s hints 0 levels
none-priced s hints levels =
    let n : ℕ = choice_numbers s.problem in
    let table : List model.Level → Table = λ ls. record { choices = n; levels = ls } in
    let level : Bool → model.Level = λ kind. record { greatest = kind; amounts = replicate n 0 } in
    ap table (map-map level kind_of levels)

module _ (s : Scene) (hints : List Hint) (levels : List Level) (k : ℕ) (level : Level) (within : k < length levels) (at : level ≡ slice_index_or levels k level) where
  priced-next : map (level_priced s hints) (take (k + 1) levels) ≡ map (level_priced s hints) (take k levels) ++ level_priced s hints level ∷ []
  priced-next =
      ap (map (level_priced s hints)) (take_more levels k level within)
      ∙ map-append (level_priced s hints) (take k levels) (slice_index_or levels k level ∷ [])
      ∙ ap (λ l. map (level_priced s hints) (take k levels) ++ level_priced s hints l ∷ []) (sym at)

  -- one level more has its amounts
  pub level-next : with_row (table_upto s hints k levels) k (row_of s hints level.terms) ≡ table_upto s hints (k + 1) levels
  level-next =
      let n : ℕ = choice_numbers s.problem in
      let first : List model.Level = map (level_priced s hints) (take k levels) in
      let rest : List model.Level = map (level_unpriced n) (drop (suc k) levels) in
      let old : model.Level = level_unpriced n level in
      let new : model.Level = level_priced s hints level in
      let table : List model.Level → Table = λ ls. record { choices = n; levels = ls } in
      let with_kind : List model.Level → model.Level → Table = λ ls l. table (set ls k (record { greatest = l.greatest; amounts = row_of s hints level.terms })) in
      let front : length first ≡ k = length-map (take k levels) (level_priced s hints) ∙ length-take-le k levels (omega arith) in
      let split : map (level_unpriced n) (drop k levels) ≡ old ∷ rest = ap (map (level_unpriced n)) (drop-cons levels k level within) ∙ ap (λ l. level_unpriced n l ∷ rest) (sym at) in
      let there : get_or (first ++ old ∷ rest) k no_level ≡ old = ap (λ place. get_or (first ++ old ∷ rest) place no_level) (sym front) ∙ get_or-append_seam first old rest no_level in
      let next : suc k ≡ k + 1 = omega arith in
      ap (λ ls. with_kind (first ++ ls) (get_or (first ++ ls) k no_level)) split
      ∙ ap (with_kind (first ++ old ∷ rest)) there
      ∙ ap table (ap (λ place. set (first ++ old ∷ rest) place new) (sym front) ∙ set-append_seam first old rest new
      ∙ sym (append_assoc first (new ∷ []) rest)
      ∙ ap (λ ls. ls ++ rest) (sym priced-next)
      ∙ ap (λ m. map (level_priced s hints) (take (k + 1) levels) ++ map (level_unpriced n) (drop m levels)) next)

  -- whether some level has too much
  pub little-next : is_past s hints (take k levels) ≡ false → is_row_past s hints level.terms ≡ false → is_past s hints (take (k + 1) levels) ≡ false
  little-next none here =
      list_any_more (λ (l : Level). is_row_past s hints l.terms) levels k level within
      ∙ ap₂ (λ a b. a || b) none (ap (λ (l : Level). is_row_past s hints l.terms) (sym at) ∙ here)

  pub much-here : is_row_past s hints level.terms ≡ true → is_past s hints levels ≡ true
  much-here much =
      list_any_at (λ (l : Level). is_row_past s hints l.terms) levels k level within (ap (λ (l : Level). is_row_past s hints l.terms) (sym at) ∙ much)
