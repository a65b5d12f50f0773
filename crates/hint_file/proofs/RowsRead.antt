-- A row that is capped tells whether some amount is past the most, and where none is, it is the row of amounts.
use Rattle.std.proofs.Common.{◌≡◌, ◌<◌, ◌≤◌, ◌⊎◌, inl, inr, ℕ, Bool, true, false, nat_lt, List, [], ◌∷◌, map, length, ◌||◌, arith, refl, sym, ap, ap₂, ◌∙◌}
use Rattle.std.proofs.lemmas.Bool.{cases_lt, lt-ltb, le-ltb}
use Rattle.std.proofs.lemmas.List.{ext_get_or, length-map, get_or-map}
use Rattle.std.specs.List.{list_any}
use Rattle.cost_vector.specs.declared.cost_spec.Term.{Term}
use Rattle.hint_effects.specs.Sums.{capped}
use Rattle.hint_effects.specs.declared.Hint.{Hint}
use Rattle.lists.specs.Below.{below}
use Rattle.lists.proofs.Below.{length-below}
use Rattle.hint_file.specs.CostNames.{Scene}
use Rattle.hint_file.specs.Prices.{amount_of, choice_numbers, most_amount, row_of, is_row_past}
use Rattle.hint_file.specs.Rows.{IsRow}
use Rattle.hint_file.proofs.Numbered.{get_or-below}

abbrev pub is_much : ℕ → Bool
is_much amount = nat_lt most_amount amount

much-capped : (a : ℕ) → is_much (capped a) ≡ is_much a
much-capped a = by (cases_lt most_amount a)
  where
    by : (most_amount < a) ⊎ (a ≤ most_amount) → is_much (capped a) ≡ is_much a
    by (inl high) = lt-ltb most_amount (capped a) (omega arith) ∙ sym (lt-ltb most_amount a high)
    by (inr low) = let same : capped a ≡ a = omega arith in ap is_much same

any-capped : (xs : List ℕ) → list_any is_much (map capped xs) ≡ list_any is_much xs
any-capped [] = refl
any-capped (x ∷ xs) = ap₂ (λ a b. a || b) (much-capped x) (any-capped xs)

none-capped : (xs : List ℕ) → list_any is_much xs ≡ false → map capped xs ≡ xs
none-capped [] e = refl
none-capped (x ∷ xs) e = by (cases_lt most_amount x) (none-capped xs)
  where
    by : (most_amount < x) ⊎ (x ≤ most_amount) → (list_any is_much xs ≡ false → map capped xs ≡ xs) → map capped (x ∷ xs) ≡ x ∷ xs
    by (inl high) rest = let much : is_much x ≡ true = lt-ltb most_amount x high in let no : (true || list_any is_much xs) ≡ false = ap (λ b. b || list_any is_much xs) (sym much) ∙ e in cc
    by (inr low) rest =
        let same : capped x ≡ x = omega arith in
        let little : is_much x ≡ false = le-ltb most_amount x low in
        let none : list_any is_much xs ≡ false = ap (λ b. b || list_any is_much xs) (sym little) ∙ e in
        ap₂ (λ y ys. y ∷ ys) same (rest none)

module _ (s : Scene) (hints : List Hint) (terms : List Term) (row : List ℕ) (is : IsRow s hints terms row) where
  row-capped : row ≡ map capped (row_of s hints terms)
  row-capped =
      ext_get_or 0 row (map capped (row_of s hints terms))
      (is.size ∙ sym (length-map (row_of s hints terms) capped ∙ length-map (below (choice_numbers s.problem)) (amount_of s hints terms) ∙ length-below (choice_numbers s.problem)))
      (λ c less.
      let within : c < choice_numbers s.problem = omega (arith, is.size) in
      let inner : c < length (row_of s hints terms) = omega (arith, length-map (below (choice_numbers s.problem)) (amount_of s hints terms), length-below (choice_numbers s.problem)) in
      let numbered : c < length (below (choice_numbers s.problem)) = omega (arith, length-below (choice_numbers s.problem)) in
      is.each c within
      ∙ sym (get_or-map capped (row_of s hints terms) c 0 0 inner ∙ ap capped (get_or-map (amount_of s hints terms) (below (choice_numbers s.problem)) c 0 0 numbered
      ∙ ap (amount_of s hints terms) (get_or-below (choice_numbers s.problem) c within))))

  pub past-read : list_any is_much row ≡ is_row_past s hints terms
  past-read = ap (list_any is_much) row-capped ∙ any-capped (row_of s hints terms)

  pub row-read : list_any is_much row ≡ false → row ≡ row_of s hints terms
  row-read none = row-capped ∙ none-capped (row_of s hints terms) (sym past-read ∙ none)
