-- Sums that stop one past the most, and the amounts that they stand for.
use Rattle.std.proofs.Common.{◌≡◌, ◌<◌, ◌≤◌, ◌⊎◌, inl, inr, ℕ, zero, suc, ◌+◌, ◌*◌, Bool, true, false, List, [], ◌∷◌, length, take, slice_index, slice_index_or, if◌then◌else◌, arith, sym, ap, ◌∙◌}
use Rattle.std.proofs.lemmas.Bool.{cases_lt}
use Rattle.std.proofs.lemmas.List.{take_more}
use Rattle.std.proofs.lemmas.List.Sums.{sum_by-append}
use Rattle.std.proofs.Math.Nat.{le-mul_of_pos_right}
use Rattle.std.specs.List.{sum_by}
use Rattle.cost_vector.specs.declared.cost_spec.Term.{Term}
use Rattle.hint_effects.specs.Sums.{capped, past_amount}
use Rattle.hint_effects.specs.declared.Hint.{Hint}
use Rattle.resolver_model.specs.Problems.{is_choice}
use Rattle.hint_file.specs.CostNames.{Scene}
use Rattle.hint_file.specs.Prices.{term_amount, level_amount, choice_numbers}
use Rattle.hint_file.specs.Rows.{IsRow}

-- an amount that is capped, times a number and added
pub capped-times : (b t n a : ℕ) → capped (b + t * (n + capped a)) ≡ capped (b + t * (n + a))
capped-times b zero n a = omega arith
capped-times b (suc t) n a = by (cases_lt a past_amount)
  where
    by : (a < past_amount) ⊎ (past_amount ≤ a) → capped (b + suc t * (n + capped a)) ≡ capped (b + suc t * (n + a))
    by (inl low) = let same : capped a ≡ a = omega arith in ap (λ x. capped (b + suc t * (n + x))) same
    by (inr high) =
        let past : capped a ≡ past_amount = omega arith in
        let first : n + past_amount ≤ (n + past_amount) * suc t = le-mul_of_pos_right (n + past_amount) (omega arith) in
        let second : n + a ≤ (n + a) * suc t = le-mul_of_pos_right (n + a) (omega arith) in
        ap (λ x. capped (b + suc t * (n + x))) past ∙ omega arith

pub capped-sum : (a b : ℕ) → capped (capped a + b) ≡ capped (a + b)
capped-sum a b = omega arith

-- ---- a row by one term more

module _ (s : Scene) (hints : List Hint) (terms : List Term) (k : ℕ) (term : Term) (within : k < length terms) (at : term ≡ slice_index_or terms k term) where
  next-amount : (c : ℕ) → level_amount s hints (take (k + 1) terms) c ≡ level_amount s hints (take k terms) c + term_amount s hints c term
  next-amount c =
      ap (sum_by (term_amount s hints c)) (take_more terms k term within) ∙ sum_by-append (term_amount s hints c) (take k terms) (slice_index_or terms k term ∷ [])
      ∙ ap (λ n. level_amount s hints (take k terms) c + n) (omega arith ∙ ap (term_amount s hints c) (sym at))

  chosen : (b : Bool) (c before : ℕ) → before ≡ capped (if b then level_amount s hints (take k terms) c else 0)
      → (if b then capped (before + term_amount s hints c term) else before) ≡ capped (if b then level_amount s hints (take (k + 1) terms) c else 0)
  chosen true c before is =
      ap (λ n. capped (n + term_amount s hints c term)) is ∙ capped-sum (level_amount s hints (take k terms) c) (term_amount s hints c term) ∙ ap capped (sym (next-amount c))
  chosen false c before is = is

  pub row-next : (row new : List ℕ) → IsRow s hints (take k terms) row → length new ≡ length row
      → ((c : ℕ) → c < choice_numbers s.problem → slice_index new c ≡ (if is_choice s.problem c then capped (slice_index row c + term_amount s hints c term) else slice_index row c))
      → IsRow s hints (take (k + 1) terms) new
  row-next row new old size each = record {
    size = size ∙ old.size;
    each = λ c less. each c less ∙ chosen (is_choice s.problem c) c (slice_index row c) (old.each c less);
  }
