-- A search among the dependencies of a version is one among all.
use Rattle.std.proofs.Common.{◌≡◌, ℕ, ◌<◌, Bool, true, false, length, get_or, sym, ap, ◌∙◌, inl, inr, arith}
use Rattle.std.specs.List.{filter}
use Rattle.lists.specs.Below.{below}
use Rattle.lists.proofs.Below.{has-below_from, is_rising-below}
use Rattle.lists.proofs.Sets.{has_place, has-filter_from, is_rising-filter, rising_upto}
use Rattle.std.proofs.lemmas.Bool.{false_from_ne_true, cases_lt}

module _ (test mine : ℕ → Bool) (n : ℕ) (own : (k : ℕ) → k < n → test k ≡ true → mine k ≡ true) where
  -- where it stands among those of the version
  stands : (k : ℕ) → k < n → test k ≡ true → (j : ℕ) × (j < length (filter mine (below n))) × (get_or (filter mine (below n)) j 0 ≡ k)
  stands k less h = has_place (filter mine (below n)) k (has-filter_from mine (below n) k (own k less h) (has-below_from n k less))

  -- none of them is it, so none is
  pub owned-none : ((j : ℕ) → j < length (filter mine (below n)) → test (get_or (filter mine (below n)) j 0) ≡ false) → (k : ℕ) → k < n → test k ≡ false
  owned-none h k less = false_from_ne_true (test k) (λ e. let at = stands k less e in let no_one = sym (ap test at.2) ∙ h at.0 at.1 in absurd (cc))

  -- none of the earlier ones of them is it, so no earlier one is
  pub owned-before : (i : ℕ) → ((j : ℕ) → j < i → test (get_or (filter mine (below n)) j 0) ≡ false)
      → (k : ℕ) → k < n → k < get_or (filter mine (below n)) i 0 → test k ≡ false
  owned-before i h k less before =
      false_from_ne_true (test k)
      (λ e.
      let at = stands k less e in
      elim (cases_lt at.0 i) [
        | inl lower ↦ (let no_one = sym (ap test at.2) ∙ h at.0 lower in absurd (cc))
        | inr late ↦
            (let up = rising_upto (filter mine (below n)) (is_rising-filter mine (below n) (is_rising-below n)) i at.0 late at.1 in
            absurd (omega (arith, up, at.2, before)))
      ])
