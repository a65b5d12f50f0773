-- The first bad word.
use Rattle.std.proofs.Common.{◌≡◌, ◌<◌, ◌+◌, ℕ, zero, suc, Bool, true, false, not, List, [], ◌∷◌, ◌++◌, Some, None, refl, ap, sym, ◌∙◌, arith, find, inl, inr, take, length, get_or, map, String, string_bytes}
use Rattle.std.specs.Option.{option_or}
use Rattle.std.proofs.lemmas.Bool.{cases_lt, cond-true, cond-false}
use Rattle.std.proofs.lemmas.List.{take_more, get_or-map}
use Rattle.std.proofs.lemmas.List.Elements.{filter_map-append}
use Rattle.std.proofs.lemmas.List.Folds.{find-append}
use Rattle.lists.specs.Below.{below}
use Rattle.universe_model.specs.Universes.{Universe}
use Rattle.wanted.specs.declared.Action.{Action}
use Rattle.wanted.specs.Wanting.{action_of, actions_of, is_bad_after, is_bad_at, first_bad}

none-below : (p : ℕ → Bool) (n : ℕ) → ((k : ℕ) → k < n → p k ≡ false) → find p (below n) ≡ None
none-below p zero none = refl
none-below p (suc n) none =
    find-append p (below n) (n ∷ [])
    ∙ ap (λ o. option_or o (find p (n ∷ []))) (none-below p n (λ k l. none k (omega arith)))
    ∙ cond-false (p n) (Some n) None (none n (omega arith))

first-below : (p : ℕ → Bool) (n k : ℕ) → k < n → ((j : ℕ) → j < k → p j ≡ false) → p k ≡ true → find p (below n) ≡ Some k
first-below p zero k l before at = absurd (omega arith)
first-below p (suc n) k l before at =
    elim (cases_lt k n) as (λ _. find p (below n ++ n ∷ []) ≡ Some k) [
      | inl less ↦ find-append p (below n) (n ∷ []) ∙ ap (λ o. option_or o (find p (n ∷ []))) (first-below p n k less before at)
      | inr more ↦
          let same : k ≡ n = omega arith in
          find-append p (below n) (n ∷ [])
          ∙ ap (λ o. option_or o (find p (n ∷ []))) (none-below p n (λ j less. before j (omega arith)))
          ∙ cond-true (p n) (Some n) None (ap p (sym same) ∙ at) ∙ ap Some (sym same)
    ]

good-is : (b good : Bool) → good ≡ not b → good ≡ true → b ≡ false
good-is true good e t = absurd (cc)
good-is false good e t = refl

bad-is : (b good : Bool) → good ≡ not b → good ≡ false → b ≡ true
bad-is true good e t = refl
bad-is false good e t = absurd (cc)

module _ (u : Universe) (words : List (List ℕ)) where
  -- a word is bad after the actions of the words before it
  bad-here : (k : ℕ) (actions : List Action) (word : List ℕ) → actions ≡ actions_of u (take k words) → word ≡ get_or words k []
      → is_bad_at u words k ≡ is_bad_after actions (action_of u word)
  bad-here k actions word same here =
      sym (ap (λ (earlier : List Action). is_bad_after earlier (action_of u word)) same
      ∙ ap (λ w. is_bad_after (actions_of u (take k words)) (action_of u w)) here)

  pub good-at : (k : ℕ) (actions : List Action) (word : List ℕ) (good : Bool) → actions ≡ actions_of u (take k words) → word ≡ get_or words k []
      → good ≡ not (is_bad_after actions (action_of u word)) → good ≡ true → is_bad_at u words k ≡ false
  good-at k actions word good same here is e = bad-here k actions word same here ∙ good-is (is_bad_after actions (action_of u word)) good is e

  pub bad-at : (k : ℕ) (actions : List Action) (word : List ℕ) (good : Bool) → actions ≡ actions_of u (take k words) → word ≡ get_or words k []
      → good ≡ not (is_bad_after actions (action_of u word)) → good ≡ false → is_bad_at u words k ≡ true
  bad-at k actions word good same here is e = bad-here k actions word same here ∙ bad-is (is_bad_after actions (action_of u word)) good is e

  -- one more word
  pub actions-more : (k : ℕ) (actions : List Action) (word : List ℕ) → k < length words → actions ≡ actions_of u (take k words) → word ≡ get_or words k []
      → actions ++ actions_of u (word ∷ []) ≡ actions_of u (take (k + 1) words)
  actions-more k actions word l same here =
      ap (λ earlier. earlier ++ actions_of u (word ∷ [])) same
      ∙ ap (λ w. actions_of u (take k words) ++ actions_of u (w ∷ [])) here
      ∙ sym (ap (actions_of u) (take_more words k [] l) ∙ filter_map-append (action_of u) (take k words) (get_or words k [] ∷ []))

  pub none-bad : ((k : ℕ) → k < length words → is_bad_at u words k ≡ false) → first_bad u words ≡ None
  none-bad good = none-below (is_bad_at u words) (length words) good

  pub first-found : (k : ℕ) → k < length words → ((j : ℕ) → j < k → is_bad_at u words j ≡ false) → is_bad_at u words k ≡ true → first_bad u words ≡ Some k
  first-found k l before at = first-below (is_bad_at u words) (length words) k l before at

-- the bytes of a word
pub bytes-at : {Z : Type 0} (words : List (String Z)) (k : ℕ) (word : String Z) → k < length words → word ≡ get_or words k word → string_bytes word ≡ get_or (map string_bytes words) k []
bytes-at words k word l at = ap string_bytes at ∙ sym (get_or-map string_bytes words k word [] l)
