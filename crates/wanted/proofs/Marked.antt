-- The action of a word, by whether it holds `=`.
use Rattle.std.proofs.Common.{◌≡◌, ◌<◌, ◌+◌, ◌-◌, ℕ, List, [], ◌∷◌, Option, Some, None, refl, ap, sym, ◌∙◌, arith, take, drop, length, length-drop, slice_index, option_map}
use Rattle.std.specs.List.{list_any, position, before_first, after_first}
use Rattle.std.specs.Option.{option_and_then}
use Rattle.std.proofs.lemmas.Bool.{cond-true, cond-false}
use Rattle.std.proofs.lemmas.List.{take_all}
use Rattle.lists.proofs.Tests.{position_some, position_none}
use Rattle.universe_model.specs.Tokens.{is_equals}
use Rattle.universe_model.specs.Universes.{Universe, package_named}
use Rattle.wanted.specs.declared.Action.{Action}
use Rattle.wanted.specs.Wanting.{action_of, action_on, start_from, version_by, version_of_text}

module _ (u : Universe) (word : List ℕ) where
  abbrev pub with_equals : Option Action
  with_equals = action_on u (before_first is_equals word) (version_of_text u (after_first is_equals word))

  abbrev pub with_mark : Option Action
  with_mark = action_on u (take (length word - 1) word) (version_by u (slice_index word (length word - 1)))

  pub action-at : (k : ℕ) → Some k ≡ position is_equals word
      → action_on u (take k word) (version_of_text u (take (length word - (k + 1)) (drop (k + 1) word))) ≡ action_of u word
  action-at k e =
      let found = position_some is_equals word k e in
      let behind = take_all (length word - (k + 1)) (drop (k + 1) word) (omega (arith, length-drop (k + 1) word)) in
      ap (λ text. action_on u (take k word) (version_of_text u text)) behind
      ∙ ap (λ k. action_on u (take k word) (version_of_text u (drop (k + 1) word))) found.1
      ∙ sym (cond-true (list_any is_equals word) with_equals with_mark found.0)

  pub action-behind : None ≡ position is_equals word → with_mark ≡ action_of u word
  action-behind e = sym (cond-false (list_any is_equals word) with_equals with_mark (position_none is_equals word e))

-- an empty word is none
pub action-none : (u : Universe) (word : List ℕ) → length word < 1 → None ≡ action_of u word
action-none u [] l = by (package_named u [])
  where
    by : (found : Option ℕ) → None ≡ option_and_then (λ q. option_map (start_from q) (version_by u 0 q)) found
    by None = refl
    by (Some q) = refl
action-none u (x ∷ xs) l = absurd (omega arith)
