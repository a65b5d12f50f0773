use Rattle.std.proofs.Common.{◌≡◌, ◌<◌, ◌≤◌, ◌+◌, ℕ, List, vec_len, slice_index, if◌then◌else◌}
use Rattle.hint_effects.specs.Sums.{AreSums, capped}
use Rattle.hint_effects.specs.declared.Hint.{Hint}
use Rattle.resolver_model.specs.Problems.{is_choice}
use Rattle.hint_file.specs.Prices.{term_amount}
use Rattle.hint_file.specs.Scenes.{scene_of}
use Rattle.hint_file.proofs.rows.add_term.Given as goal

-- the choices so far have what the term gives, and the others are as before
abbrev pub invariant-loop-choice : goal.invariant-loop-choice
invariant-loop-choice l = record {
  size : vec_len l.row ≡ vec_len l.initial.row;
  later : (c : ℕ) → l.choice ≤ c → slice_index l.row.items c ≡ slice_index l.initial.row.items c;
  earlier : (hints : List Hint) → AreSums hints l.term.name l.sums → (c : ℕ) → c < l.choice → slice_index l.row.items c
      ≡ (if is_choice l.setting.problem.now c then capped (slice_index l.initial.row.items c + term_amount (scene_of l.setting) hints c l.term) else slice_index l.initial.row.items c);
}
