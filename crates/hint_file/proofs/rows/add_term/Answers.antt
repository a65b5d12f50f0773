use Rattle.std.proofs.Common.{◌≡◌, ◌≢◌, ◌∙◌, ◌+◌, ℕ, slice_index, if◌then◌else◌, below_more, ap, arith}
use Rattle.hint_effects.specs.Sums.{capped}
use Rattle.resolver_model.specs.Problems.{is_choice}
use Rattle.hint_file.specs.Prices.{term_amount}
use Rattle.hint_file.specs.Scenes.{scene_of}
use Rattle.hint_file.proofs.rows.add_term.Goals as goal

pub loop-choice-preserved : goal.loop-choice-preserved
loop-choice-preserved c =
    let p = c.args.setting.now.problem.now in
    let old = c.args.row.now.items in
    let new = c.add_at.new.row.items in
    let k = c.loop-choice.choice in
    record {
      size = c.add_at.ensures.size ∙ c.loop-choice.invariant.size;
      later = λ n high. let other : n ≢ k = omega arith in c.add_at.ensures.others n other ∙ c.loop-choice.invariant.later n (omega arith);
      earlier = λ hints are.
          let given : ℕ → ℕ → ℕ = λ n before. if is_choice p n then capped (before + term_amount (scene_of c.args.setting.now) hints n c.args.term.now) else before in
          let P : ℕ → Type 0 = λ n. slice_index new n ≡ given n (slice_index old n) in
          below_more P k
          (λ n less. let other : n ≢ k = omega arith in c.add_at.ensures.others n other ∙ c.loop-choice.invariant.earlier hints are n less)
          (c.add_at.ensures.own hints are ∙ ap (given k) (c.loop-choice.invariant.later k (omega arith)));
    }
