-- Each name so far that begins a crowd has it, and the next one gets it.
use Rattle.std.proofs.Common.{◌≡◌, ◌<◌, ◌∙◌, ap, ℕ, get_or, subst, arith, ◌+◌, ◌-◌, length, take, drop}
use Rattle.std.proofs.lemmas.List.{get_or-drop, take_rest}
use borrow.Author.Count.{below_more}
use Rattle.meeting_index.specs.Crowds.{ArePut, BeginsCrowd}
use Rattle.meeting_index.specs.Provided.{carriers_listed}
use Rattle.meeting_index.specs.declared.named.Named.{Named}
use Rattle.meeting_index.proofs.Crowding.{begins-drop}
use Rattle.meeting_index.proofs.crowds.crowd_others.Goals as goal

pub loop-place-preserved : goal.loop-place-preserved
loop-place-preserved c =
    let names = c.args.named.now.others.names.items in
    let i = c.loop-place.place in
    let Put : Named → Type 0 = λ x. ArePut (carriers_listed c.args.carriers.now) c.args.named.now c.crowd_run.new.crowds x.bytes.now in
    let rest : take (length c.others-names.result.now - i) (drop i c.others-names.result.now) ≡ drop i names =
    take_rest c.others-names.result.now i ∙ ap (drop i) c.others-names.ensures in
    let first : i + 0 ≡ i = omega arith in
    let put : (d : Named) → BeginsCrowd names i → Put (get_or names i d) = λ d begins.
    subst Put (get_or-drop i names 0 d ∙ ap (λ k. get_or names k d) first)
    (subst (λ ys. (x : Named) → BeginsCrowd ys 0 → Put (get_or ys 0 x)) rest (λ x here. c.in_ok-crowd_run.ensures.there x here) d (begins-drop names i begins)) in
    let IsThere : ℕ → Named → Type 0 = λ k x. BeginsCrowd names k → ArePut (carriers_listed c.args.carriers.now) c.args.named.now c.crowd_run.new.crowds x.bytes.now in
    let there : (k : ℕ) → k < i + 1 → (d : Named) → IsThere k (get_or names k d) =
    below_more (λ k. (d : Named) → IsThere k (get_or names k d)) i
    (λ k lt d begins many other same. c.in_ok-crowd_run.ensures.stay other (c.loop-place.invariant.there k d lt begins many other same))
    (λ d begins many other same. put d begins many other same) in
    record {
      right = c.in_ok-crowd_run.ensures.right;
      there = λ k d lt begins many other same. there k lt d begins many other same;
      stay = λ other has. c.in_ok-crowd_run.ensures.stay other (c.loop-place.invariant.stay other has);
    }
