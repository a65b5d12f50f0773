use Rattle.std.proofs.Common.{◌≡◌, ℕ, true, false, sym, ◌∙◌, ap, arith, Vec, Global, ◌++◌, ◌∷◌, []}
use Rattle.lists.specs.Sets.{has}
use Rattle.requirement_list.proofs.Unmet.{unmet_none, unmet_yes, unmet_no, met_before, met_after}
use Rattle.requirement_list.proofs.walk.list_unmet.Goals as goal
use Rattle.requirement_list.proofs.walk.list_unmet.Goals.{then-is_met, else-is_met+in_ok-push}

pub loop-version-init : goal.loop-version-init
loop-version-init c = record { listed = c.clear.ensures.items ∙ sym (unmet_none c.args.met.now c.args.first); before = c.requires.before; after = c.requires.after }

pub loop-version-preserved : goal.loop-version-preserved
loop-version-preserved c =
    let met = c.args.met.now in
    let v = c.loop-version.version in
    elim c.if-is_met.branch [
      | then-is_met w ↦
          let here : has met v ≡ true = cc (c.is_met.ensures.met, w.if-is_met.true) in
          let at = c.is_met.ensures.there w.if-is_met.true in
          let same : c.if-is_met.targets.items ≡ c.loop-version.targets.items = ap (λ (v : Vec ℕ Global). v.items) w.targets-is in
          record {
            listed = same ∙ c.loop-version.invariant.listed ∙ sym (unmet_no met c.args.first v here);
            before = λ k lt. met_before met c.requires.rising c.loop-version.place v at.0 at.1 k (omega (arith, w.place-is));
            after = λ lt. rw w.place-is (met_after met c.requires.rising c.loop-version.place v at.1 (omega (arith, w.place-is)));
          }
      | else-is_met+in_ok-push w ↦
          let not_here : has met v ≡ false = cc (c.is_met.ensures.met, w.if-is_met.false) in
          let same : c.if-is_met.targets.items ≡ w.push.new.self.items = ap (λ (v : Vec ℕ Global). v.items) w.targets-is in
          record {
            listed = same ∙ w.in_ok-push.ensures.items ∙ ap (λ ns. ns ++ v ∷ []) c.loop-version.invariant.listed ∙ sym (unmet_yes met c.args.first v c.loop-version.auto.version not_here);
            before = λ k lt. omega (arith, c.loop-version.invariant.before k (omega (arith, w.place-is)));
            after = λ lt. rw w.place-is (omega (arith, c.is_met.ensures.later w.if-is_met.false (omega (arith, w.place-is))));
          }
    ]
