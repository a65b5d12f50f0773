-- One more carrier.
use Rattle.std.proofs.Common.{refl, ◌∙◌, ap, sym, ◌||◌, Some, get_or}
use Rattle.std.proofs.lemmas.List.Folds.{list_any_more}
use Rattle.lists.proofs.Sets.{has_at}
use Rattle.meeting_index.specs.Crowds.{finds_as}
use Rattle.meeting_index.specs.Provided.{carriers_listed}
use Rattle.meeting_index.proofs.members.gather.Goals as goal

pub loop-number-preserved : goal.loop-number-preserved
loop-number-preserved c =
    let numbers = c.args.numbers.now in
    let i = c.loop-number.number-index in
    record {
      fitting = λ bound n.
          let test = finds_as (carriers_listed c.args.carriers.now) (Some bound) n in
          c.in_ok-add_member.ensures.fitting bound n
          ∙ ap (λ b. b || test (get_or numbers i 0)) (c.loop-number.invariant.fitting bound n)
          ∙ sym (list_any_more test numbers i 0 c.loop-number-test.true);
      real = c.in_ok-add_member.ensures.real numbers (has_at numbers (get_or numbers i 0) i c.loop-number-test.true refl) c.loop-number.invariant.real;
    }
