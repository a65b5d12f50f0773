use Rattle.std.proofs.Common.{List, ◌+◌, [], ◌∷◌, map, get_or, subst}
use Rattle.std.specs.List.{slice_range}
use Rattle.std.proofs.lemmas.Result.{err_from_is_err_and}
use Rattle.universe_model.specs.Dependencies.{Requirement}
use Rattle.requirement_list.specs.Left.{Left, nothing_left, others}
use Rattle.requirement_list.specs.Collecting.{HasCome}
use Rattle.requirement_list.proofs.Collecting.{come_more, ended_more}
use Rattle.requirement_list.proofs.FlatLeft.{range_none}
use Rattle.requirement_list.proofs.Rows.{counted_front}
use Rattle.requirement_list.proofs.conflicts.count_row.Goals as goal

pub returns-in_err-count_left : goal.returns-in_err-count_left
returns-in_err-count_left c = λ f.
    let t = c.args.table.now in
    let own = c.args.own in
    let k = c.loop-place.place in
    let end = c.args.end in
    let whole = map f (others own (slice_range t c.args.first end)) in
    let P : List Requirement → Type 0 = λ rs. HasCome whole rs c.args.collected.now c.loop-place.collected in
    let come = subst P (counted_front f own t k end c.loop-place-test.true c.requires.within) (c.loop-place.invariant.come f) in
    let e = err_from_is_err_and c.from_residual.result c.from_residual.ensures.1 in
    rw (e.1, e.2) (ended_more whole (map f (others own (get_or t k nothing_left ∷ []))) (map f (others own (slice_range t (k + 1) end))) c.args.collected.now c.loop-place.collected _ come (c.in_err-count_left.ensures.counted f))

pub loop-place-preserved : goal.loop-place-preserved
loop-place-preserved c =
    let t = c.args.table.now in
    let own = c.args.own in
    let k = c.loop-place.place in
    let end = c.args.end in
    record {
      come = λ f.
          let whole = map f (others own (slice_range t c.args.first end)) in
          let P : List Requirement → Type 0 = λ rs. HasCome whole rs c.args.collected.now c.loop-place.collected in
          let come = subst P (counted_front f own t k end c.loop-place-test.true c.requires.within) (c.loop-place.invariant.come f) in
          come_more whole (map f (others own (get_or t k nothing_left ∷ []))) (map f (others own (slice_range t (k + 1) end))) c.args.collected.now c.loop-place.collected c.count_left.new.collected come (c.in_ok-count_left.ensures.counted f);
      past = c.in_ok-count_left.ensures.past;
    }

pub returns : goal.returns
returns c = λ f.
    let t = c.args.table.now in
    let whole = map f (others c.args.own (slice_range t c.args.first c.args.end)) in
    let P : List Left → Type 0 = λ lefts. HasCome whole (map f (others c.args.own lefts)) c.args.collected.now c.loop-place.collected in
    subst P (range_none t c.loop-place.place c.args.end c.loop-place-test.false) (c.loop-place.invariant.come f)
