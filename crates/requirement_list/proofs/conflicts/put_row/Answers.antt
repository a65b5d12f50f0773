use Rattle.std.proofs.Common.{◌≡◌, ℕ, List, ◌+◌, [], ◌∷◌, true, length, get_or, arith, ap, sym, subst}
use Rattle.std.specs.List.{list_all, slice_range}
use Rattle.std.proofs.lemmas.Bool.{and_parts}
use Rattle.std.proofs.lemmas.Result.{err_from_is_err_and}
use Rattle.resolver_model.specs.Problems.{version_count}
use Rattle.universe_model.specs.Dependencies.{Requirement}
use Rattle.requirement_list.specs.Left.{Left, nothing_left, is_sound, of_left}
use Rattle.requirement_list.specs.Collecting.{HasCome}
use Rattle.requirement_list.proofs.Collecting.{come_more, ended_more}
use Rattle.requirement_list.proofs.FlatLeft.{range_next, range_none}
use Rattle.requirement_list.proofs.Rows.{left_front}
use Rattle.requirement_list.proofs.conflicts.put_row.Goals as goal

pub add_left-requires-clause-source : goal.add_left-requires-clause-source
add_left-requires-clause-source c = omega (arith, ap length c.loop-place.invariant.come.owners, c.requires.source)

pub add_left-requires-clause-sound : goal.add_left-requires-clause-sound
add_left-requires-clause-sound c =
    let t = c.args.table.now in
    let k = c.loop-place.place in
    let count = version_count c.args.collected.now.builder in
    let P : List Left → Type 0 = λ lefts. list_all (is_sound count) lefts ≡ true in
    let Q : List ℕ → Type 0 = λ owners. is_sound (length owners) (get_or t k nothing_left) ≡ true in
    let all = subst P (range_next t nothing_left k c.args.end c.loop-place-test.true c.requires.within) c.loop-place.invariant.sound in
    subst Q (sym c.loop-place.invariant.come.owners) (and_parts (is_sound count (get_or t k nothing_left)) _ all).0

pub returns-in_err-add_left : goal.returns-in_err-add_left
returns-in_err-add_left c =
    let t = c.args.table.now in
    let source = c.args.source in
    let own = c.args.own in
    let k = c.loop-place.place in
    let end = c.args.end in
    let whole = of_left source own (slice_range t c.args.first end) in
    let P : List Requirement → Type 0 = λ rs. HasCome whole rs c.args.collected.now c.loop-place.collected in
    let come = subst P (left_front source own t k end c.loop-place-test.true c.requires.within) c.loop-place.invariant.come in
    let e = err_from_is_err_and c.from_residual.result c.from_residual.ensures.1 in
    rw (e.1, e.2) (ended_more whole (of_left source own (get_or t k nothing_left ∷ [])) (of_left source own (slice_range t (k + 1) end)) c.args.collected.now c.loop-place.collected _ come c.in_err-add_left.ensures)

pub loop-place-preserved : goal.loop-place-preserved
loop-place-preserved c =
    let t = c.args.table.now in
    let source = c.args.source in
    let own = c.args.own in
    let k = c.loop-place.place in
    let end = c.args.end in
    let count = version_count c.args.collected.now.builder in
    let whole = of_left source own (slice_range t c.args.first end) in
    let P : List Requirement → Type 0 = λ rs. HasCome whole rs c.args.collected.now c.loop-place.collected in
    let Q : List Left → Type 0 = λ lefts. list_all (is_sound count) lefts ≡ true in
    let come = subst P (left_front source own t k end c.loop-place-test.true c.requires.within) c.loop-place.invariant.come in
    let all = subst Q (range_next t nothing_left k end c.loop-place-test.true c.requires.within) c.loop-place.invariant.sound in
    record {
      come = come_more whole (of_left source own (get_or t k nothing_left ∷ [])) (of_left source own (slice_range t (k + 1) end)) c.args.collected.now c.loop-place.collected c.add_left.new.collected come c.in_ok-add_left.ensures;
      sound = (and_parts (is_sound count (get_or t k nothing_left)) _ all).1;
    }

pub returns : goal.returns
returns c =
    let t = c.args.table.now in
    let whole = of_left c.args.source c.args.own (slice_range t c.args.first c.args.end) in
    let P : List Left → Type 0 = λ lefts. HasCome whole (of_left c.args.source c.args.own lefts) c.args.collected.now c.loop-place.collected in
    subst P (range_none t c.loop-place.place c.args.end c.loop-place-test.false) c.loop-place.invariant.come
