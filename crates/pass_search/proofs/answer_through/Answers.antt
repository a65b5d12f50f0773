-- What has come of a command where the search goes on, and where it ends.
use Rattle.std.proofs.Common.{[], ◌∙◌}
use Rattle.pass_search.specs.Answers.{IsGivenUp}
use Rattle.pass_search.proofs.Searching.{same_turn, same_twice, prefix_turn, prefix_onward, searched_none, searched_further, searched_still, given_up_still, given_up_further, quiet_turn, quiet_entries, answered_so, on_err}
use Rattle.pass_search.proofs.answer_through.Goals as goal

pub returns-in_err-reserve-clause-refused : goal.returns-in_err-reserve-clause-refused
returns-in_err-reserve-clause-refused g c =
    let first = c.args.pass.now in
    let new = c.reserve.new.pass in
    let turn = c.in_err-reserve.ensures.turn in
    on_err (IsGivenUp first new) c.from_residual.result (given_up_still first new (searched_none first new turn.0 turn.1 c.requires.idle))

pub returns-in_err-said-clause-refused : goal.returns-in_err-said-clause-refused
returns-in_err-said-clause-refused g c =
    let first = c.args.pass.now in
    let now = c.loop.pass in
    let new = c.answer.new.pass in
    let turn = c.in_err-said.ensures.turn in
    on_err (IsGivenUp first new) c.from_residual-in_err-said.result
    (given_up_still first new (searched_still first now new turn.0 c.loop.invariant.same.actor c.loop.invariant.searched turn.1))

pub returns-in-Said-clause-said : goal.returns-in-Said-clause-said
returns-in-Said-clause-said g c =
    let turn = c.in_ok-said.ensures.turn in
    let loop = c.loop.invariant in
    answered_so c.args.pass.now c.loop.pass c.answer.new.pass turn.0 c.args.command c.in_ok-said.field-0 c.in-Said.said c.in-Said.is loop.same loop.begins loop.searched turn.1 turn.2

pub loop-preserved : goal.loop-preserved
loop-preserved g c =
    let first = c.args.pass.now in
    let now = c.loop.pass in
    let mid = c.answer.new.pass in
    let new = c.step.new.pass in
    let loop = c.loop.invariant in
    let told = c.in_ok-said.ensures in
    let step = c.in_ok-step-in-Search.ensures in
    let turn = quiet_turn now mid told.turn.0 c.args.command c.in_ok-said.field-0 c.in-Search.is told.turn.1 in
    let same = same_twice first now mid loop.same (same_turn now mid told.turn.0 [] turn) in
    record {
      same = same_twice first mid new same step.pass;
      stop = step.stop ∙ turn.stop ∙ loop.stop;
      begins = prefix_onward first.hand.seen mid new step.onward (prefix_turn first.hand.seen now mid told.turn.0 [] turn loop.begins);
      searched = searched_further first mid new same.actor (searched_still first now mid told.turn.0 loop.same.actor loop.searched turn) step.done;
      room = step.onward.room (told.room (quiet_entries now.hand.actor c.args.command c.in_ok-said.field-0 c.in-Search.is));
    }

pub returns-in_err-step-in-Search-clause-refused : goal.returns-in_err-step-in-Search-clause-refused
returns-in_err-step-in-Search-clause-refused g c =
    let first = c.args.pass.now in
    let now = c.loop.pass in
    let mid = c.answer.new.pass in
    let new = c.step.new.pass in
    let loop = c.loop.invariant in
    let told = c.in_ok-said.ensures in
    let turn = quiet_turn now mid told.turn.0 c.args.command c.in_ok-said.field-0 c.in-Search.is told.turn.1 in
    let same = same_twice first now mid loop.same (same_turn now mid told.turn.0 [] turn) in
    on_err (IsGivenUp first new) c.from_residual-in_err-step-in-Search.result
    (given_up_further first mid new same.actor (searched_still first now mid told.turn.0 loop.same.actor loop.searched turn) c.in_err-step-in-Search.ensures.undone)
