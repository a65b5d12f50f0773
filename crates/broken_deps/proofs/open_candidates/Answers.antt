use Rattle.std.proofs.Common.{rules, ◌≡◌, ◌<◌, ◌∙◌, ◌++◌, ap, length, get_or}
use Rattle.std.specs.List.{filter}
use Rattle.resolver_model.specs.Problems.{is_open}
use Rattle.problem.specs.Touching.{broken_at_start}
use Rattle.broken_deps.specs.Opening.{opened_by}
use Rattle.broken_deps.proofs.Gathered.{gathered_more}
use Rattle.broken_deps.proofs.open_candidates.Goals as goal

pub loop-choice-preserved : goal.loop-choice-preserved
loop-choice-preserved c =
    let p = c.args.problem.now in
    let choices = c.as_slice-choice-items.result.now in
    let i = c.loop-choice.choice-index in
    let lt : i < length choices = search rules in
    let choice = get_or choices i 0 in
    let own : choice ≡ get_or choices i choice = search rules in
    gathered_more (is_open p c.args.set.now) (opened_by p) (broken_at_start p) choices c.loop-choice.list.items c.add_opened.new.list.items i choice lt own c.loop-choice.invariant
    (c.in_ok-add_opened.ensures ∙ ap (λ set. c.loop-choice.list.items ++ filter (is_open p set) (opened_by p choice)) c.under-installed.ensures.set)
