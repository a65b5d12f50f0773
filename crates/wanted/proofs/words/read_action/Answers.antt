use Rattle.std.proofs.Common.{sym, ◌∙◌}
use Rattle.wanted.proofs.Marked.{action-at, action-behind, action-none}
use Rattle.wanted.proofs.words.read_action.Goals as goal

pub returns-in-Some-clause-action : goal.returns-in-Some-clause-action
returns-in-Some-clause-action c =
    c.action_of_text.ensures.action ∙ action-at c.args.universe.now c.args.word.now c.in-Some.place (sym c.in-Some.is ∙ c.equals_place.ensures)

pub returns-in-empty-clause-action : goal.returns-in-empty-clause-action
returns-in-empty-clause-action c = action-none c.args.universe.now c.args.word.now c.in-empty.len_below

pub returns-in-len1-up-clause-action : goal.returns-in-len1-up-clause-action
returns-in-len1-up-clause-action c =
    c.action_by.ensures.action ∙ action-behind c.args.universe.now c.args.word.now (sym c.in_default.is ∙ c.equals_place.ensures)
