use Rattle.std.proofs.Common.{ℕ, List, ◌&&◌, sym, ap, ◌∙◌}
use Rattle.std.specs.List.{list_all}
use Rattle.resolver_model.specs.Problems.{is_choice}
use Rattle.dialogue_cases.proofs.replies.are_choices.Goals as goal

pub returns : goal.returns
returns c =
    let p = c.args.problem.now in
    let set : List ℕ = c.args.set.now in
    c.are_all_choices.ensures
    ∙ ap (list_all (is_choice p)) c.as_slice.ensures.items
    ∙ ap (λ b. b && list_all (is_choice p) set) (sym c.as_slice.ensures.rising)
