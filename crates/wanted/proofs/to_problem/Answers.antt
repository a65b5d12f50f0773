use Rattle.std.proofs.Common.{◌≡◌, ◌∙◌, ◌<◌, ap, sym, subst, rules, length, vec_len, All}
use Rattle.problem.specs.Places.{IsOneOfEach}
use Rattle.resolver_model.specs.Problems.{Problem, IsWellFormed}
use Rattle.wanted.specs.declared.Action.{Action}
use Rattle.wanted.specs.Wanting.{with_actions, starts_with}
use Rattle.universe_model.specs.Universes.{problem_of}
use Rattle.wanted.proofs.Started.{packages-within, starts-one_of_each}
use Rattle.wanted.proofs.to_problem.Goals as goal

pub write_versions-requires : goal.write_versions-requires
write_versions-requires c =
    let u = c.args.universe.now in
    let formed = subst IsWellFormed c.problem-problem.ensures.problem c.versions-versions.ensures.formed in
    let count : vec_len c.in_ok-starts.starts ≡ length c.in_ok-starts.starts.items = search rules in
    let size = count ∙ ap length (c.in_ok-starts.ensures ∙ ap (λ (p : Problem). p.starts) c.problem-problem.ensures.problem) in
    let within = packages-within u formed c.args.wanted.now c.requires in
    subst (λ n. All (λ (action : Action). action.package_number < n) c.as_slice.result.now) (sym size)
    (subst (All (λ (action : Action). action.package_number < length u.installed)) (sym (c.as_slice.ensures.value ∙ c.wanted.view_is)) within)

pub with_starts-requires : goal.with_starts-requires
with_starts-requires c =
    let u = c.args.universe.now in
    let wanted = c.args.wanted.now in
    let formed = subst IsWellFormed c.problem-problem.ensures.problem c.versions-versions.ensures.formed in
    let whole : c.as_slice-2.result.now ≡ starts_with u wanted =
    c.as_slice-2.ensures.value ∙ c.write_versions.ensures
    ∙ ap (λ (actions : _). with_actions actions c.in_ok-starts.starts.items) (c.as_slice.ensures.value ∙ c.wanted.view_is)
    ∙ ap (with_actions wanted) (c.in_ok-starts.ensures ∙ ap (λ (p : Problem). p.starts) c.problem-problem.ensures.problem)
    in
    subst (λ p. IsOneOfEach p c.as_slice-2.result.now) (sym c.problem-problem.ensures.problem)
    (subst (IsOneOfEach (problem_of u)) (sym whole) (starts-one_of_each u formed wanted c.requires))
