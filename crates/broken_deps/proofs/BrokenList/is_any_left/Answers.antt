use Rattle.std.proofs.Common.{◌≡◌, ◌<◌, ◌∙◌, ap, sym, nat_lt}
use Rattle.std.specs.List.{list_all, list_any}
use Rattle.resolver_model.specs.Problems.{dependency_count, is_open}
use Rattle.broken_deps.specs.Opening.{open_deps, stays_open}
use Rattle.broken_deps.proofs.After.{still_any}
use Rattle.broken_deps.proofs.Found.{open_range}
use Rattle.broken_deps.proofs.BrokenList.is_any_left.Goals as goal

pub is_any_still_open-requires : goal.is_any_still_open-requires
is_any_still_open-requires c =
    let p = c.args.problem.now in
    let deps : c.as_slice.result.now ≡ open_deps p c.args.set.now = c.as_slice.ensures.value ∙ c.self.view_is ∙ c.requires.list in
    ap (list_all (λ d. nat_lt d (dependency_count p))) deps ∙ open_range p c.args.set.now

pub returns : goal.returns
returns c =
    let p = c.args.problem.now in
    let set = c.args.set.now in
    let deps : c.as_slice.result.now ≡ open_deps p set = c.as_slice.ensures.value ∙ c.self.view_is ∙ c.requires.list in
    c.is_any_still_open.ensures ∙ ap (list_any (stays_open p c.args.larger.now c.args.choice)) deps
    ∙ still_any p set c.args.larger.now c.args.choice c.requires.larger ∙ ap (list_any (is_open p c.args.larger.now)) (sym c.requires.list)
