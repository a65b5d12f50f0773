use Rattle.std.proofs.Common.{ap, nat_eq, ◌∙◌}
use Rattle.resolver_model.specs.Problems.{start_of}
use Rattle.requirement_list.proofs.Starts.{is_start}
use Rattle.requirement_list.proofs.installed.is_installed.Goals as goal

pub returns : goal.returns
returns c =
    let p = c.args.problem.now in
    let v = c.args.version in
    ap (λ n. nat_eq n v) (c.start_of.ensures.start ∙ ap (start_of p) c.package_of.ensures.package) ∙ is_start p c.versions-versions.ensures.formed v c.requires
