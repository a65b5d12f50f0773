use Rattle.std.proofs.Common.{◌≡◌, sym, subst}
use Rattle.resolver_model.specs.Problems.{Problem}
use Rattle.problem.specs.Builds.{with_starts}
use Rattle.problem.specs.Places.{IsOneOfEach}
use Rattle.problem.specs.Indexes.{IsIndexOf}
use Rattle.problem.proofs.Indexes.{index_with_starts}
use Rattle.problem.proofs.Problem.with_starts.Goals as goal

pub invariant_of-result : goal.invariant_of-result
invariant_of-result c =
    let starts = c.args.starts.now in
    let p : Problem = c.self.inside.parts in
    let each : IsOneOfEach p starts = subst (λ r. IsOneOfEach r starts) (sym c.self.view_is) c.requires in
    let parts : c.in_ok-parts.parts ≡ with_starts p starts = c.in_ok-parts.ensures in
    let listed : IsIndexOf (with_starts p starts) c.self.inside.index = index_with_starts p c.self.inside.index c.self.invariant.listed starts each.size in
    let other : IsIndexOf c.in_ok-parts.parts c.self.inside.index = subst (λ r. IsIndexOf r c.self.inside.index) (sym parts) listed in
    record { listed = subst (IsIndexOf c.in_ok-parts.parts) (sym c.in_ok-index.ensures) other; broken = c.in_ok-broken.ensures }
