use Rattle.std.proofs.Common.{◌≡◌, ◌<◌, ◌+◌, ◌∷◌, ◌∙◌, IsTrue, nat_lt, map, cond, length, ap, sym, subst, arith, List, ℕ}
use Rattle.std.specs.List.{list_all}
use Rattle.resolver_model.specs.Problems.{Problem, Dependency, dependency_count, version_count, package_of}
use Rattle.problem.specs.Builds.{with_dependency}
use Rattle.problem.specs.Limits.{target_count}
use Rattle.problem.specs.Listing.{with_end, without_end}
use Rattle.problem.specs.Touching.{is_unmet, broken_at_start}
use Rattle.problem.specs.Indexes.{IndexRoom, HasIndexRoom, HasSizesFor, with_dep_room}
use Rattle.problem.proofs.Counting.{dependency_room}
use Rattle.problem.proofs.Indexes.{broken_with_dep, broken_fresh}
use Rattle.problem.proofs.builder.Builder.add.Goals as goal

pub invariant_of-self-in-Ok : goal.invariant_of-self-in-Ok
invariant_of-self-in-Ok c =
    let p : Problem = c.self.inside.parts in
    let x : Dependency = record { source = c.args.source; targets = c.args.targets.now; soft = c.args.soft } in
    let r : IndexRoom = c.reach_sizes.new.self in
    let old = c.self.inside.broken.items in
    let keys : Problem → List ℕ = λ p. map (package_of p) (c.args.source ∷ c.args.targets.now) in
    let low : c.args.source < version_count p = subst (λ p. c.args.source < version_count p) (sym c.self.view_is) c.requires.source in
    let range : IsTrue (list_all (λ v. nat_lt v (version_count p)) c.args.targets.now) =
    subst (λ p. IsTrue (list_all (λ v. nat_lt v (version_count p)) c.args.targets.now)) (sym c.self.view_is) c.requires.range in
    let given = c.in_ok-reach_sizes.ensures.sizes in
    let sizes : HasSizesFor (dependency_count p + 1) (target_count p + length c.args.targets.now) r = record {
      of = omega (arith, given.of, c.deps-number.ensures);
      on = omega (arith, given.on, c.target_count.ensures);
      touching = omega (arith, given.touching, c.deps-number.ensures, c.target_count.ensures);
    } in
    let room = dependency_room p r x c.versions-versions.ensures.formed (c.in_ok-reach_sizes.ensures.kept p c.self.invariant.room) sizes low range in
    let after : c.add_dep.new.self ≡ with_dependency p x = c.in-Ok.ensures.after in
    let rooms : c.count.new.self ≡ with_dep_room r c.args.source c.args.targets.now (keys p) =
    c.count.ensures ∙ ap (λ q. with_dep_room r c.args.source c.args.targets.now (keys q)) after in
    let unmet : c.is_unmet-is_broken.result ≡ is_unmet p c.args.source c.args.targets.now = c.is_unmet-is_broken.ensures in
    let broken : c.note_broken.new.list.items ≡ broken_at_start (with_dependency p x) =
    c.in_ok-note_broken.ensures.noted ∙ ap (λ n. cond c.is_unmet-is_broken.result (with_end n old) old) c.deps-number.ensures
    ∙ ap (λ b. cond b (with_end (dependency_count p) old) old) unmet ∙ broken_with_dep p x old c.self.invariant.broken in
    let first : HasIndexRoom (with_dependency p x) c.count.new.self = subst (HasIndexRoom (with_dependency p x)) (sym rooms) room in
    record {
      room = subst (λ q. HasIndexRoom q c.count.new.self) (sym after) first;
      broken = broken ∙ ap broken_at_start (sym after);
    }

pub invariant_of-self-in-Err : goal.invariant_of-self-in-Err
invariant_of-self-in-Err c =
    let p : Problem = c.self.inside.parts in
    let old = c.self.inside.broken.items in
    let after : c.add_dep.new.self ≡ p = c.in-Err.ensures.after in
    let kept = c.in_ok-reach_sizes.ensures.kept p c.self.invariant.room in
    let broken : c.drop_end.new.list.items ≡ broken_at_start p =
    c.drop_end.ensures ∙ ap (without_end c.deps-number.result) c.in_ok-note_broken.ensures.noted
    ∙ ap (λ n. without_end n (cond c.is_unmet-is_broken.result (with_end n old) old)) c.deps-number.ensures
    ∙ broken_fresh p old c.is_unmet-is_broken.result c.self.invariant.broken ∙ c.self.invariant.broken in
    record {
      room = subst (λ q. HasIndexRoom q c.reach_sizes.new.self) (sym after) kept;
      broken = broken ∙ ap broken_at_start (sym after);
    }
