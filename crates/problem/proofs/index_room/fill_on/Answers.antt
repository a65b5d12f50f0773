use Rattle.std.proofs.Common.{rules, ◌<◌, ap, sym}
use Rattle.lists.specs.Sets.{has}
use Rattle.resolver_model.specs.Problems.{dependency, dependency_count, version_count}
use Rattle.problem.proofs.Filling.{fill_next, fill_can_all}
use Rattle.problem.proofs.index_room.fill_on.Goals as goal

pub note_all-requires-clause-room : goal.note_all-requires-clause-room
note_all-requires-clause-room c =
    let p = c.args.parts.now in
    let dep = c.loop-dep.dep in
    let lt : dep < dependency_count p = search rules in
    fill_can_all (λ k d. has (dependency p d).targets k) (version_count p) (dependency_count p) dep c.args.lists.now c.loop-dep.lists c.targets.result.now c.requires c.loop-dep.invariant lt
    (λ k. ap (λ xs. has xs k) (sym c.targets.ensures.targets)) c.targets.ensures.range

pub loop-dep-preserved : goal.loop-dep-preserved
loop-dep-preserved c =
    let p = c.args.parts.now in
    let dep = c.loop-dep.dep in
    fill_next (λ k d. has (dependency p d).targets k) (version_count p) dep c.targets.result.now c.args.lists.now c.loop-dep.lists c.note_all.new.self c.loop-dep.invariant
    (λ k. ap (λ xs. has xs k) (sym c.targets.ensures.targets)) c.note_all.ensures
