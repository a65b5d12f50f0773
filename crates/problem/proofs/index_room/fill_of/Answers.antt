use Rattle.std.proofs.Common.{rules, ◌<◌, ◌∷◌, ◌∙◌, [], ap, sym, nat_eq}
use Rattle.std.proofs.lemmas.Bool.{eq-eqb}
use Rattle.resolver_model.specs.Problems.{dependency, dependency_count, version_count}
use Rattle.problem.proofs.Indexes.{or_false}
use Rattle.problem.proofs.Filling.{fill_next, fill_can}
use Rattle.problem.proofs.index_room.fill_of.Goals as goal

pub note-requires-clause-room : goal.note-requires-clause-room
note-requires-clause-room c =
    let p = c.args.parts.now in
    let dep = c.loop-dep.dep in
    let lt : dep < dependency_count p = search rules in
    fill_can (λ k d. nat_eq (dependency p d).source k) (version_count p) (dependency_count p) dep c.args.lists.now c.loop-dep.lists c.requires c.loop-dep.invariant lt c.source.result c.source.ensures.range
    (eq-eqb (dependency p dep).source c.source.result (sym c.source.ensures.source))

pub loop-dep-preserved : goal.loop-dep-preserved
loop-dep-preserved c =
    let p = c.args.parts.now in
    let dep = c.loop-dep.dep in
    fill_next (λ k d. nat_eq (dependency p d).source k) (version_count p) dep (c.source.result ∷ []) c.args.lists.now c.loop-dep.lists c.note.new.self c.loop-dep.invariant
    (λ k. ap (λ n. nat_eq n k) (sym c.source.ensures.source) ∙ or_false (nat_eq c.source.result k)) c.note.ensures
