use Rattle.std.proofs.Common.{rules, ◌≡◌, ◌<◌, ◌∷◌, ◌∙◌, [], ap, sym, arith, length, get_or, map}
use Rattle.std.proofs.lemmas.List.{get_or-map, length-map}
use Rattle.resolver_model.specs.Problems.{package_of}
use Rattle.problem.specs.Rooms.{can_note, with_noted}
use Rattle.problem.proofs.Indexes.{all_at}
use Rattle.problem.proofs.Filling.{noted_more}
use Rattle.problem.proofs.index_room.note_packages.Goals as goal

pub note-requires-clause-room : goal.note-requires-clause-room
note-requires-clause-room c =
    let versions = c.args.versions.now in
    let owner = package_of c.args.parts.now in
    let i = c.loop-version.version-index in
    let lt : i < length versions = search rules in
    let own : get_or (map owner versions) i 0 ≡ c.package_of.result = get_or-map owner versions i 0 0 lt ∙ sym c.package_of.ensures.package in
    let low : i < length (map owner versions) = omega (arith, lt, length-map versions owner) in
    ap (can_note c.loop-version.lists c.args.dep) (sym own) ∙ all_at (can_note c.loop-version.lists c.args.dep) (map owner versions) i c.loop-version.invariant.room low

pub loop-version-preserved : goal.loop-version-preserved
loop-version-preserved c =
    let versions = c.args.versions.now in
    let owner = package_of c.args.parts.now in
    let i = c.loop-version.version-index in
    let lt : i < length versions = search rules in
    let own : get_or (map owner versions) i 0 ≡ c.package_of.result = get_or-map owner versions i 0 0 lt ∙ sym c.package_of.ensures.package in
    let low : i < length (map owner versions) = omega (arith, lt, length-map versions owner) in
    let less : get_or (map owner versions) i 0 < length c.args.lists.now.lists = omega (arith, own, c.package_of.ensures.range, c.requires.packages) in
    noted_more c.args.dep c.args.lists.now c.loop-version.lists c.note.new.self (map owner versions) i low less c.loop-version.invariant
    (c.note.ensures ∙ ap (λ k. with_noted c.loop-version.lists c.args.dep (k ∷ [])) (sym own))
