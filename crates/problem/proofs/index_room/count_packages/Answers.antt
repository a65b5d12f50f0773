use Rattle.std.proofs.Common.{rules, ◌≡◌, ◌<◌, ◌∷◌, ◌∙◌, [], ap, sym, arith, length, get_or, map}
use Rattle.std.proofs.lemmas.List.{get_or-map, length-map}
use Rattle.resolver_model.specs.Problems.{package_of}
use Rattle.problem.specs.Rooms.{with_room}
use Rattle.problem.proofs.Counting.{counted_more}
use Rattle.problem.proofs.index_room.count_packages.Goals as goal

pub loop-version-preserved : goal.loop-version-preserved
loop-version-preserved c =
    let versions = c.args.versions.now in
    let owner = package_of c.args.parts.now in
    let i = c.loop-version.version-index in
    let lt : i < length versions = search rules in
    let own : get_or (map owner versions) i 0 ≡ c.package_of.result = get_or-map owner versions i 0 0 lt ∙ sym c.package_of.ensures.package in
    let low : i < length (map owner versions) = omega (arith, lt, length-map versions owner) in
    let less : get_or (map owner versions) i 0 < length c.args.room.now.places = omega (arith, own, c.package_of.ensures.range, c.requires.packages) in
    counted_more c.args.room.now c.loop-version.room c.count.new.self (map owner versions) i low less c.loop-version.invariant (c.count.ensures ∙ ap (λ k. with_room c.loop-version.room (k ∷ [])) (sym own))
