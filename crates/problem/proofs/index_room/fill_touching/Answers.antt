use Rattle.std.proofs.Common.{rules, ◌≡◌, ◌<◌, ◌∷◌, ◌||◌, ◌∙◌, arith, ap, sym, subst, length, map, nat_eq, nat_lt, true, ℕ, List}
use Rattle.std.specs.List.{list_all, list_any}
use Rattle.std.proofs.lemmas.Bool.{eq-eqb, and_parts, and_from, lt-ltb}
use Rattle.lists.specs.Sets.{has}
use Rattle.resolver_model.specs.Problems.{dependency, dependency_count, package_count, package_of}
use Rattle.problem.specs.Touching.{touches}
use Rattle.problem.specs.Rooms.{can_note, with_noted}
use Rattle.problem.proofs.Indexes.{has-map}
use Rattle.problem.proofs.Counting.{owners_within}
use Rattle.problem.proofs.Filling.{fill_next, fill_can, fill_can_all, all_later}
use Rattle.problem.proofs.index_room.fill_touching.Goals as goal
use Rattle.resolver_model.specs.Problems.{Problem}

-- the packages that a dependency touches
touched : (p : Problem) (d q : ℕ) (targets : List ℕ) → q ≡ package_of p (dependency p d).source → targets ≡ (dependency p d).targets → (k : ℕ) → touches p k d ≡ has (q ∷ map (package_of p) targets) k
touched p d q targets e f k =
    sym (has-map (package_of p) ((dependency p d).source ∷ (dependency p d).targets) k) ∙ ap (λ x. nat_eq x k || has (map (package_of p) (dependency p d).targets) k) (sym e)
    ∙ ap (λ xs. nat_eq q k || has (map (package_of p) xs) k) (sym f)

pub note-requires-clause-room : goal.note-requires-clause-room
note-requires-clause-room c =
    let p = c.args.parts.now in
    let dep = c.loop-dep.dep in
    let lt : dep < dependency_count p = search rules in
    let e : c.package_of.result ≡ package_of p (dependency p dep).source = c.package_of.ensures.package ∙ ap (package_of p) c.source.ensures.source in
    let own : touches p c.package_of.result dep ≡ true = ap (λ b. b || list_any (λ t. nat_eq (package_of p t) c.package_of.result) (dependency p dep).targets) (eq-eqb (package_of p (dependency p dep).source) c.package_of.result (sym e)) in
    fill_can (touches p) (package_count p) (dependency_count p) dep c.args.lists.now c.loop-dep.lists c.requires c.loop-dep.invariant lt c.package_of.result c.package_of.ensures.range own

pub note_packages-requires-clause-room : goal.note_packages-requires-clause-room
note_packages-requires-clause-room c =
    let p = c.args.parts.now in
    let dep = c.loop-dep.dep in
    let q = c.package_of.result in
    let keys = map (package_of p) c.targets.result.now in
    let lt : dep < dependency_count p = search rules in
    let e : c.package_of.result ≡ package_of p (dependency p dep).source = c.package_of.ensures.package ∙ ap (package_of p) c.source.ensures.source in
    let owners : list_all (λ k. nat_lt k (package_count p)) keys ≡ true = owners_within p (package_count p) c.targets.result.now c.versions-versions.ensures.formed (omega arith) c.targets.ensures.range in
    let range : list_all (λ k. nat_lt k (package_count p)) (q ∷ keys) ≡ true = and_from (nat_lt q (package_count p)) _ (lt-ltb q (package_count p) c.package_of.ensures.range) owners in
    let all = fill_can_all (touches p) (package_count p) (dependency_count p) dep c.args.lists.now c.loop-dep.lists (q ∷ keys) c.requires c.loop-dep.invariant lt (touched p dep q c.targets.result.now e c.targets.ensures.targets) range in
    let rest = and_parts (can_note c.loop-dep.lists dep q) (list_all (can_note c.loop-dep.lists dep) keys) all in
    let low : q < length c.loop-dep.lists.lists = omega (arith, c.package_of.ensures.range, c.loop-dep.invariant.lists.size) in
    subst (λ l. list_all (can_note l dep) keys ≡ true) (sym c.note.ensures) (all_later c.loop-dep.lists dep q low keys rest.1)

pub loop-dep-preserved : goal.loop-dep-preserved
loop-dep-preserved c =
    let p = c.args.parts.now in
    let dep = c.loop-dep.dep in
    let q = c.package_of.result in
    let keys = map (package_of p) c.targets.result.now in
    let e : c.package_of.result ≡ package_of p (dependency p dep).source = c.package_of.ensures.package ∙ ap (package_of p) c.source.ensures.source in
    fill_next (touches p) (package_count p) dep (q ∷ keys) c.args.lists.now c.loop-dep.lists c.note_packages.new.lists c.loop-dep.invariant
    (touched p dep q c.targets.result.now e c.targets.ensures.targets) (c.note_packages.ensures ∙ ap (λ l. with_noted l dep keys) c.note.ensures)
