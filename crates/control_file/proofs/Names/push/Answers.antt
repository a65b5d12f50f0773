-- The new name has its slot marked, and no tag yet; the others keep theirs.
use Rattle.std.proofs.Common.{rules, ◌≡◌, ◌<◌, ◌≤◌, ◌∙◌, ap, arith, ◌++◌, ◌∷◌, [], ℕ, List, length, map, take, subst, sym, Bor, slice_set, ◌+◌}
use Rattle.std.proofs.lemmas.List.{length-map, length-take-le, map-append, take_more_set, take-set-le}
use Rattle.control_file.specs.Tags.{AreTagged, AreMarked}
use Rattle.control_file.proofs.SlotMarks.{marked-more}
use Rattle.control_file.proofs.Names.push.Goals as goal

pub invariant_of-self : goal.invariant_of-self
invariant_of-self c =
    let inside = c.self.inside in
    let items = inside.items in
    let len = inside.len in
    let slot = c.args.slot in
    let now : Bor (List ℕ) → List ℕ = λ name. name.now in
    let old : List (List ℕ) = c.args.self.now in
    let room : length items ≡ 1024 = search rules in
    let most : len ≤ 1024 = c.self.invariant.0 in
    let known : inside.tagged ≤ len = c.self.invariant.1 in
    let count : length old ≡ len = sym (ap length c.self.view_is) ∙ length-map (take len items) now ∙ length-take-le len items (omega (arith, room, most)) in
    let few : len < 1024 = omega (arith, count, c.requires.few) in
    let whole : map now (take (len + 1) (slice_set items len c.args.name)) ≡ old ++ c.args.name.now ∷ [] =
    ap (map now) (take_more_set items len c.args.name (omega (arith, room, few)))
    ∙ map-append now (take len items) (c.args.name ∷ [])
    ∙ ap (λ names. names ++ c.args.name.now ∷ []) c.self.view_is in
    let marked : AreMarked inside.marks inside.mark old = subst (λ names. AreMarked inside.marks inside.mark names) c.self.view_is c.self.invariant.3 in
    let less : slot < length inside.marks = search rules in (
      omega (arith, few),
      omega (arith, known),
      subst (λ names. AreTagged inside.tags inside.tagged (map now names)) (sym (take-set-le inside.tagged items len c.args.name known)) c.self.invariant.2,
      subst (λ names. AreMarked (slice_set inside.marks slot inside.mark) inside.mark names) (sym whole)
          (marked-more inside.marks inside.mark slot old c.args.name.now less c.requires.slot marked),
    )
