use Rattle.std.proofs.Common.{◌≡◌, ◌==◌, ◌<◌, ◌≤◌, ◌+◌, ◌++◌, ◌∷◌, [], ℕ, Bool, nat_eq, get_or, set, arith, List, length, map, take, ap, sym, ◌∙◌, Bor, subst, false}
use Rattle.std.specs.List.{list_any}
use Rattle.std.specs.Str.{str_eq_ignore_ascii_case}
use Rattle.lists.proofs.Tests.{list_any-map}
use Rattle.std.proofs.lemmas.Bool.Decides.{nat_tests}
use Rattle.std.proofs.lemmas.List.{length-set, map-append, take_more, take_more_set}
use Rattle.control_file.specs.Tags.{AreTagged, tag_of, slot_of}
use Rattle.control_file.specs.Text.{is_among}
use Rattle.control_file.proofs.TagsOfNames.{none-tagged}
use Rattle.control_file.proofs.SlotMarks.{none-marked}
use Rattle.control_file.proofs.Names.contains.Goals as goal

abbrev bytes : List (Bor (List ℕ)) → List (List ℕ)
bytes items = map (λ (x : Bor (List ℕ)). x.now) items

-- one more name has its tag
tagged-more : (items : List (Bor (List ℕ))) (tags : List ℕ) (place own : ℕ) (d : Bor (List ℕ)) → place < length tags → place < length items → AreTagged tags place (bytes (take place items))
    → own ≡ tag_of (get_or items place d).now → AreTagged (set tags place own) (place + 1) (bytes (take (place + 1) items))
tagged-more items tags place own d room some are is =
    let now : Bor (List ℕ) → List ℕ = λ x. x.now in
    let last = get_or items place d in
    let whole : map tag_of (bytes (take (place + 1) items)) ≡ map tag_of (bytes (take place items)) ++ tag_of last.now ∷ [] =
    ap (λ more. map tag_of (bytes more)) (take_more items place d some)
    ∙ ap (map tag_of) (map-append now (take place items) (last ∷ []))
    ∙ map-append tag_of (bytes (take place items)) (last.now ∷ []) in
    take_more_set tags place own room ∙ ap (λ front. front ++ own ∷ []) are ∙ ap (λ tag. map tag_of (bytes (take place items)) ++ tag ∷ []) is ∙ sym whole

pub returns-then-self-slot-clause-answer : goal.returns-then-self-slot-clause-answer
returns-then-self-slot-clause-answer c =
    let inside = c.self.inside in
    let name = c.args.name.now in
    let other : nat_eq (get_or inside.marks c.args.slot 0) inside.mark ≡ false = grind (arith, nat_tests, c.if-self-slot.true) in
    let none : nat_eq (get_or inside.marks (slot_of name) 0) inside.mark ≡ false = ap (λ k. nat_eq (get_or inside.marks k 0) inside.mark) (sym c.requires.slot) ∙ other in
    sym (none-marked inside.marks inside.mark name (bytes (take inside.len inside.items)) c.self.invariant.3 none) ∙ ap (is_among name) c.self.view_is

pub loop-place-preserved : goal.loop-place-preserved
loop-place-preserved c =
    let loop = c.loop-place in
    let inside = loop.self-inside in
    let room : length inside.tags ≡ 1024 = loop.invariant.room in
    let items : length inside.items ≡ 1024 = ap length loop.invariant.items ∙ c.self.told.0 in
    let most : c.self.inside.len ≤ 1024 = c.self.invariant.0 in
    record {
      tagged = tagged-more inside.items inside.tags loop.place c.tag.result _ (omega (arith, room, most, c.loop-place-test.true)) (omega (arith, items, most, c.loop-place-test.true)) loop.invariant.tagged c.tag.ensures;
      room = length-set inside.tags loop.place c.tag.result ∙ room;
      items = loop.invariant.items;
      len = loop.invariant.len;
      marks = loop.invariant.marks;
      mark = loop.invariant.mark;
    }

pub returns-then-not-contains-clause-answer : goal.returns-then-not-contains-clause-answer
returns-then-not-contains-clause-answer c =
    let inside = c.self.inside in
    let loop = c.loop-place in
    let name = c.args.name.now in
    let known : inside.tagged ≤ inside.len = c.self.invariant.1 in
    let end : loop.place ≡ inside.len = omega (arith, loop.auto.place-end known, c.loop-place-test.false) in
    let tags : take loop.self-inside.len loop.self-inside.tags ≡ map tag_of (bytes (take inside.len inside.items)) =
    ap (λ n. take n loop.self-inside.tags) (loop.invariant.len ∙ sym end)
    ∙ loop.invariant.tagged
    ∙ ap (λ n. map tag_of (bytes (take n loop.self-inside.items))) end
    ∙ ap (λ items. map tag_of (bytes (take inside.len items))) loop.invariant.items in
    let none : list_any (λ tag. tag == c.tag-2.result) (take loop.self-inside.len loop.self-inside.tags) ≡ false = sym c.contains.ensures.value ∙ c.if-not-contains.true in
    let P : List ℕ → Type 0 = λ own. list_any (λ tag. tag == c.tag-2.result) own ≡ false in
    let Q : ℕ → Type 0 = λ own. list_any (λ tag. tag == own) (map tag_of (bytes (take inside.len inside.items))) ≡ false in
    sym (none-tagged name (bytes (take inside.len inside.items)) (subst Q c.tag-2.ensures (subst P tags none))) ∙ ap (is_among name) c.self.view_is

pub returns-clause-answer : goal.returns-clause-answer
returns-clause-answer c =
    let inside = c.self.inside in
    let loop = c.loop-place in
    let same : List ℕ → Bool = λ other. str_eq_ignore_ascii_case other c.args.name.now in
    let now : Bor (List ℕ) → List ℕ = λ x. x.now in
    c.is_any_same.ensures
    ∙ ap (λ n. list_any (λ (x : Bor (List ℕ)). same x.now) (take n loop.self-inside.items)) loop.invariant.len
    ∙ ap (λ items. list_any (λ (x : Bor (List ℕ)). same x.now) (take inside.len items)) loop.invariant.items
    ∙ sym (list_any-map same now (take inside.len inside.items))
    ∙ ap (list_any same) c.self.view_is
