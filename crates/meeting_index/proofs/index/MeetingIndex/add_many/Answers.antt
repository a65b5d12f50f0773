-- One more item, or one that the last one covers.
use Rattle.std.proofs.Common.{◌≡◌, ◌∙◌, ◌+◌, ◌∷◌, ap, sym, refl, Bool, true, false, ◌||◌, drop, map, nat_eq, Some, List}
use Rattle.std.specs.List.{flat_map}
use Rattle.std.proofs.lemmas.List.{drop_more}
use Rattle.std.proofs.lemmas.List.Folds.{list_any-append}
use Rattle.lists.specs.Sets.{has}
use Rattle.dep_fields.specs.Relationships.{meaning}
use Rattle.dep_fields.specs.declared.Item.{Item}
use Rattle.meeting_index.specs.Carriers.{carried}
use Rattle.meeting_index.proofs.Covering.{found-covered}
use Rattle.meeting_index.proofs.CrowdLaws.{or-assoc}
use Rattle.meeting_index.proofs.index.MeetingIndex.add_many.Goals as goal

or-twice : (a b : Bool) → ((a || b) || b) ≡ (a || b)
or-twice true b = refl
or-twice false true = refl
or-twice false false = refl

same-item : (a b : Item) → Some a ≡ Some b → a ≡ b
same-item a b e = cc

pub loop-item-preserved : goal.loop-item-preserved
loop-item-preserved c =
    let native = c.args.self.now.native in
    let vs = c.args.self.now.versions in
    let xs = c.args.items.now in
    let i = c.loop-item.item-index in
    let item = c.item-item.result in
    let met = c.loop-item.targets.numbers.items in
    let find = carried native vs in
    record {
      all = λ n.
          let rest = has (flat_map find (map meaning (drop (i + 1) xs))) n in
          ap (λ b. b || rest) (c.in_ok-add_targets.ensures n)
          ∙ or-assoc (has met n) (has (find (meaning item)) n) rest
          ∙ ap (λ b. has met n || b) (sym (list_any-append (λ x. nat_eq x n) (find (meaning item)) (flat_map find (map meaning (drop (i + 1) xs)))))
          ∙ ap (λ (items : List Item). has met n || has (flat_map find (map meaning items)) n)
          (ap (λ x. x ∷ drop (i + 1) xs) c.item-item.is ∙ sym (drop_more xs i item c.loop-item-test.true))
          ∙ c.loop-item.invariant.all n;
      last = λ x same n.
          let now = c.in_ok-add_targets.ensures n in
          ap (λ b. b || has (find (meaning x)) n) now
          ∙ ap (λ (y : Item). (has met n || has (find (meaning item)) n) || has (find (meaning y)) n) (sym (same-item item x same))
          ∙ or-twice (has met n) (has (find (meaning item)) n)
          ∙ sym now;
    }

pub loop-item-preserved-then-is_covered : goal.loop-item-preserved-then-is_covered
loop-item-preserved-then-is_covered c =
    let native = c.args.self.now.native in
    let vs = c.args.self.now.versions in
    let xs = c.args.items.now in
    let i = c.loop-item.item-index in
    let item = c.item-item.result in
    let met = c.loop-item.targets.numbers.items in
    let find = carried native vs in
    record {
      all = λ n.
          let rest = has (flat_map find (map meaning (drop (i + 1) xs))) n in
          ap (λ b. b || rest) (sym (found-covered native vs c.loop-item.last (meaning item) met c.loop-item.invariant.last (c.is_covered.ensures c.if-is_covered.true) n))
          ∙ or-assoc (has met n) (has (find (meaning item)) n) rest
          ∙ ap (λ b. has met n || b) (sym (list_any-append (λ x. nat_eq x n) (find (meaning item)) (flat_map find (map meaning (drop (i + 1) xs)))))
          ∙ ap (λ (items : List Item). has met n || has (flat_map find (map meaning items)) n)
          (ap (λ x. x ∷ drop (i + 1) xs) c.item-item.is ∙ sym (drop_more xs i item c.loop-item-test.true))
          ∙ c.loop-item.invariant.all n;
      last = c.loop-item.invariant.last;
    }
