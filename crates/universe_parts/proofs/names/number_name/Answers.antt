-- The name has a number in its slot, or among the others.
use Rattle.std.proofs.Common.{rules, ◌≡◌, ◌∙◌, sym, ap, subst, arith, ℕ, ◌+◌, ◌<◌, List, [], ◌∷◌, ◌++◌, length, get_or, set}
use Rattle.std.specs.Global.{Vec}
use Rattle.std.specs.BTreeMap.{insert_entry}
use Rattle.std.proofs.lemmas.Grind.{get_or_default_zero}
use Rattle.universe_parts.specs.Hashes.{share_of}
use Rattle.universe_parts.specs.Names.{AreNumbered, slot_at}
use Rattle.universe_parts.proofs.Numbering.{key_order}
use Rattle.universe_parts.proofs.Slots.{numbered-first, numbered-other, taken}
use Rattle.universe_parts.proofs.names.number_name.Goals as goal

pub returns-then-index-eq0-clause-numbered : goal.returns-then-index-eq0-clause-numbered
returns-then-index-eq0-clause-numbered c = λ names old none long.
    let slots = c.args.slots.now.items in
    let others = c.args.others.now.entries in
    let new = c.args.name.now in
    let share = c.share_of-share.ensures.share in
    let room : share_of new < length slots = let less = c.share_of-share.ensures.range in let sized = c.requires in omega arith in
    let free : slot_at slots new ≡ 0 =
    sym (ap (λ (k : ℕ). get_or slots k 0) share)
    ∙ sym (c.index.ensures ∙ get_or_default_zero slots c.share_of-share.result c.index.result.now (let less = c.share_of-share.ensures.range in let sized = c.requires in omega arith))
    ∙ c.if-index-eq0.true in
    let before : c.in-Ok.before ≡ c.args.number = search rules in
    let slot : c.in-Some.slot ≡ length names + 1 = let is = c.in-Some.ensures.1 in omega arith in
    subst (λ (k : ℕ). AreNumbered (names ++ new ∷ []) (set slots k c.in-Some.slot) others) (sym share)
    (subst (λ (s : ℕ). AreNumbered (names ++ new ∷ []) (set slots (share_of new) s) others) (sym slot)
    (numbered-first names slots others new old none free room))

pub returns-clause-numbered : goal.returns-clause-numbered
returns-clause-numbered c = λ names old none long.
    let slots = c.args.slots.now.items in
    let others = c.args.others.now.entries in
    let new = c.args.name.now in
    let share = c.share_of-share.ensures.share in
    let read : c.index.result.now ≡ slot_at slots new =
    c.index.ensures
    ∙ get_or_default_zero slots c.share_of-share.result c.index.result.now (let less = c.share_of-share.ensures.range in let sized = c.requires in omega arith)
    ∙ ap (λ (k : ℕ). get_or slots k 0) share in
    subst (λ (es : List (Vec ℕ × ℕ)). AreNumbered (names ++ new ∷ []) slots es) (sym c.in_ok-insert.ensures.entries)
    (subst (λ (n : ℕ). AreNumbered (names ++ new ∷ []) slots (insert_entry key_order others c.in_ok-key.key n)) (sym long)
    (numbered-other names slots others new old none c.in_ok-key.key c.in_ok-key.ensures.items
    (taken (slot_at slots new) (λ free. c.if-index-eq0.false (read ∙ free)))))
