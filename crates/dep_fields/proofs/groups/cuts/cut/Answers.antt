use Rattle.std.proofs.Common.{◌≡◌, ℕ, ◌<◌, ◌==◌, ◌∷◌, List, not, Some, None, length, take, take_all, sym, ap, ◌∙◌, arith}
use Rattle.std.specs.List.{position_or_len}
use Rattle.std.proofs.lemmas.Bool.{false_from_ne_true}
use Rattle.std.proofs.lemmas.List.Sums.{position_or_len_is}
use Rattle.std.proofs.lemmas.List.{take_rest}
use Rattle.lists.proofs.Tests.{list_all-prefix}
use Rattle.memchr.specs.Find.{IsFirstByte, is_byte}
use Rattle.dep_fields.proofs.Parts.{pieces-first, pieces-none}
use Rattle.dep_fields.specs.Fields.{pieces, has_none}
use Rattle.dep_fields.proofs.groups.cuts.cut.Goals as goal

-- the first mark
place_is : (mark : ℕ) (text : List ℕ) (i : ℕ) → IsFirstByte (is_byte mark) text (Some i) → position_or_len (λ (b : ℕ). b == mark) text ≡ i
place_is mark text i found =
    position_or_len_is (λ (b : ℕ). b == mark) text i 0 (omega (arith, found.0.high)) (λ k h. false_from_ne_true _ (found.0.before k (omega arith) h)) (λ _. found.1)

-- there is no mark
none_is : (mark : ℕ) (text : List ℕ) → IsFirstByte (is_byte mark) text None → position_or_len (λ (b : ℕ). b == mark) text ≡ length text
none_is mark text none =
    position_or_len_is (λ (b : ℕ). b == mark) text (length text) 0 (omega arith) (λ k h. false_from_ne_true _ (none k (omega arith) h)) (λ h. absurd (omega (arith, h)))

pub returns-in-Some-clause-parts : goal.returns-in-Some-clause-parts
returns-in-Some-clause-parts c =
    let text = c.args.text.now in
    let inside : c.in-Some.i < length text = omega (arith, c.in-Some.ensures.0.high) in
    pieces-first c.args.mark text c.in-Some.i (place_is c.args.mark text c.in-Some.i c.in-Some.ensures) inside
    ∙ ap (λ (rest : List ℕ). take c.in-Some.i text ∷ pieces c.args.mark rest) (sym (take_rest text _))

pub returns-in-Some-clause-unmarked : goal.returns-in-Some-clause-unmarked
returns-in-Some-clause-unmarked c =
    let text = c.args.text.now in
    ap (λ n. has_none c.args.mark (take n text)) (sym (place_is c.args.mark text c.in-Some.i c.in-Some.ensures)) ∙ list_all-prefix (λ (b : ℕ). not (b == c.args.mark)) text

pub returns-in-None-clause-parts : goal.returns-in-None-clause-parts
returns-in-None-clause-parts c = pieces-none c.args.mark c.args.text.now (none_is c.args.mark c.args.text.now c.in-None.ensures)

pub returns-in-None-clause-unmarked : goal.returns-in-None-clause-unmarked
returns-in-None-clause-unmarked c =
    let text = c.args.text.now in
    let none = none_is c.args.mark text c.in-None.ensures in
    sym (ap (λ n. has_none c.args.mark (take n text)) none ∙ ap (has_none c.args.mark) (take_all (length text) text (omega arith))) ∙ list_all-prefix (λ (b : ℕ). not (b == c.args.mark)) text
