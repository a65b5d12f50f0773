-- The parts of a text between marks.
use Rattle.std.proofs.Common.{◌≡◌, ℕ, suc, ◌+◌, ◌<◌, ◌≤◌, min, Bool, true, false, cond, not, ◌==◌, List, [], ◌∷◌, ◌++◌, length, take, drop, length-append, append_assoc, inl, inr, refl, sym, ap, ◌∙◌, subst, arith}
use Rattle.std.specs.Prelude.{Option, Some, None, is_some, Result, Ok, Err, is_ok}
use Rattle.std.specs.Borrow.{Bor}
use Rattle.std.specs.List.{cons_option, position_or_len, list_all}
use Rattle.std.specs.Option.{option_or}
use Rattle.std.specs.Result.{result_ok}
use Rattle.std.proofs.Math.Nat.{min-le_right}
use Rattle.std.proofs.Math.Seq.{drop-append-add}
use Rattle.std.proofs.lemmas.List.{drop-drop, drop_all, append-nil}
use Rattle.std.proofs.lemmas.List.Sums.{fails_before_first}
use Rattle.std.proofs.lemmas.List.Splits.{slice_split_first, slice_split_none, length-slice_split}
use Rattle.std.proofs.lemmas.List.Folds.{list_all-append}
use Rattle.std.proofs.lemmas.Bool.{and_from, and_parts}
use Rattle.std.proofs.lemmas.Bool.Decides.{nat_tests}
use Rattle.dep_fields.specs.declared.RelFault.{RelFault}
use Rattle.dep_fields.specs.declared.RelKind.{RelKind}
use Rattle.dep_fields.specs.Tokens.{behind}
use Rattle.dep_fields.specs.Relationships.{Relationship, relationship_of}
use Rattle.dep_fields.specs.Fields.{Span, pieces, parts_left, comma, bar, is_nil, is_separator, has_none, is_empty_group, spans_in, part_fault, first_fault, reads, items_in, items_of, IsFirstGroup, Answered, behind_comma, behind_group}
use Rattle.dep_fields.specs.Cuts.{IsCut, IsFirstSpan}
use Rattle.ascii.proofs.Texts.{behind-skip}
use Rattle.dep_fields.proofs.Runs.{blank-separator, behind_group-append}
use Rattle.lists.proofs.Options.{option_or-none}

-- the first part ends at the first mark
pub pieces-first : (mark : ℕ) (text : List ℕ) (i : ℕ) → position_or_len (λ (b : ℕ). b == mark) text ≡ i → i < length text
    → pieces mark text ≡ take i text ∷ pieces mark (drop (i + 1) text)
pieces-first mark text i e h =
    let P : ℕ → Type 0 = λ n. n < length text → pieces mark text ≡ take n text ∷ pieces mark (drop (n + 1) text) in
    subst P e (slice_split_first (λ (b : ℕ). b == mark) text 0) h

-- a text without marks is the one part
pub pieces-none : (mark : ℕ) (text : List ℕ) → position_or_len (λ (b : ℕ). b == mark) text ≡ length text → pieces mark text ≡ text ∷ []
pieces-none mark text e = slice_split_none (λ (b : ℕ). b == mark) text (λ k d h. fails_before_first (λ (b : ℕ). b == mark) text k d (omega arith))

-- a text has a part
pieces-some : (mark : ℕ) (text : List ℕ) → is_nil (pieces mark text) ≡ false
pieces-some mark text =
    let e = length-slice_split (λ (b : ℕ). b == mark) text in
    grind (arith, nat_tests)

-- a part is the last where nothing is left
last-is : (mark : ℕ) (rest : Option (Bor (List ℕ))) (last : Bool) → is_some rest ≡ not last → last ≡ is_nil (parts_left mark rest)
last-is mark None true h = refl
last-is mark None false h = cc
last-is mark (Some text) true h = cc
last-is mark (Some text) false h = sym (pieces-some mark text.now)

-- the fault of the first part is the first fault
pub fault-here : (alternatives : Bool) (place : ℕ) (part : List ℕ) (rest : Option (Bor (List ℕ))) (last : Bool) (fault : RelFault)
    → is_some rest ≡ not last → part_fault alternatives place part last (relationship_of part) ≡ Some fault
    → first_fault alternatives place (part ∷ parts_left bar rest) ≡ Some fault
fault-here alternatives place part rest last fault h e =
    let later = first_fault alternatives (place + length part + 1) (parts_left bar rest) in
    ap (λ b. option_or (part_fault alternatives place part b (relationship_of part)) later) (sym (last-is bar rest last h))
    ∙ ap (λ o. option_or o later) e

-- where what is left of a text ends, which begins at a place
abbrev pub Ends : ℕ → ℕ → Option (Bor (List ℕ)) → Type 0
Ends place end None = place ≡ end + 1
Ends place end (Some text) = place + length text.now ≡ end

-- separators stand before what is left
pub record Gap (value left : List ℕ) : Type 0 where
  pub gap : List ℕ
  pub separators : list_all is_separator gap ≡ true
  pub whole : value ≡ gap ++ left

-- what is left of a value from a place on, with the separators before the next group
abbrev pub IsLeft : List ℕ → ℕ → ℕ → Option (Bor (List ℕ)) → Type 0
IsLeft value start place None = Unit {0}
IsLeft value start place (Some text) =
    (text.now ≡ drop place value) × (place ≤ length value) × Gap (drop start value) text.now

-- what stands behind a part and its mark
behind-mark : (part rest value : List ℕ) (mark place : ℕ) → part ++ mark ∷ rest ≡ drop place value → drop (place + length part + 1) value ≡ rest
behind-mark part rest value mark place h =
    let e : place + length part + 1 ≡ place + (length part + 1) = omega arith in
    ap (λ n. drop n value) e ∙ sym (drop-drop (length part + 1) place value) ∙ ap (drop (length part + 1)) (sym h) ∙ drop-append-add part (mark ∷ rest) 1

-- how long a part, its mark and the rest are
cut-len : (mark : ℕ) (text part rest : List ℕ) → text ≡ part ++ mark ∷ rest → length text ≡ length part + (length rest + 1)
cut-len mark text part rest h = omega (arith, ap length h, length-append part (mark ∷ rest))

-- separators go on over an empty group and its comma
gap-on : (value text part rest : List ℕ) → Gap value text → text ≡ part ++ comma ∷ rest → list_all is_separator part ≡ true → Gap value rest
gap-on value text part rest gap cut blank = record {
  gap = gap.gap ++ (part ++ comma ∷ []);
  separators = list_all-append is_separator gap.gap (part ++ comma ∷ [])
      ∙ and_from _ _ gap.separators (list_all-append is_separator part (comma ∷ []) ∙ and_from _ _ blank refl);
  whole = gap.whole ∙ ap (λ (t : List ℕ). gap.gap ++ t) (cut ∙ sym (append_assoc part (comma ∷ []) rest)) ∙ sym (append_assoc gap.gap (part ++ comma ∷ []) rest);
}

-- behind separators
gap-behind : (value left : List ℕ) → Gap value left → behind is_separator left ≡ behind is_separator value
gap-behind value left gap = sym (ap (behind is_separator) gap.whole ∙ behind-skip is_separator gap.gap left gap.separators)

-- behind an empty group and its comma
pub left-on : (value : List ℕ) (start place : ℕ) (text part : List ℕ) (rest : Option (Bor (List ℕ))) → (text ≡ drop place value) → place + length text ≡ length value
    → Gap (drop start value) text
    → IsCut comma text part rest → is_empty_group part ≡ true → IsLeft value start (place + length part + 1) rest
left-on value start place text part None here ends gap cut blank = tt
left-on value start place text part (Some rest) here ends gap cut blank =
    let over : part ++ comma ∷ rest.now ≡ drop place value = sym cut ∙ here in
    let len : length text ≡ length part + (length rest.now + 1) = cut-len comma text part rest.now cut in
    (sym (behind-mark part rest.now value comma place over), omega arith, gap-on (drop start value) text part rest.now gap cut (blank-separator part blank))

-- the group that was found
pub first-span : (value : List ℕ) (start place : ℕ) (text : List ℕ) (part : Bor (List ℕ)) (rest : Option (Bor (List ℕ)))
    → spans_in place (pieces comma text) ≡ spans_in start (pieces comma (drop start value)) → place + length text ≡ length value
    → (text ≡ drop place value) → Gap (drop start value) text
    → pieces comma text ≡ part.now ∷ parts_left comma rest → IsCut comma text part.now rest → has_none comma part.now ≡ true → is_empty_group part.now ≡ false
    → IsFirstSpan value start (record { at = place; text = part; end = min (place + length part.now + 1) (length value) })
first-span value start place text part None spans ends here gap parts cut unmarked full =
    let seps = gap-behind (drop start value) text gap in
    let span : Span = record { at = place; text = part.now } in
    let end : ℕ = min (place + length part.now + 1) (length value) in
    let len : length text ≡ length part.now = ap length cut in
    let nil : drop end value ≡ [] = drop_all end value (omega arith) in
    let one : spans_in place (part.now ∷ []) ≡ span ∷ [] = ap (λ b. cond b [] (span ∷ [])) full in
    record {
      first = sym spans ∙ ap (spans_in place) parts ∙ one ∙ ap (λ (t : List ℕ). span ∷ spans_in end (pieces comma t)) (sym nil);
      behind = nil ∙ sym (ap behind_comma (sym seps) ∙ ap behind_group (cut ∙ sym (append-nil part.now)) ∙ behind_group-append part.now [] unmarked full);
      stands = record {
        gap = gap.gap;
        ending = [];
        whole = gap.whole ∙ ap (λ (t : List ℕ). gap.gap ++ t) (cut ∙ sym (append-nil part.now) ∙ ap (λ (t : List ℕ). part.now ++ t) (sym nil));
        separators = gap.separators;
        unmarked = unmarked;
        full = full;
        ended = inr (refl, nil);
      };
      within = omega arith;
      end_within = min-le_right _ _;
    }
first-span value start place text part (Some rest) spans ends here gap parts cut unmarked full =
    let seps = gap-behind (drop start value) text gap in
    let span : Span = record { at = place; text = part.now } in
    let end : ℕ = min (place + length part.now + 1) (length value) in
    let len : length text ≡ length part.now + (length rest.now + 1) = cut-len comma text part.now rest.now cut in
    let same : end ≡ place + length part.now + 1 = omega arith in
    let over : part.now ++ comma ∷ rest.now ≡ drop place value = sym cut ∙ here in
    let dropped : drop end value ≡ rest.now = ap (λ n. drop n value) same ∙ behind-mark part.now rest.now value comma place over in
    let more : List Span = spans_in (place + length part.now + 1) (pieces comma rest.now) in
    let one : spans_in place (part.now ∷ pieces comma rest.now) ≡ span ∷ more = ap (λ b. cond b more (span ∷ more)) full in
    let after : spans_in end (pieces comma (drop end value)) ≡ more =
    ap (λ n. spans_in n (pieces comma (drop end value))) same ∙ ap (λ (t : List ℕ). spans_in (place + length part.now + 1) (pieces comma t)) dropped in
    record {
      first = sym spans ∙ ap (spans_in place) parts ∙ one ∙ ap (λ (l : List Span). span ∷ l) (sym after);
      stands = record {
        gap = gap.gap;
        ending = comma ∷ [];
        whole = gap.whole ∙ ap (λ (t : List ℕ). gap.gap ++ t) (cut ∙ ap (λ (t : List ℕ). part.now ++ comma ∷ t) (sym dropped));
        separators = gap.separators;
        unmarked = unmarked;
        full = full;
        ended = inl refl;
      };
      behind = dropped ∙ sym (ap behind_comma (sym seps) ∙ ap behind_group cut ∙ behind_group-append part.now (comma ∷ rest.now) unmarked full);
      within = omega arith;
      end_within = min-le_right _ _;
    }

-- an empty group is passed over
pub spans-skip : (place : ℕ) (part : List ℕ) (parts : List (List ℕ)) → is_empty_group part ≡ true
    → spans_in place (part ∷ parts) ≡ spans_in (place + length part + 1) parts
spans-skip place part parts blank =
    let more = spans_in (place + length part + 1) parts in
    ap (λ b. cond b more (record { at = place; text = part } ∷ more)) blank

-- where what is left behind a part ends
pub ends-on : (place end : ℕ) (text part : List ℕ) (rest : Option (Bor (List ℕ))) → place + length text ≡ end → IsCut comma text part rest
    → Ends (place + length part + 1) end rest
ends-on place end text part None h cut = omega (arith, ap length cut)
ends-on place end text part (Some rest) h cut = omega (arith, cut-len comma text part rest.now cut)

-- the item of a part without a fault is read
part-reads : (alternatives : Bool) (at : ℕ) (part : List ℕ) (last : Bool) (read : Result Relationship RelKind)
    → part_fault alternatives at part last read ≡ None → is_ok read ≡ true
part-reads alternatives at part last (Ok item) h = refl
part-reads alternatives at part last (Err kind) h = cc

-- each part of a group without a fault is read
pub no-fault-reads : (alternatives : Bool) (at : ℕ) (parts : List (List ℕ)) → first_fault alternatives at parts ≡ None → list_all reads parts ≡ true
no-fault-reads alternatives at [] h = refl
no-fault-reads alternatives at (part ∷ parts) h =
    let both = option_or-none (part_fault alternatives at part (is_nil parts) (relationship_of part)) (first_fault alternatives (at + length part + 1) parts) h in
    and_from (reads part) (list_all reads parts) (part-reads alternatives at part (is_nil parts) (relationship_of part) both.0)
    (no-fault-reads alternatives (at + length part + 1) parts both.1)

-- parts that are read have an item each
pub length-items_in : (parts : List (List ℕ)) → list_all reads parts ≡ true → length (items_in parts) ≡ length parts
length-items_in [] h = refl
length-items_in (part ∷ parts) h =
    let both = and_parts (reads part) (list_all reads parts) h in
    by (relationship_of part) both.0 (length-items_in parts both.1)
  where
    by : (read : Result Relationship RelKind) → is_ok read ≡ true → length (items_in parts) ≡ length parts
        → length (cons_option (result_ok read) (items_in parts)) ≡ suc (length parts)
    by (Ok item) e more = ap suc more
    by (Err kind) e more = cc

-- one more group was answered
pub answered-push : (value : List ℕ) (groups : List (List Relationship)) (rest text more : List ℕ) → Answered value groups rest
    → IsFirstGroup rest text more → Answered value (groups ++ items_of text ∷ []) more
answered-push value [] rest text more h first =
    let P : List ℕ → Type 0 = λ v. IsFirstGroup v text more in
    (text, more, subst P (sym h) first, refl, refl)
answered-push value (group ∷ groups) rest text more h first =
    (h.0, h.1, h.2, h.3, answered-push h.1 groups rest text more h.4 first)
