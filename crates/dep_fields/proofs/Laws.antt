-- The laws of the grammar.
use Rattle.std.proofs.Common.{◌≡◌, ℕ, ◌+◌, ◌≤◌, Bool, true, false, cond, not, ◌||◌, ◌==◌, List, [], ◌∷◌, length, filter, refl, sym, ap, ◌∙◌, subst, arith, eqb-true, append-nil}
use Rattle.std.specs.Prelude.{Option, Some, None, Result, Ok, Err, is_ok}
use Rattle.std.specs.List.{list_all, cons_option}
use Rattle.std.specs.Option.{option_or}
use Rattle.std.specs.Result.{result_ok}
use Rattle.std.proofs.lemmas.Bool.{and_from, and_parts}
use Rattle.std.proofs.lemmas.Bool.Decides.{nat_tests}
use Rattle.std.proofs.lemmas.List.Splits.{length-slice_split}
use Rattle.dep_fields.specs.declared.RelKind.{RelKind}
use Rattle.dep_fields.specs.declared.RelKind.TheVariants.{BadItem, Restriction, Alternative}
use Rattle.dep_fields.specs.declared.RelFault.{RelFault}
use Rattle.dep_fields.specs.Relationships.{Relationship, relationship_at, relationship_of, ended}
use Rattle.dep_fields.specs.Fields.{Field, Span, spans_of, pieces, comma, bar, is_nil, reads, items_in, items_of, is_empty_group, spans_in, fault_at, part_fault, first_fault, with_group, field_in, field_of}
use Rattle.dep_fields.specs.Grammar.{IsItem, IsRestricted, AreItems, IsGroup, AreGroups, ReadsItems, SeesRestrictions, ReadsFields}
use Rattle.dep_fields.proofs.Taken.{item-taken}
use Rattle.dep_fields.proofs.Spelled.{Stops, item-spelled}
use Rattle.dep_fields.proofs.Parts.{no-fault-reads, length-items_in}

-- ---- items

stops-nil : Stops []
stops-nil = record { blank = refl; name = refl; arch = refl; colon = refl; opening = refl }

stops-sign : (sign : ℕ) (rest : List ℕ) → (sign == 91 || sign == 60) ≡ true → Stops (sign ∷ rest)
stops-sign sign rest h = by (sign == 91) (sign == 60) refl refl h
  where
    by : (b c : Bool) → (sign == 91) ≡ b → (sign == 60) ≡ c → (b || c) ≡ true → Stops (sign ∷ rest)
    by true c e d h =
        let P : ℕ → Type 0 = λ s. Stops (s ∷ rest) in
        subst P (sym (eqb-true sign 91 e)) (record { blank = refl; name = refl; arch = refl; colon = refl; opening = refl })
    by false true e d h =
        let P : ℕ → Type 0 = λ s. Stops (s ∷ rest) in
        subst P (sym (eqb-true sign 60 d)) (record { blank = refl; name = refl; arch = refl; colon = refl; opening = refl })
    by false false e d h = cc

item-read : (text : List ℕ) (item : Relationship) → relationship_of text ≡ Ok item → IsItem text item
unfolding relationship_of
item-read text item h = by (relationship_at text) refl h
  where
    by : (o : Option (Relationship × List ℕ)) → relationship_at text ≡ o → ended o ≡ Ok item → IsItem text item
    by None e h = cc
    by (Some (found, [])) e h =
        let taken = item-taken text (found, []) e in
        let same : found ≡ item = cc in
        let P : Relationship → Type 0 = λ i. IsItem text i in
        let Q : List ℕ → Type 0 = λ t. IsItem t found in
        subst P same (subst Q (sym (taken.2 ∙ append-nil taken.0)) taken.1)
    by (Some (found, byte ∷ rest)) e h = cc

item-known : (text : List ℕ) (item : Relationship) → IsItem text item → relationship_of text ≡ Ok item
unfolding relationship_of
item-known text item h = ap ended (ap relationship_at (sym (append-nil text)) ∙ item-spelled text item [] h stops-nil)

pub reads-items : ReadsItems
reads-items text item = (item-read text item, item-known text item)

abbrev refused : RelKind → Result Relationship RelKind
refused kind = Err kind

restricted-read : (text : List ℕ) → relationship_of text ≡ Err Restriction → IsRestricted text
unfolding relationship_of
restricted-read text h = by (relationship_at text) refl h
  where
    sign : (b : Bool) → refused (cond b Restriction BadItem) ≡ refused Restriction → b ≡ true
    sign true h = refl
    sign false h = cc

    by : (o : Option (Relationship × List ℕ)) → relationship_at text ≡ o → ended o ≡ Err Restriction → IsRestricted text
    by None e h = cc
    by (Some (found, [])) e h = cc
    by (Some (found, byte ∷ rest)) e h =
        let taken = item-taken text (found, byte ∷ rest) e in
        record { front = taken.0; item = found; sign = byte; rest = rest; whole = taken.2; front_is = taken.1; sign_is = sign (byte == 91 || byte == 60) h }

restricted-known : (text : List ℕ) → IsRestricted text → relationship_of text ≡ Err Restriction
unfolding relationship_of
restricted-known text h =
    ap ended (ap relationship_at h.whole ∙ item-spelled h.front h.item (h.sign ∷ h.rest) h.front_is (stops-sign h.sign h.rest h.sign_is))
    ∙ ap (λ b. Err (cond b Restriction BadItem)) h.sign_is

pub sees-restrictions : SeesRestrictions
sees-restrictions text = (restricted-read text, restricted-known text)

-- ---- groups

items-known : (parts : List (List ℕ)) (items : List Relationship) → AreItems parts items → (list_all reads parts ≡ true) × (items_in parts ≡ items)
items-known [] [] h = (refl, refl)
items-known [] (item ∷ items) h = absurd h
items-known (part ∷ parts) [] h = absurd h
items-known (part ∷ parts) (item ∷ items) h =
    let read = item-known part item h.0 in
    let more = items-known parts items h.1 in (
      and_from (reads part) (list_all reads parts) (ap is_ok read) more.0,
      ap (λ (r : Result Relationship RelKind). cons_option (result_ok r) (items_in parts)) read ∙ ap (λ (is : List Relationship). item ∷ is) more.1,
    )

items-read : (parts : List (List ℕ)) → list_all reads parts ≡ true → AreItems parts (items_in parts)
items-read [] h = tt
items-read (part ∷ parts) h =
    let both = and_parts (reads part) (list_all reads parts) h in
    by (relationship_of part) refl both.0 (items-read parts both.1)
  where
    by : (r : Result Relationship RelKind) → relationship_of part ≡ r → is_ok r ≡ true → AreItems parts (items_in parts)
        → AreItems (part ∷ parts) (cons_option (result_ok (relationship_of part)) (items_in parts))
    by (Ok item) e h more =
        let P : Result Relationship RelKind → Type 0 = λ r. AreItems (part ∷ parts) (cons_option (result_ok r) (items_in parts)) in
        subst P (sym e) (item-read part item e, more)
    by (Err kind) e h more = cc

-- one part alone, or alternatives
fault-none : (alternatives : Bool) (at : ℕ) (parts : List (List ℕ)) → list_all reads parts ≡ true → (alternatives ≡ false → length parts ≤ 1)
    → first_fault alternatives at parts ≡ None
fault-none alternatives at [] h one = refl
fault-none alternatives at (part ∷ []) h one = by (relationship_of part) (and_parts (reads part) true h).0
  where
    by : (r : Result Relationship RelKind) → is_ok r ≡ true → option_or (part_fault alternatives at part true r) None ≡ None
    by (Ok item) h = alone alternatives
      where
        alone : (b : Bool) → option_or (cond (b || true) None (Some (fault_at at part Alternative))) None ≡ None
        alone true = refl
        alone false = refl
    by (Err kind) h = cc
fault-none true at (part ∷ next ∷ parts) h one =
    let both = and_parts (reads part) (list_all reads (next ∷ parts)) h in
    by (relationship_of part) both.0 (fault-none true (at + length part + 1) (next ∷ parts) both.1 (λ e. cc))
  where
    by : (r : Result Relationship RelKind) → is_ok r ≡ true → first_fault true (at + length part + 1) (next ∷ parts) ≡ None
        → option_or (part_fault true at part (is_nil (next ∷ parts)) r) (first_fault true (at + length part + 1) (next ∷ parts)) ≡ None
    by (Ok item) h more = more
    by (Err kind) h more = cc
fault-none false at (part ∷ next ∷ parts) h one = let few = one refl in absurd (omega (arith, few))

nil-cons : {A : Type 0} (x : A) (xs : List A) → is_nil (x ∷ xs) ≡ false
nil-cons x xs = grind (arith, nat_tests)

-- where a group may not have alternatives, one without a fault has one part
pub fault-single : (at : ℕ) (parts : List (List ℕ)) → first_fault false at parts ≡ None → length parts ≤ 1
fault-single at [] h = omega arith
fault-single at (part ∷ []) h = omega arith
fault-single at (part ∷ next ∷ parts) h = absurd (by (relationship_of part) (is_nil (next ∷ parts)) (nil-cons next parts) h)
  where
    by : (r : Result Relationship RelKind) (last : Bool) → last ≡ false
        → option_or (part_fault false at part last r) (first_fault false (at + length part + 1) (next ∷ parts)) ≡ None → ⊥
    by (Ok item) true e h = cc
    by (Ok item) false e h = cc
    by (Err kind) last e h = cc

-- so where it may, it has no fault either
fault-also : (at : ℕ) (parts : List (List ℕ)) → first_fault false at parts ≡ None → first_fault true at parts ≡ None
fault-also at parts h = fault-none true at parts (no-fault-reads false at parts h) (λ e. absurd (cc))

group-read : (alternatives : Bool) (at : ℕ) (text : List ℕ) → first_fault alternatives at (pieces bar text) ≡ None → IsGroup alternatives text (items_of text)
group-read alternatives at text h =
    let read = no-fault-reads alternatives at (pieces bar text) h in
    record {
      items_are = items-read (pieces bar text) read;
      one = λ e.
          let P : Bool → Type 0 = λ b. first_fault b at (pieces bar text) ≡ None in
          let few = fault-single at (pieces bar text) (subst P e h) in
          omega (arith, few, length-slice_split (λ (b : ℕ). b == bar) text, length-items_in (pieces bar text) read);
    }

group-known : (alternatives : Bool) (at : ℕ) (text : List ℕ) (items : List Relationship) → IsGroup alternatives text items
    → (first_fault alternatives at (pieces bar text) ≡ None) × (items_of text ≡ items)
group-known alternatives at text items h =
    let known = items-known (pieces bar text) items h.items_are in
    let len : length items ≡ length (pieces bar text) = ap length (sym known.1) ∙ length-items_in (pieces bar text) known.0 in
    (fault-none alternatives at (pieces bar text) known.0 (λ e. let one = h.one e in omega (arith, one, len)), known.1)

-- ---- fields

-- the first group of a field without a fault has none
pub first-sound : (span : Span) (spans : List Span) → (field_in true (span ∷ spans)).fault ≡ None → first_fault true span.at (pieces bar span.text) ≡ None
first-sound span spans h = by (first_fault true span.at (pieces bar span.text)) h
  where
    by : (fault : Option RelFault) → (with_group fault (items_of span.text) (field_in true spans)).fault ≡ None → fault ≡ None
    by None h = refl
    by (Some fault) h = absurd (cc)

-- a field without alternatives and without a fault is one that may have them, and says the same
single-sound : (spans : List Span) → (field_in false spans).fault ≡ None → field_in true spans ≡ field_in false spans
single-sound [] h = refl
single-sound (span ∷ spans) h = by (first_fault false span.at (pieces bar span.text)) refl (single-sound spans) h
  where
    by : (fault : Option RelFault) → first_fault false span.at (pieces bar span.text) ≡ fault → ((field_in false spans).fault ≡ None → field_in true spans ≡ field_in false spans)
        → (with_group fault (items_of span.text) (field_in false spans)).fault ≡ None
        → with_group (first_fault true span.at (pieces bar span.text)) (items_of span.text) (field_in true spans) ≡ with_group fault (items_of span.text) (field_in false spans)
    by None e more h =
        ap (λ f. with_group f (items_of span.text) (field_in true spans)) (fault-also span.at (pieces bar span.text) e)
        ∙ ap (with_group None (items_of span.text)) (more h)
    by (Some fault) e more h = absurd (cc)

pub field-also : (value : List ℕ) → (field_of false value).fault ≡ None → field_of true value ≡ field_of false value
unfolding field_of
field-also value h = single-sound (spans_of value) h

abbrev full : List ℕ → Bool
full text = not (is_empty_group text)

abbrev whole : List (List Relationship) → Field
whole groups = record { groups = groups; fault = None }

-- a field without a fault, from its first group on
first-whole : (fault : Option RelFault) (group : List Relationship) (field : Field) (groups : List (List Relationship)) → with_group fault group field ≡ whole groups
    → (fault ≡ None) × (groups ≡ group ∷ field.groups) × (field ≡ whole field.groups)
first-whole None group field groups h =
    (refl, sym (ap (λ (f : Field). f.groups) h), ap (λ (f : Option RelFault). record { groups = field.groups; fault = f }) (ap (λ (f : Field). f.fault) h))
first-whole (Some fault) group field groups h = absurd (let e : Some fault ≡ None = ap (λ (f : Field). f.fault) h in cc)

field-read : (alternatives : Bool) (at : ℕ) (parts : List (List ℕ)) (groups : List (List Relationship))
    → field_in alternatives (spans_in at parts) ≡ whole groups → AreGroups alternatives (filter full parts) groups
field-read alternatives at [] groups h =
    let none : [] ≡ groups = ap (λ (f : Field). f.groups) h in
    subst (AreGroups alternatives []) none tt
field-read alternatives at (part ∷ parts) groups h =
    by (is_empty_group part) h (λ gs. field-read alternatives (at + length part + 1) parts gs)
  where
    by : (b : Bool)
        → field_in alternatives (cond b (spans_in (at + length part + 1) parts) (record { at = at; text = part } ∷ spans_in (at + length part + 1) parts)) ≡ whole groups
        → ((gs : List (List Relationship)) → field_in alternatives (spans_in (at + length part + 1) parts) ≡ whole gs → AreGroups alternatives (filter full parts) gs)
        → AreGroups alternatives (cond (not b) (part ∷ filter full parts) (filter full parts)) groups
    by true h more = more groups h
    by false h more =
        let rest : Field = field_in alternatives (spans_in (at + length part + 1) parts) in
        let first = first-whole (first_fault alternatives at (pieces bar part)) (items_of part) rest groups h in
        subst (AreGroups alternatives (part ∷ filter full parts)) (sym first.1) (group-read alternatives at part first.0, more rest.groups first.2)

field-known : (alternatives : Bool) (at : ℕ) (parts : List (List ℕ)) (groups : List (List Relationship))
    → AreGroups alternatives (filter full parts) groups → field_in alternatives (spans_in at parts) ≡ whole groups
field-known alternatives at [] [] h = refl
field-known alternatives at [] (group ∷ groups) h = absurd h
field-known alternatives at (part ∷ parts) groups h =
    by (is_empty_group part) groups h (λ gs k. field-known alternatives (at + length part + 1) parts gs k)
  where
    by : (b : Bool) (groups : List (List Relationship)) → AreGroups alternatives (cond (not b) (part ∷ filter full parts) (filter full parts)) groups
        → ((gs : List (List Relationship)) → AreGroups alternatives (filter full parts) gs → field_in alternatives (spans_in (at + length part + 1) parts) ≡ whole gs)
        → field_in alternatives (cond b (spans_in (at + length part + 1) parts) (record { at = at; text = part } ∷ spans_in (at + length part + 1) parts)) ≡ whole groups
    by true groups h more = more groups h
    by false [] h more = absurd h
    by false (group ∷ groups) h more =
        let rest : Field = field_in alternatives (spans_in (at + length part + 1) parts) in
        let known = group-known alternatives at part group h.0 in
        ap (λ (f : Option RelFault). with_group f (items_of part) rest) known.0
        ∙ ap (λ (g : List Relationship). record { groups = g ∷ rest.groups; fault = rest.fault }) known.1
        ∙ ap (λ (f : Field). record { groups = group ∷ f.groups; fault = f.fault }) (more groups h.1)

pub reads-fields : ReadsFields
unfolding field_of
reads-fields alternatives value groups = (field-read alternatives 0 (pieces comma value) groups, field-known alternatives 0 (pieces comma value) groups)
