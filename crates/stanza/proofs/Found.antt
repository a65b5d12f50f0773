-- What a pass over the fields of a paragraph finds.
use Rattle.std.proofs.Common.{◌≡◌, ◌≢◌, ◌<◌, ◌&&◌, ℕ, zero, suc, Bool, true, false, List, [], ◌∷◌, length, get_or, set, nat_eq, eqb, refl, ap, sym, subst, ◌∙◌, cond, Some, None, arith}
use Rattle.std.specs.Prelude.{Option}
use Rattle.std.specs.Option.{option_or, is_some}
use Rattle.std.specs.Char.{to_ascii_lowercase}
use Rattle.std.specs.List.{list_any, position_or_len}
use Rattle.std.specs.Str.{bytes_eq, str_eq_ignore_ascii_case, str_to_ascii_lowercase}
use Rattle.std.proofs.lemmas.Bool.{and_from, eqb-false, eqb-true, eq-eqb}
use Rattle.std.proofs.lemmas.List.Folds.{list_any_at}
use Rattle.std.proofs.lemmas.Map.Views.{any-filter_same}
use Rattle.std.proofs.lemmas.Slice.Eq.{bytes_eq-Decides}
use Rattle.std.proofs.lemmas.List.{length-map, get_or-set_same, get_or-set_other}
use Rattle.control_file.specs.Text.{FieldText, ParagraphText, field_named}
use Rattle.control_file.specs.Fields.{field_text}
use Rattle.control_file.specs.declared.Field.{Field}
use Rattle.stanza.specs.declared.names.FieldName.{FieldName}
use Rattle.stanza.specs.declared.names.FieldName.TheVariants.{Package, Status, Version, Architecture, Essential, PreDepends, Depends, Recommends, Conflicts, Breaks, Provides}
use Rattle.stanza.specs.declared.slots.Slots.{Slots}
use Rattle.stanza.specs.Fields.{field_in}
use Rattle.stanza.specs.Names.{all_names, letter_of, number, spelling, spells, told_by}
use Rattle.stanza.specs.Found.{found_in, found_text, slot_of, slot_text, slot_behind}

-- ---- a text spells one name at most

abbrev name_of : ℕ → FieldName
name_of place = get_or all_names place Provides

name_of-number : (name : FieldName) → name_of (number name) ≡ name
name_of-number Package = refl
name_of-number Status = refl
name_of-number Version = refl
name_of-number Architecture = refl
name_of-number Essential = refl
name_of-number PreDepends = refl
name_of-number Depends = refl
name_of-number Recommends = refl
name_of-number Conflicts = refl
name_of-number Breaks = refl
name_of-number Provides = refl

placed : (name : FieldName) → position_or_len (λ (n : FieldName). bytes_eq (str_to_ascii_lowercase (spelling n)) (str_to_ascii_lowercase (spelling name))) all_names ≡ number name
placed Package = refl
placed Status = refl
placed Version = refl
placed Architecture = refl
placed Essential = refl
placed PreDepends = refl
placed Depends = refl
placed Recommends = refl
placed Conflicts = refl
placed Breaks = refl
placed Provides = refl

one_name : (text : List ℕ) (a b : FieldName) → spells text a ≡ true → spells text b ≡ true → number a ≡ number b
one_name text a b first second =
    let lower : List ℕ → List ℕ = str_to_ascii_lowercase in
    let is_a : lower text ≡ lower (spelling a) = (bytes_eq-Decides (lower text) (lower (spelling a))).0 first in
    let is_b : lower text ≡ lower (spelling b) = (bytes_eq-Decides (lower text) (lower (spelling b))).0 second in
    sym (placed a) ∙ ap (λ t. position_or_len (λ (n : FieldName). bytes_eq (lower (spelling n)) t) all_names) (sym is_a ∙ is_b) ∙ placed b

-- texts that are the same in lower case share their fourth letter
same_letter : (a b : List ℕ) → str_to_ascii_lowercase a ≡ str_to_ascii_lowercase b → letter_of a ≡ letter_of b
same_letter a b e = sym (lower_at a 3) ∙ ap (λ l. get_or l 3 0) e ∙ lower_at b 3
  where
    lower_at : (xs : List ℕ) (k : ℕ) → get_or (str_to_ascii_lowercase xs) k 0 ≡ to_ascii_lowercase (get_or xs k 0)
    lower_at [] k = refl
    lower_at (x ∷ xs) zero = refl
    lower_at (x ∷ xs) (suc k) = lower_at xs k

-- a text that spells a name has its length and its fourth letter
is_told : (text : List ℕ) (name : FieldName) → spells text name ≡ true → (nat_eq (length (spelling name)) (length text) && nat_eq (letter_of (spelling name)) (letter_of text)) ≡ true
is_told text name h =
    let lower : List ℕ → List ℕ = str_to_ascii_lowercase in
    let same : lower text ≡ lower (spelling name) = (bytes_eq-Decides (lower text) (lower (spelling name))).0 h in
    let long : length (spelling name) ≡ length text = sym (length-map (spelling name) to_ascii_lowercase) ∙ sym (ap length same) ∙ length-map text to_ascii_lowercase in
    and_from _ _ (eq-eqb (length (spelling name)) (length text) long) (eq-eqb (letter_of (spelling name)) (letter_of text) (sym (same_letter text (spelling name) same)))

number-within : (name : FieldName) → number name < length all_names
number-within Package = omega arith
number-within Status = omega arith
number-within Version = omega arith
number-within Architecture = omega arith
number-within Essential = omega arith
number-within PreDepends = omega arith
number-within Depends = omega arith
number-within Recommends = omega arith
number-within Conflicts = omega arith
number-within Breaks = omega arith
number-within Provides = omega arith

-- a text that spells no name of its length and its fourth letter spells none
pub none_spelled : (text : List ℕ) → list_any (spells text) (told_by (length text) (letter_of text)) ≡ false → (name : FieldName) → spells text name ≡ false
none_spelled text none name = by (spells text name) refl
  where
    by : (b : Bool) → spells text name ≡ b → b ≡ false
    by true e =
        let any : list_any (spells text) (told_by (length text) (letter_of text)) ≡ true =
        any-filter_same (spells text) (λ (n : FieldName). nat_eq (length (spelling n)) (length text) && nat_eq (letter_of (spelling n)) (letter_of text)) true (is_told text) all_names
        ∙ list_any_at (spells text) all_names (number name) Provides (number-within name) (ap (spells text) (name_of-number name) ∙ e) in
        absurd (cc)
    by false e = refl

-- so a field of a name leaves those of other names as they are
pub other_name : (field : FieldText) (found name : FieldName) (slot : Option FieldText) → spells field.name found ≡ true → number name ≢ number found
    → slot_behind (spelling name) field slot ≡ slot
other_name field found name slot is_found other = by (spells field.name name) (λ h. other (one_name field.name name found h is_found))
  where
    by : (b : Bool) → b ≢ true → cond b (option_or slot (Some field)) slot ≡ slot
    by true h = absurd (h refl)
    by false h = refl

-- ---- one field more

-- the slot of a name, behind a field of the name `found`
abbrev Behind : List (Option Field) → Field → FieldName → Option FieldText → Type 0
Behind slots field name now = now ≡ slot_behind (spelling name) (field_text field) (slot_text (get_or slots (number name) None))

-- a fact of a name holds of the name that is found, and of the others
cases : (P : FieldName → Type 0) (found : FieldName) → P found → ((name : FieldName) → number name ≢ number found → P name) → (name : FieldName) → P name
cases P found at_found at_others name = by (eqb (number name) (number found)) refl
  where
    by : (b : Bool) → eqb (number name) (number found) ≡ b → P name
    by true e =
        subst P (sym (name_of-number found) ∙ ap name_of (sym (eqb-true (number name) (number found) e)) ∙ name_of-number name) at_found
    by false e = at_others name (eqb-false (number name) (number found) e)

no_slot : (slot : Option Field) (old : Option FieldText) → slot_text slot ≡ old → is_some slot ≡ false → old ≡ None
no_slot None old same h = sym same
no_slot (Some first) old same h = absurd (cc)

-- a field of a name that had none is kept
pub first_kept : (slots : List (Option Field)) (field : Field) (found : FieldName) (slot : Option Field) → number found < length slots → spells (field_text field).name found ≡ true
    → slot_text slot ≡ slot_text (get_or slots (number found) None) → is_some slot ≡ false
    → (name : FieldName) → Behind slots field name (slot_text (get_or (set slots (number found) (Some field)) (number name) None))
first_kept slots field found slot inside is_found same free =
    let text : FieldText = field_text field in
    let old : FieldName → Option FieldText = λ name. slot_text (get_or slots (number name) None) in
    cases (λ name. Behind slots field name (slot_text (get_or (set slots (number found) (Some field)) (number name) None))) found
    (ap slot_text (get_or-set_same slots (number found) (Some field) None inside)
    ∙ sym (ap (λ b. cond b (option_or (old found) (Some text)) (old found)) is_found ∙ ap (λ s. option_or s (Some text)) (no_slot slot (old found) same free)))
    (λ name other. ap slot_text (get_or-set_other slots (number found) (number name) (Some field) None other) ∙ sym (other_name text found name (old name) is_found other))

-- ---- a whole pass

-- what is found of a name behind all fields that are left
abbrev pub found_left : Option FieldText → FieldName → List FieldText → Option FieldText
found_left slot name fields = option_or slot (field_named (spelling name) fields)

pub found_step : (name : FieldName) (field : FieldText) (slot : Option FieldText) (rest : List FieldText)
    → found_left (slot_behind (spelling name) field slot) name rest ≡ found_left slot name (field ∷ rest)
found_step name field None rest =
    elim (str_eq_ignore_ascii_case field.name (spelling name)) as (λ b. option_or (cond b (Some field) None) (field_named (spelling name) rest) ≡ cond b (Some field) (field_named (spelling name) rest)) [
      | true ↦ refl
      | false ↦ refl
    ]
found_step name field (Some first) rest =
    elim (str_eq_ignore_ascii_case field.name (spelling name)) as (λ b. option_or (cond b (Some first) (Some first)) (field_named (spelling name) rest) ≡ Some first) [
      | true ↦ refl
      | false ↦ refl
    ]

slot_end : (slot : Option FieldText) → slot ≡ option_or slot None
slot_end None = refl
slot_end (Some first) = refl

-- what is true of each name is true of the list of all
pub each_found : (slots : Slots) (p : ParagraphText) → ((name : FieldName) → found_left (slot_of slots name) name [] ≡ field_in p (spelling name)) → found_text slots ≡ found_in p
each_found slots p h =
    let f : (name : FieldName) → slot_of slots name ≡ field_in p (spelling name) = λ name. slot_end (slot_of slots name) ∙ h name in
    λ i. f Package i ∷ f Status i ∷ f Version i ∷ f Architecture i ∷ f Essential i ∷ f PreDepends i ∷ f Depends i ∷ f Recommends i ∷ f Conflicts i ∷ f Breaks i ∷ f Provides i ∷ []

-- and the other way round
pub one_found : (slots : Slots) (p : ParagraphText) → found_text slots ≡ found_in p → (name : FieldName) → slot_of slots name ≡ field_in p (spelling name)
one_found slots p h Package = ap (λ xs. get_or xs 0 None) h
one_found slots p h Status = ap (λ xs. get_or xs 1 None) h
one_found slots p h Version = ap (λ xs. get_or xs 2 None) h
one_found slots p h Architecture = ap (λ xs. get_or xs 3 None) h
one_found slots p h Essential = ap (λ xs. get_or xs 4 None) h
one_found slots p h PreDepends = ap (λ xs. get_or xs 5 None) h
one_found slots p h Depends = ap (λ xs. get_or xs 6 None) h
one_found slots p h Recommends = ap (λ xs. get_or xs 7 None) h
one_found slots p h Conflicts = ap (λ xs. get_or xs 8 None) h
one_found slots p h Breaks = ap (λ xs. get_or xs 9 None) h
one_found slots p h Provides = ap (λ xs. get_or xs 10 None) h
