-- One number more at a name, in the row of a package or among other names.
use Rattle.std.proofs.Common.{◌≡◌, ℕ, ◌<◌, arith, List, [], ◌∷◌, ◌++◌, Bool, true, false, cond, Option, Some, None, refl, sym, ap, ◌∙◌, length, map, get_or, set, replicate, nat_eq, nat_lt, subst}
use Rattle.std.specs.List.{list_any, position}
use Rattle.std.proofs.lemmas.Bool.{eqb-true, eqb-false, false_from_ne_true}
use Rattle.std.proofs.lemmas.Cmp.{nat_list_eq_equiv}
use Rattle.std.proofs.lemmas.List.{append-nil, get_or-map, get_or-replicate, get_or-set_same, get_or-set_other, length-map, length-replicate, length-set, map-set}
use Rattle.std.proofs.lemmas.List.Quantifiers.{position-Some}
use Rattle.ascii.specs.Texts.{is_same}
use Rattle.meeting_index.specs.Rows.{AreRows, chosen, numbers_by, row_numbers}
use Rattle.meeting_index.specs.declared.rows.NumberRow.{NumberRow}
use Rattle.meeting_index.proofs.NamedRuns.{same-bytes}

same-swapped : (a b : List ℕ) (same : Bool) → is_same a b ≡ same → is_same b a ≡ same
same-swapped a b true e = ap (λ (x : List ℕ). is_same b x) (same-bytes a b e) ∙ nat_list_eq_equiv.refl b
same-swapped a b false e =
    false_from_ne_true (is_same b a) (λ other.
    let same : is_same a b ≡ true = ap (λ (x : List ℕ). is_same a x) (same-bytes b a other) ∙ nat_list_eq_equiv.refl a in
    let wrong : false ≡ true = sym e ∙ same in
    absurd (cc))

module _ (names numbers : List (List ℕ)) (long : length numbers ≡ length names) (bytes : List ℕ) (number : ℕ) where
  keep-set : (place : ℕ) (row others : List ℕ) (found : Option ℕ) → ((n : ℕ) → found ≡ Some n → n ≡ place → ⊥) → chosen (set numbers place row) others found ≡ chosen numbers others found ++ []
  keep-set place row others None apart = sym (append-nil others)
  keep-set place row others (Some n) apart = get_or-set_other numbers place n row [] (apart n refl) ∙ sym (append-nil (get_or numbers n []))

  -- a package's name
  row-more : (place : ℕ) → position (is_same bytes) names ≡ Some place → (others other : List ℕ) (same : Bool) → is_same other bytes ≡ same
      → chosen (set numbers place (get_or numbers place [] ++ number ∷ [])) others (position (is_same other) names) ≡ chosen numbers others (position (is_same other) names) ++ cond same (number ∷ []) []
  row-more place at others other true e =
      let found : position (is_same other) names ≡ Some place = ap (λ (name : List ℕ). position (is_same name) names) (same-bytes other bytes e) ∙ at in
      let less : place < length numbers = let h = (position-Some (is_same bytes) names place [] at).0 in omega (arith, h, long) in
      ap (chosen (set numbers place (get_or numbers place [] ++ number ∷ [])) others) found
      ∙ get_or-set_same numbers place (get_or numbers place [] ++ number ∷ []) [] less
      ∙ sym (ap (λ (p : Option ℕ). chosen numbers others p ++ number ∷ []) found)
  row-more place at others other false e =
      keep-set place (get_or numbers place [] ++ number ∷ []) others (position (is_same other) names) (λ n found same.
      let there : other ≡ get_or names n [] = same-bytes other (get_or names n []) (position-Some (is_same other) names n [] found).1 in
      let here : bytes ≡ get_or names place [] = same-bytes bytes (get_or names place []) (position-Some (is_same bytes) names place [] at).1 in
      let itself : is_same other bytes ≡ true = ap (λ (x : List ℕ). is_same other x) (here ∙ ap (λ (k : ℕ). get_or names k []) (sym same) ∙ sym there) ∙ nat_list_eq_equiv.refl other in
      let wrong : false ≡ true = sym e ∙ itself in
      absurd (cc))

  -- another name
  keep-row : (others more : List ℕ) (same : Bool) (found : Option ℕ) → more ≡ others ++ cond same (number ∷ []) [] → (same ≡ true → found ≡ None)
      → chosen numbers more found ≡ chosen numbers others found ++ cond same (number ∷ []) []
  keep-row others more same None is apart = is
  keep-row others more true (Some n) is apart = let wrong : Some n ≡ None = apart refl in absurd (cc)
  keep-row others more false (Some n) is apart = sym (append-nil (get_or numbers n []))

  other-more : position (is_same bytes) names ≡ None → (others more other : List ℕ) → more ≡ others ++ cond (is_same bytes other) (number ∷ []) []
      → chosen numbers more (position (is_same other) names) ≡ chosen numbers others (position (is_same other) names) ++ cond (is_same bytes other) (number ∷ []) []
  other-more none others more other is =
      keep-row others more (is_same bytes other) (position (is_same other) names) is
      (λ e. ap (λ (name : List ℕ). position (is_same name) names) (sym (same-bytes bytes other e)) ∙ none)

-- ---- the same, of rows

module _ (names : List (List ℕ)) (rows : List NumberRow) (are : AreRows names rows) (bytes : List ℕ) (number : ℕ) where
  long : length (map row_numbers rows) ≡ length names
  long = length-map rows row_numbers ∙ are.long

  -- a package's name
  pub numbers-more : (place : ℕ) (row : NumberRow) → position (is_same bytes) names ≡ Some place → row.numbers.items ≡ get_or (map row_numbers rows) place [] ++ number ∷ [] → (others other : List ℕ)
      → numbers_by names (set rows place row) others other ≡ numbers_by names rows others other ++ cond (is_same bytes other) (number ∷ []) []
  numbers-more place row at is others other =
      ap (λ (ns : List (List ℕ)). chosen ns others (position (is_same other) names)) (map-set row_numbers rows place row ∙ ap (set (map row_numbers rows) place) is)
      ∙ row-more names (map row_numbers rows) long bytes number place at others other (is_same other bytes) refl
      ∙ ap (λ same. numbers_by names rows others other ++ cond same (number ∷ []) []) (sym (same-swapped other bytes (is_same other bytes) refl))

  -- another name
  pub numbers-other : position (is_same bytes) names ≡ None → (others more other : List ℕ) → more ≡ others ++ cond (is_same bytes other) (number ∷ []) []
      → numbers_by names rows more other ≡ numbers_by names rows others other ++ cond (is_same bytes other) (number ∷ []) []
  numbers-other none others more other is = other-more names (map row_numbers rows) long bytes number none others more other is

  -- what its row has
  pub numbers-read : (place : ℕ) (d : NumberRow) → position (is_same bytes) names ≡ Some place → (get_or rows place d).numbers.items ≡ get_or (map row_numbers rows) place []
  numbers-read place d at =
      let less : place < length rows = let h = (position-Some (is_same bytes) names place [] at).0 in omega (arith, h, are.long) in
      sym (get_or-map row_numbers rows place d [] less)

  -- a row that has the name
  rows-set-bytes : (place : ℕ) (row : NumberRow) → position (is_same bytes) names ≡ Some place → row.bytes.now ≡ bytes
      → (n : ℕ) (d : NumberRow) (same : Bool) → nat_eq n place ≡ same → n < length (set rows place row) → nat_lt 0 (length (get_or (set rows place row) n d).numbers.items) ≡ true
      → (get_or (set rows place row) n d).bytes.now ≡ get_or names n []
  rows-set-bytes place row at is n d true e within some =
      let same : n ≡ place = eqb-true n place e in
      let less : place < length rows = let h = (position-Some (is_same bytes) names place [] at).0 in omega (arith, h, are.long) in
      ap (λ (k : ℕ). (get_or (set rows place row) k d).bytes.now) same
      ∙ ap (λ (r : NumberRow). r.bytes.now) (get_or-set_same rows place row d less)
      ∙ is
      ∙ same-bytes bytes (get_or names place []) (position-Some (is_same bytes) names place [] at).1
      ∙ ap (λ (k : ℕ). get_or names k []) (sym same)
  rows-set-bytes place row at is n d false e within some =
      let kept : get_or (set rows place row) n d ≡ get_or rows n d = get_or-set_other rows place n row d (eqb-false n place e) in
      ap (λ (r : NumberRow). r.bytes.now) kept
      ∙ are.bytes n d (subst (λ (k : ℕ). n < k) (length-set rows place row) within) (ap (λ (r : NumberRow). nat_lt 0 (length r.numbers.items)) (sym kept) ∙ some)

  pub rows-set : (place : ℕ) (row : NumberRow) → position (is_same bytes) names ≡ Some place → row.bytes.now ≡ bytes → AreRows names (set rows place row)
  rows-set place row at is = record {
    long = length-set rows place row ∙ are.long;
    bytes = λ n d within some. rows-set-bytes place row at is n d (nat_eq n place) refl within some;
  }

-- ---- rows without numbers

pub rows-empty : (names : List (List ℕ)) (rows : List NumberRow) → map row_numbers rows ≡ replicate (length names) [] → AreRows names rows
rows-empty names rows empty = record {
  long = long;
  bytes = λ n d within some.
      let none : (get_or rows n d).numbers.items ≡ [] =
      sym (get_or-map row_numbers rows n d [] within)
      ∙ ap (λ (ns : List (List ℕ)). get_or ns n []) empty
      ∙ get_or-replicate (length names) n [] [] (subst (λ (k : ℕ). n < k) long within) in
      let wrong : false ≡ true = sym (ap (λ (ns : List ℕ). nat_lt 0 (length ns)) none) ∙ some in
      absurd (cc);
}
  where
    long : length rows ≡ length names
    long =
        sym (length-map rows row_numbers)
        ∙ ap (λ (ns : List (List ℕ)). length ns) empty
        ∙ length-replicate (length names) []

none-chosen : (n : ℕ) (found : Option ℕ) → ((k : ℕ) → found ≡ Some k → k < n) → chosen (replicate n []) [] found ≡ []
none-chosen n None within = refl
none-chosen n (Some k) within = get_or-replicate n k [] [] (within k refl)

-- nothing stands at any name
pub numbers-none : (names : List (List ℕ)) (rows : List NumberRow) → map row_numbers rows ≡ replicate (length names) [] → (name : List ℕ) → numbers_by names rows [] name ≡ []
numbers-none names rows empty name =
    ap (λ (ns : List (List ℕ)). chosen ns [] (position (is_same name) names)) empty
    ∙ none-chosen (length names) (position (is_same name) names) (λ k found. (position-Some (is_same name) names k [] found).0)

-- ---- other names in order

pub any-chosen : (numbers : List (List ℕ)) (others more : List ℕ) (found : Option ℕ) (test : ℕ → Bool) → list_any test more ≡ list_any test others → list_any test (chosen numbers more found) ≡ list_any test (chosen numbers others found)
any-chosen numbers others more None test same = same
any-chosen numbers others more (Some n) test same = refl
