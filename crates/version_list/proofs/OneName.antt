-- The rows of names, of which one changes.
use Rattle.std.proofs.Common.{◌≡◌, ℕ, suc, ◌+◌, ◌<◌, ◌≤◌, List, [], ◌∷◌, ◌++◌, Bool, true, false, not, cond, ◌&&◌, ◌||◌, if◌then◌else◌, map, length, nat_lt, get_or, set, refl, sym, ap, ◌∙◌, arith}
use Rattle.std.proofs.lemmas.Bool.Decides.{nat_tests}
use Rattle.std.proofs.lemmas.Cmp.{nat_list_eq_equiv}
use Rattle.std.proofs.lemmas.List.{append-nil, map-set, map_push, get_or-map, length_push, length-map}
use Rattle.std.specs.List.{filter, list_any, list_all, position_or_len}
use Rattle.std.proofs.lemmas.Bool.{or_parts, or_from, not-true, and_from}
use Rattle.lists.proofs.Tests.{list_any-place}
use Rattle.lists.proofs.Truth.{and_first, and_second}
use Rattle.lists.specs.Distinct.{distinct}
use Rattle.ascii.specs.Texts.{is_same}
use Rattle.universe_model.specs.Reading.{ReadStanza, Stanzas, all_of}
use Rattle.universe_model.specs.Versions.{name_of, names}
use Rattle.universe_parts.specs.Names.{with_name}
use Rattle.universe_parts.proofs.Distinct.{with_name-distinct}
use Rattle.version_list.specs.declared.rows.Row.{Row}
use Rattle.version_list.specs.Rows.{RowText, row_of, rows_of, row_read, empty_row, with_named_row, AreRows}
use Rattle.version_list.proofs.OneStanza.{Changes, row-missing}
use Rattle.version_list.proofs.Tops.{position-skip, position-here}

-- ---- no name stands twice

abbrev pub is_apart : List (List ℕ) → Bool
is_apart [] = true
is_apart (n ∷ ns) = not (list_any (is_same n) ns) && is_apart ns

any-cases : (p : List ℕ → Bool) (n : List ℕ) (ns : List (List ℕ)) (t : Bool) → p n ≡ false → list_any p ns ≡ false → list_any p (cond t (n ∷ ns) ns) ≡ false
any-cases p n ns true here rest = or_from (p n) (list_any p ns) here rest
any-cases p n ns false here rest = rest

any-filter : (p k : List ℕ → Bool) (ns : List (List ℕ)) → list_any p ns ≡ false → list_any p (filter k ns) ≡ false
any-filter p k [] e = refl
any-filter p k (n ∷ ns) e = any-cases p n (filter k ns) (k n) (or_parts (p n) (list_any p ns) e).0 (any-filter p k ns (or_parts (p n) (list_any p ns) e).1)

kept-cases : (p : List ℕ → Bool) (n : List ℕ) (ns : List (List ℕ)) (t : Bool) → p n ≡ t → list_any p ns ≡ false → list_any p (cond (not t) (n ∷ ns) ns) ≡ false
kept-cases p n ns true e rest = rest
kept-cases p n ns false e rest = or_from (p n) (list_any p ns) e rest

none-kept : (p : List ℕ → Bool) (ns : List (List ℕ)) → list_any p (filter (λ n. not (p n)) ns) ≡ false
none-kept p [] = refl
none-kept p (n ∷ ns) = kept-cases p n (filter (λ m. not (p m)) ns) (p n) refl (none-kept p ns)

apart-cases : (k : List ℕ → Bool) (n : List ℕ) (ns : List (List ℕ)) (t : Bool) → list_any (is_same n) ns ≡ false → is_apart (filter k ns) ≡ true
    → is_apart (cond t (n ∷ filter k ns) (filter k ns)) ≡ true
apart-cases k n ns true alone rest = and_from (not (list_any (is_same n) (filter k ns))) (is_apart (filter k ns)) (ap not (any-filter (is_same n) k ns alone)) rest
apart-cases k n ns false alone rest = rest

apart-filter : (k : List ℕ → Bool) (ns : List (List ℕ)) → is_apart ns ≡ true → is_apart (filter k ns) ≡ true
apart-filter k [] e = refl
apart-filter k (n ∷ ns) e =
    apart-cases k n ns (k n) (not-true (list_any (is_same n) ns) (and_first (not (list_any (is_same n) ns)) (is_apart ns) e))
    (apart-filter k ns (and_second (not (list_any (is_same n) ns)) (is_apart ns) e))

distinct-apart : (ns : List (List ℕ)) → is_apart (distinct is_same ns) ≡ true
distinct-apart [] = refl
distinct-apart (n ∷ ns) =
    let rest : List (List ℕ) = filter (λ m. not (is_same n m)) (distinct is_same ns) in
    and_from (not (list_any (is_same n) rest)) (is_apart rest) (ap not (none-kept (is_same n) (distinct is_same ns)))
    (apart-filter (λ m. not (is_same n m)) (distinct is_same ns) (distinct-apart ns))

-- ---- what one name's row becomes

module _ (f g : List ℕ → RowText) (change : RowText → RowText) (name : List ℕ)
    (changes : (other : List ℕ) → g other ≡ cond (is_same name other) (change (f other)) (f other)) where
  others-cases : (n : List ℕ) (ns : List (List ℕ)) → is_same name n ≡ false → map g ns ≡ map f ns → map g (n ∷ ns) ≡ map f (n ∷ ns)
  others-cases n ns e rest = ap (λ row. row ∷ map g ns) (changes n ∙ ap (λ t. cond t (change (f n)) (f n)) e) ∙ ap (λ rows. f n ∷ rows) rest

  others-stay : (ns : List (List ℕ)) → list_any (is_same name) ns ≡ false → map g ns ≡ map f ns
  others-stay [] e = refl
  others-stay (n ∷ ns) e =
      others-cases n ns (or_parts (is_same name n) (list_any (is_same name) ns) e).0 (others-stay ns (or_parts (is_same name n) (list_any (is_same name) ns) e).1)

  alone : (n : List ℕ) (ns : List (List ℕ)) → is_same name n ≡ true → list_any (is_same n) ns ≡ false → list_any (is_same name) ns ≡ false
  alone n [] e h = refl
  alone n (m ∷ ms) e h =
      or_from (is_same name m) (list_any (is_same name) ms) (nat_list_eq_equiv.congr name n m e ∙ (or_parts (is_same n m) (list_any (is_same n) ms) h).0)
      (alone n ms e (or_parts (is_same n m) (list_any (is_same n) ms) h).1)

  one-cases : (n : List ℕ) (ns : List (List ℕ)) (t : Bool) (j : ℕ) (d : RowText) → is_same name n ≡ t → j ≡ position_or_len (is_same name) ns
      → list_any (is_same n) ns ≡ false
      → (j < length ns → map g ns ≡ set (map f ns) j (change (get_or (map f ns) j d)))
      → cond (not t) (1 + j) 0 < suc (length ns)
      → map g (n ∷ ns) ≡ set (map f (n ∷ ns)) (cond (not t) (1 + j) 0) (change (get_or (map f (n ∷ ns)) (cond (not t) (1 + j) 0) d))
  one-cases n ns true j d e is_j single rest h =
      ap (λ row. row ∷ map g ns) (changes n ∙ ap (λ t. cond t (change (f n)) (f n)) e)
      ∙ ap (λ rows. change (f n) ∷ rows) (others-stay ns (alone n ns e single))
  one-cases n ns false j d e is_j single rest h =
      let next : 1 + j ≡ suc j = omega arith in
      ap (λ row. row ∷ map g ns) (changes n ∙ ap (λ t. cond t (change (f n)) (f n)) e)
      ∙ ap (λ rows. f n ∷ rows) (rest (omega arith))
      ∙ ap (λ k. set (f n ∷ map f ns) k (change (get_or (f n ∷ map f ns) k d))) (sym next)

  one-changes : (ns : List (List ℕ)) (d : RowText) → is_apart ns ≡ true → position_or_len (is_same name) ns < length ns
      → map g ns ≡ set (map f ns) (position_or_len (is_same name) ns) (change (get_or (map f ns) (position_or_len (is_same name) ns) d))
  one-changes [] d e h = absurd (omega arith)
  one-changes (n ∷ ns) d e h =
      one-cases n ns (is_same name n) (position_or_len (is_same name) ns) d refl refl
      (not-true (list_any (is_same n) ns) (and_first (not (list_any (is_same n) ns)) (is_apart ns) e))
      (λ inside. one-changes ns d (and_second (not (list_any (is_same n) ns)) (is_apart ns) e) inside)
      h

-- ---- places of names

all-missing : (name : List ℕ) (ns : List (List ℕ)) → list_any (is_same name) ns ≡ false → list_all (λ n. not (is_same name n)) ns ≡ true
all-missing name [] e = refl
all-missing name (n ∷ ns) e =
    and_from (not (is_same name n)) (list_all (λ m. not (is_same name m)) ns) (ap not (or_parts (is_same name n) (list_any (is_same name) ns) e).0)
    (all-missing name ns (or_parts (is_same name n) (list_any (is_same name) ns) e).1)

place-missing : (name : List ℕ) (ns : List (List ℕ)) → list_any (is_same name) ns ≡ false → position_or_len (is_same name) ns ≡ length ns
place-missing name ns e =
    ap (position_or_len (is_same name)) (sym (append-nil ns)) ∙ position-skip (is_same name) ns [] (all-missing name ns e) ∙ omega arith

place-named : (name : List ℕ) (ns : List (List ℕ)) (t : Bool) → list_any (is_same name) ns ≡ t
    → position_or_len (is_same name) (if t then ns else ns ++ name ∷ []) ≡ position_or_len (is_same name) ns
place-named name ns true e = refl
place-named name ns false e =
    position-skip (is_same name) ns (name ∷ []) (all-missing name ns e)
    ∙ ap (λ n. length ns + n) (position-here (is_same name) name [] (nat_list_eq_equiv.refl name))
    ∙ (let long : length ns + 0 ≡ length ns = omega arith in long) ∙ sym (place-missing name ns e)

rows-named : (f : List ℕ → RowText) (name : List ℕ) (ns : List (List ℕ)) (t : Bool) → list_any (is_same name) ns ≡ t
    → (list_any (is_same name) ns ≡ false → f name ≡ empty_row name)
    → (if t then map f ns else map f ns ++ empty_row name ∷ []) ≡ map f (if t then ns else ns ++ name ∷ [])
rows-named f name ns true e new' = refl
rows-named f name ns false e new' = ap (λ row. map f ns ++ row ∷ []) (sym (new' e)) ∙ sym (map_push f ns name)

-- ---- a stanza is filed

names-more : (old new' : Stanzas) (read : ReadStanza) → all_of new' ≡ all_of old ++ read ∷ [] → with_name (names old) (name_of read) ≡ names new'
names-more old new' read more =
    with_name-distinct (map name_of (all_of old)) (name_of read)
    ∙ ap (distinct is_same) (sym (map_push name_of (all_of old) read) ∙ ap (map name_of) (sym more))

pub named-more : (old new' : Stanzas) (read : ReadStanza) (ns : List (List ℕ)) → ns ≡ names old → all_of new' ≡ all_of old ++ read ∷ []
    → with_name ns (name_of read) ≡ names new'
named-more old new' read ns e more = ap (λ (these : List (List ℕ)). with_name these (name_of read)) e ∙ names-more old new' read more

pub filed : (old new' : Stanzas) (read : ReadStanza) (change : RowText → RowText) → Changes old new' (name_of read) change
    → all_of new' ≡ all_of old ++ read ∷ []
    → (rows : List Row) (place : ℕ) (row changed : Row)
    → map row_read rows ≡ with_named_row (names old) (rows_of old) (name_of read)
    → place ≡ position_or_len (is_same (name_of read)) (names old) → place < length rows
    → row ≡ get_or rows place row → row_read changed ≡ change (row_read row)
    → map row_read (set rows place changed) ≡ rows_of new'
filed old new' read change changes more rows place row changed are is_place inside is_row is_changed =
    let name : List ℕ = name_of read in
    let ns : List (List ℕ) = with_name (names old) name in
    let t : Bool = list_any (is_same name) (names old) in
    let are_named : map row_read rows ≡ map (row_of old) ns =
    are ∙ rows-named (row_of old) name (names old) t refl (row-missing old name) in
    let place_is : place ≡ position_or_len (is_same name) ns = is_place ∙ sym (place-named name (names old) t refl) in
    let apart : is_apart ns ≡ true = ap is_apart (names-more old new' read more) ∙ distinct-apart (map name_of (all_of new')) in
    let long : length rows ≡ length ns = sym (length-map rows row_read) ∙ ap length are_named ∙ length-map ns (row_of old) in
    let here : row_read row ≡ get_or (map (row_of old) ns) place (row_read row) =
    ap row_read is_row ∙ sym (get_or-map row_read rows place row (row_read row) inside) ∙ ap (λ (list : List RowText). get_or list place (row_read row)) are_named in
    map-set row_read rows place changed
    ∙ ap (λ (list : List RowText). set list place (row_read changed)) are_named
    ∙ ap (set (map (row_of old) ns) place) (is_changed ∙ ap change here)
    ∙ ap (λ k. set (map (row_of old) ns) k (change (get_or (map (row_of old) ns) k (row_read row)))) place_is
    ∙ sym (one-changes (row_of old) (row_of new') change name changes ns (row_read row) apart (omega arith))
    ∙ ap (map (row_of new')) (names-more old new' read more)

-- ---- whether a name has a row

within-cases : (t : Bool) (n m : ℕ) → n ≤ m → cond (not t) (1 + n) 0 ≤ suc m
within-cases true n m h = omega arith
within-cases false n m h = omega arith

place-within : {A : Type 0} (p : A → Bool) (xs : List A) → position_or_len p xs ≤ length xs
place-within p [] = omega arith
place-within p (x ∷ xs) = within-cases (p x) (position_or_len p xs) (length xs) (place-within p xs)

pub within-apart : (name : List ℕ) (ns : List (List ℕ)) (place long : ℕ) → place ≡ position_or_len (is_same name) ns → long ≡ length ns → (place ≡ long → ⊥) → place < long
within-apart name ns place long e h apart = let le = place-within (is_same name) ns in omega arith

named-cases : (name : List ℕ) (ns : List (List ℕ)) (rows : List RowText) (t : Bool) → list_any (is_same name) ns ≡ t
    → (if t then rows else rows ++ empty_row name ∷ []) ≡ with_named_row ns rows name
named-cases name ns rows t e = ap (λ b. if b then rows else rows ++ empty_row name ∷ []) (sym e)

pub named-there : (name : List ℕ) (ns : List (List ℕ)) (rows : List RowText) → position_or_len (is_same name) ns < length ns → rows ≡ with_named_row ns rows name
named-there name ns rows h = named-cases name ns rows true (list_any-place (is_same name) ns ∙ grind (arith, nat_tests))

pub named-missing : (name : List ℕ) (ns : List (List ℕ)) (rows : List RowText) → position_or_len (is_same name) ns ≡ length ns
    → rows ++ empty_row name ∷ [] ≡ with_named_row ns rows name
named-missing name ns rows h = named-cases name ns rows false (list_any-place (is_same name) ns ∙ grind (arith, nat_tests))

abbrev pub place-of : ReadStanza → List (List ℕ) → ℕ
place-of read ns = position_or_len (is_same (name_of read)) ns

pub rows-found : (old : Stanzas) (ns : List (List ℕ)) (rows : List Row) (read : ReadStanza) → AreRows old ns rows
    → (found : List Row) → map row_read found ≡ with_named_row ns (map row_read rows) (name_of read)
    → map row_read found ≡ with_named_row (names old) (rows_of old) (name_of read)
rows-found old ns rows read are found e =
    e
    ∙ ap (λ (these : List (List ℕ)). with_named_row these (map row_read rows) (name_of read)) are.named
    ∙ ap (λ (these : List RowText). with_named_row (names old) these (name_of read)) are.kept

sizes-cases : (ns : List (List ℕ)) (rows : List RowText) (name : List ℕ) (t : Bool) → length rows ≡ length ns
    → length (if t then rows else rows ++ empty_row name ∷ []) ≡ length (if t then ns else ns ++ name ∷ [])
sizes-cases ns rows name true e = e
sizes-cases ns rows name false e = length_push rows (empty_row name) ∙ ap (λ n. n + 1) e ∙ sym (length_push ns name)

pub sizes-named : (ns : List (List ℕ)) (rows : List RowText) (name : List ℕ) → length rows ≡ length ns
    → (found : List Row) (named : List (List ℕ)) → map row_read found ≡ with_named_row ns rows name → named ≡ with_name ns name → length found ≡ length named
sizes-named ns rows name e found named is_found is_named =
    sym (length-map found row_read) ∙ ap length is_found ∙ sizes-cases ns rows name (list_any (is_same name) ns) e ∙ ap length (sym is_named)
