-- Where the versions of one package stand among all versions.
use Rattle.std.proofs.Common.{◌≡◌, ℕ, suc, ◌+◌, List, [], ◌∷◌, ◌++◌, Bool, true, false, not, cond, ◌&&◌, ◌||◌, ◌==◌, if◌then◌else◌, Some, None, map, length, nat_lt, refl, sym, ap, ◌∙◌, arith, length-append}
use Rattle.std.proofs.lemmas.Bool.Decides.{nat_tests}
use Rattle.std.proofs.lemmas.Cmp.{nat_eq_equiv}
use Rattle.std.proofs.lemmas.List.{length-map, append-nil}
use Rattle.std.proofs.lemmas.List.Folds.{list_any-append}
use Rattle.std.specs.List.{list_any, list_all, position_or_len}
use Rattle.std.specs.Option.{unwrap_or}
use Rattle.std.proofs.Math.Bool.{and-false, or-false}
use Rattle.std.proofs.lemmas.Bool.{and_left, not-true}
use Rattle.lists.proofs.Tests.{list_any-alike, list_all_weaker}
use Rattle.deb_version.specs.Versions.{parts}
use Rattle.universe_model.specs.Reading.{ReadStanza}
use Rattle.universe_model.specs.Versions.{Version, version_of, release_of, version_text, is_of, is_greatest, is_later_than, is_version_of, absent_of, candidate_of, is_equal}
use Rattle.version_list.specs.Rows.{RowText, row_versions, is_later_version, is_top, candidate_place, behind_absent}
use Rattle.version_list.proofs.OneStanza.{same_version-equivalence}
use Rattle.version_list.proofs.Tops.{position-skip, position-here, list_any-nowhere}

-- none of the versions is of the package
abbrev pub has_none : ℕ → List Version → Bool
has_none q vs = list_all (λ v. not (is_of q v)) vs

and-passes : (a b : Bool) → a ≡ true → (a && b) ≡ b
and-passes true b e = refl
and-passes false b e = absurd (cc)

-- a test on versions of the package fails where none is
none-passes : (q : ℕ) (p : Version → Bool) (vs : List Version) → has_none q vs ≡ true → list_all (λ v. not (is_of q v && p v)) vs ≡ true
none-passes q p vs h =
    list_all_weaker (λ v. not (is_of q v)) (λ v. not (is_of q v && p v)) (λ v e. ap not (and_left (is_of q v) (p v) (not-true (is_of q v) e))) vs h

list_any-map : {A B : Type 0} (f : A → B) (p : B → Bool) (xs : List A) → list_any p (map f xs) ≡ list_any (λ x. p (f x)) xs
list_any-map f p [] = refl
list_any-map f p (x ∷ xs) = ap (λ b. p (f x) || b) (list_any-map f p xs)

zero-less : (n : ℕ) → nat_lt 0 (suc n) ≡ true
zero-less n = grind (arith, nat_tests)

-- the place in the front part, or else past all
front-cases : {A B : Type 0} (p : B → Bool) (f : A → B) (t : A → Bool) (x : A) (xs : List A) (rest : List B) (b : Bool) → t x ≡ b → p (f x) ≡ b
    → position_or_len p (map f xs ++ rest) ≡ (if nat_lt (position_or_len t xs) (length xs) then position_or_len t xs else length xs + length rest)
    → cond (not (p (f x))) (1 + position_or_len p (map f xs ++ rest)) 0
    ≡ (if nat_lt (cond (not (t x)) (1 + position_or_len t xs) 0) (suc (length xs)) then cond (not (t x)) (1 + position_or_len t xs) 0 else suc (length xs) + length rest)
front-cases p f t x xs rest true e h k =
    ap (λ b. cond (not b) (1 + position_or_len p (map f xs ++ rest)) 0) h
    ∙ sym (ap (λ b. if b then 0 else suc (length xs) + length rest) (zero-less (length xs)))
    ∙ ap (λ b. if nat_lt (cond (not b) (1 + position_or_len t xs) 0) (suc (length xs)) then cond (not b) (1 + position_or_len t xs) 0 else suc (length xs) + length rest) (sym e)
front-cases p f t x xs rest false e h k =
    ap (λ b. cond (not b) (1 + position_or_len p (map f xs ++ rest)) 0) h
    ∙ ap (λ n. 1 + n) k
    ∙ shifted (position_or_len t xs) (length xs) (length rest)
    ∙ ap (λ b. if nat_lt (cond (not b) (1 + position_or_len t xs) 0) (suc (length xs)) then cond (not b) (1 + position_or_len t xs) 0 else suc (length xs) + length rest) (sym e)
  where
    shifted : (j n m : ℕ) → 1 + (if nat_lt j n then j else n + m) ≡ (if nat_lt (1 + j) (suc n) then 1 + j else suc n + m)
    shifted j n m = grind (arith, nat_tests)

position-front : {A B : Type 0} (p : B → Bool) (f : A → B) (t : A → Bool) → ((x : A) → p (f x) ≡ t x) → (xs : List A) (rest : List B)
    → list_all (λ y. not (p y)) rest ≡ true
    → position_or_len p (map f xs ++ rest) ≡ (if nat_lt (position_or_len t xs) (length xs) then position_or_len t xs else length xs + length rest)
position-front p f t alike [] rest h = past-all p rest h
  where
    past-all : {B : Type 0} (p : B → Bool) (rest : List B) → list_all (λ y. not (p y)) rest ≡ true → position_or_len p rest ≡ 0 + length rest
    past-all p rest h = ap (position_or_len p) (sym (append-nil rest)) ∙ position-skip p rest [] h ∙ omega arith
position-front p f t alike (x ∷ xs) rest h =
    front-cases p f t x xs rest (t x) refl (alike x) (position-front p f t alike xs rest h)

-- ---- the versions of one package, between those of others

abbrev pub block_version : ℕ → RowText → ReadStanza → Version
block_version q row read = version_of q row.name (Some (release_of read))

abbrev pub among : List Version → ℕ → RowText → List Version → List Version
among front q row rest = front ++ (row_versions q row ++ rest)

head-fails : {A : Type 0} (p : A → Bool) (x : A) (xs : List A) → p x ≡ false → position_or_len p (x ∷ xs) ≡ 1 + position_or_len p xs
head-fails p x xs e = ap (λ b. cond (not b) (1 + position_or_len p xs) 0) e

module _ (q : ℕ) (row : RowText) (front rest : List Version) (before : has_none q front ≡ true) (behind : has_none q rest ≡ true) where
  vs : List Version
  vs = among front q row rest

  itself : (q == q) ≡ true
  itself = nat_eq_equiv.refl q

  absent-place : absent_of vs q ≡ length front
  unfolding vs
  absent-place =
      let absent : Version = version_of q row.name None in
      position-skip (is_of q) front (row_versions q row ++ rest) before
      ∙ ap (λ n. length front + n) (position-here (is_of q) absent (map (block_version q row) row.releases ++ rest) itself)
      ∙ omega arith

  -- a test on the package's versions, which absent does not pass
  module _ (p : Version → Bool) (t : ReadStanza → Bool) (absent-fails : p (version_of q row.name None) ≡ false)
      (alike : (read : ReadStanza) → p (block_version q row read) ≡ t read) where
    own : Version → Bool
    own v = is_of q v && p v

    own-place : position_or_len own vs
        ≡ length front + (1 + (if nat_lt (position_or_len t row.releases) (length row.releases) then position_or_len t row.releases else length row.releases + length rest))
    unfolding vs own
    own-place =
        let absent : Version = version_of q row.name None in
        position-skip own front (row_versions q row ++ rest) (none-passes q p front before)
        ∙ ap (λ n. length front + n)
        (head-fails own absent (map (block_version q row) row.releases ++ rest) (ap (λ b. is_of q absent && b) absent-fails ∙ and-false (is_of q absent))
        ∙ ap (λ n. 1 + n) (position-front own (block_version q row) t (λ read. and-passes (q == q) (p (block_version q row read)) itself ∙ alike read)
        row.releases rest (none-passes q p rest behind)))

    own-any : list_any own vs ≡ list_any t row.releases
    unfolding vs own
    own-any =
        let absent : Version = version_of q row.name None in
        let reads : List Version = map (block_version q row) row.releases in
        list_any-append own front (row_versions q row ++ rest)
        ∙ ap (λ b. b || list_any own (row_versions q row ++ rest)) (list_any-nowhere own front (none-passes q p front before))
        ∙ ap (λ b. b || list_any own (reads ++ rest)) (ap (λ b. is_of q absent && b) absent-fails ∙ and-false (is_of q absent))
        ∙ list_any-append own reads rest
        ∙ ap (λ b. list_any own reads || b) (list_any-nowhere own rest (none-passes q p rest behind))
        ∙ or-false (list_any own reads)
        ∙ list_any-map (block_version q row) own row.releases
        ∙ list_any-alike (λ read. own (block_version q row read)) t
        (λ read. and-passes (q == q) (p (block_version q row read)) itself ∙ alike read) row.releases

  greatest-is : (read : ReadStanza) → is_greatest vs (block_version q row read) ≡ is_top row.releases read
  unfolding own
  greatest-is read =
      ap not (own-any (is_later_than (release_of read)) (λ other. is_later_version other read) refl (λ other. refl))

  long : length vs ≡ length front + (1 + (length row.releases + length rest))
  unfolding vs
  long =
      length-append front (row_versions q row ++ rest)
      ∙ ap (λ n. length front + n) (shift ∙ ap (λ n. 1 + n) (length-append (map (block_version q row) row.releases) rest
      ∙ ap (λ n. n + length rest) (length-map row.releases (block_version q row))))
    where
      shift : suc (length (map (block_version q row) row.releases ++ rest)) ≡ 1 + length (map (block_version q row) row.releases ++ rest)
      shift = omega arith

  numbers : (place size front' absent j n m : ℕ) (t : Bool) → nat_lt j n ≡ t → place ≡ front' + (1 + (if nat_lt j n then j else n + m)) → size ≡ front' + (1 + (n + m)) → absent ≡ front'
      → unwrap_or (cond (nat_lt place size) (Some place) None) absent ≡ front' + behind_absent j n
  numbers place size front' absent j n m true e is_place is_size is_absent =
      let at : place ≡ front' + (1 + j) = is_place ∙ ap (λ b. front' + (1 + (if b then j else n + m))) e in
      let there : nat_lt place size ≡ true = grind (arith, nat_tests) in
      ap (λ b. unwrap_or (cond b (Some place) None) absent) there ∙ at ∙ ap (λ b. front' + (if b then 1 + j else 0)) (sym e)
  numbers place size front' absent j n m false e is_place is_size is_absent =
      let at : place ≡ front' + (1 + (n + m)) = is_place ∙ ap (λ b. front' + (1 + (if b then j else n + m))) e in
      let nowhere : nat_lt place size ≡ false = grind (arith, nat_tests) in
      ap (λ b. unwrap_or (cond b (Some place) None) absent) nowhere
      ∙ is_absent ∙ (let plain : front' ≡ front' + 0 = omega arith in plain) ∙ ap (λ b. front' + (if b then 1 + j else 0)) (sym e)

  pub candidate-block : candidate_of (among front q row rest) q ≡ length front + candidate_place row.releases
  unfolding vs own
  candidate-block =
      numbers (position_or_len (λ v. is_of q v && is_greatest vs v) vs) (length vs) (length front) (absent_of vs q)
      (position_or_len (is_top row.releases) row.releases) (length row.releases) (length rest)
      (nat_lt (position_or_len (is_top row.releases) row.releases) (length row.releases)) refl
      (own-place (is_greatest vs) (is_top row.releases) refl greatest-is) long absent-place

  pub absent-block : absent_of (among front q row rest) q ≡ length front
  unfolding vs
  absent-block = absent-place

  -- the first of its versions that are read is found by its text
  pub first-block : (read : ReadStanza) (reads : List ReadStanza) → row.releases ≡ read ∷ reads
      → position_or_len (λ v. is_of q v && is_version_of (parts (version_text read)) v) (among front q row rest) ≡ length front + 1
  unfolding vs own
  first-block read reads e =
      let t : ReadStanza → Bool = λ other. is_equal (parts (version_text other)) (parts (version_text read)) in
      own-place (is_version_of (parts (version_text read))) t refl (λ other. refl)
      ∙ ap (λ (rs : List ReadStanza). length front + (1 + (if nat_lt (position_or_len t rs) (length rs) then position_or_len t rs else length rs + length rest))) e
      ∙ ap (λ n. length front + (1 + (if nat_lt n (suc (length reads)) then n else suc (length reads) + length rest)))
      (position-here t read reads (same_version-equivalence.refl read))
      ∙ ap (λ b. length front + (1 + (if b then 0 else suc (length reads) + length rest))) (zero-less (length reads))
