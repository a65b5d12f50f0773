-- A name that has no number gets one: in its slot, or among the others where that is taken.
use Rattle.std.proofs.Common.{◌≡◌, inl, inr, ℕ, ◌+◌, ◌-◌, ◌<◌, arith, List, [], ◌∷◌, ◌++◌, Bool, true, false, cond, Option, Some, None, refl, sym, ap, ◌∙◌, length, get_or, set, replicate, nat_eq}
use Rattle.std.specs.Global.{Vec}
use Rattle.std.specs.BTreeMap.{insert_entry}
use Rattle.std.specs.List.{position}
use Rattle.std.specs.Map.{lookup}
use Rattle.std.proofs.lemmas.Bool.{cases_lt, eqb-true, eqb-false, false_from_ne_true, ne_eqb}
use Rattle.std.proofs.lemmas.Bool.Decides.{nat_tests}
use Rattle.std.proofs.lemmas.Cmp.{nat_list_eq_equiv}
use Rattle.std.proofs.lemmas.Grind.{get_or_default_zero}
use Rattle.std.proofs.lemmas.List.{get_or-replicate, get_or-set_same, get_or-set_other, get_or_past, get_or_push, get_or_append_left, length-replicate, length_push}
use Rattle.ascii.specs.Texts.{is_same}
use Rattle.universe_parts.specs.Hashes.{share_of}
use Rattle.universe_parts.specs.Names.{AreNumbered, first_in, is_key, number_from, number_in, slot_at}
use Rattle.universe_parts.proofs.Numbering.{apart-cases, key_order, lookup-insert, position-push, same-bytes}

-- ---- names with one more

-- a number of one of the names means the same when there is one more
from-longer : (names : List (List ℕ)) (new : List ℕ) (others : List (Vec ℕ × ℕ)) (name : List ℕ) (first : Option ℕ)
    → ((n : ℕ) → first ≡ Some n → n < length names) → number_from (names ++ new ∷ []) others name first ≡ number_from names others name first
from-longer names new others name None within = refl
from-longer names new others name (Some n) within =
    ap (λ (other : List ℕ). cond (is_same name other) (Some n) (lookup (is_key name) others)) (get_or_append_left names (new ∷ []) [] n (within n refl))

less-more : (names : List (List ℕ)) (new : List ℕ) (n : ℕ) → n < length names → n < length (names ++ new ∷ [])
less-more names new n h = let e = length_push names new in omega arith

-- another name than the added one is found where it was
push-apart : (names : List (List ℕ)) (name new : List ℕ) → position (is_same new) names ≡ None → is_same name new ≡ false → position (is_same name) (names ++ new ∷ []) ≡ position (is_same name) names
push-apart names name new none apart = position-push name new names none ∙ ap (λ b. cond b (Some (length names)) (position (is_same name) names)) apart

same-none : (names : List (List ℕ)) (name new : List ℕ) → position (is_same new) names ≡ None → is_same name new ≡ true → position (is_same name) names ≡ None
same-none names name new none e = ap (λ (bytes : List ℕ). position (is_same bytes) names) (same-bytes name new e) ∙ none

-- what is found of a name is where it stands
apart-more : (names : List (List ℕ)) (name new : List ℕ) (n : ℕ) (same : Bool) → position (is_same new) names ≡ None → is_same name new ≡ same
    → position (is_same name) names ≡ Some n → position (is_same name) (names ++ new ∷ []) ≡ Some n
apart-more names name new n true none e there = let wrong : None ≡ Some n = sym (same-none names name new none e) ∙ there in absurd (cc)
apart-more names name new n false none e there = push-apart names name new none e ∙ there

-- each name of the list stands there once, also when there is one more
own-cases : (names : List (List ℕ)) (new : List ℕ) → position (is_same new) names ≡ None → ((n : ℕ) → n < length names → position (is_same (get_or names n [])) names ≡ Some n)
    → (n : ℕ) (b : Bool) → nat_eq n (length names) ≡ b → n < length (names ++ new ∷ []) → position (is_same (get_or (names ++ new ∷ []) n [])) (names ++ new ∷ []) ≡ Some n
own-cases names new none own n true e within =
    let last : n ≡ length names = eqb-true n (length names) e in
    ap (λ (bytes : List ℕ). position (is_same bytes) (names ++ new ∷ [])) (get_or_push names new [] n (sym last))
    ∙ position-push new new names none
    ∙ ap (λ b. cond b (Some (length names)) (position (is_same new) names)) (nat_list_eq_equiv.refl new)
    ∙ ap (λ (k : ℕ). Some k) (sym last)
own-cases names new none own n false e within =
    let apart = eqb-false n (length names) e in
    let long = length_push names new in
    let less : n < length names = omega arith in
    let name = get_or names n [] in
    ap (λ (bytes : List ℕ). position (is_same bytes) (names ++ new ∷ [])) (get_or_append_left names (new ∷ []) [] n less)
    ∙ apart-more names name new n (is_same name new) none refl (own n less)

found-none : (found there : Option ℕ) → None ≡ there → ((n : ℕ) → found ≡ Some n → there ≡ Some n) → found ≡ there
found-none None there none apart = none
found-none (Some n) there none apart = sym (apart n refl)

-- ---- in a free slot

same-some : (a b : ℕ) → Some a ≡ Some b → a ≡ b
same-some a b e = cc

first_in-next : (n : ℕ) → first_in (n + 1) ≡ Some n
first_in-next n =
    let some : nat_eq (n + 1) 0 ≡ false = grind (arith, nat_tests) in
    let back : (n + 1) - 1 ≡ n = omega arith in
    ap (λ b. cond b None (Some ((n + 1) - 1))) some ∙ ap (λ (m : ℕ). Some m) back

pub taken : (slot : ℕ) → (slot ≡ 0 → ⊥) → first_in slot ≡ None → ⊥
taken slot some none =
    let is : nat_eq slot 0 ≡ false = ne_eqb slot 0 some in
    let wrong : Some (slot - 1) ≡ None = sym (ap (λ b. cond b None (Some (slot - 1))) is) ∙ none in
    absurd (cc)

-- what is read in a slot that was written, and in another one
written : (slots : List ℕ) (name new : List ℕ) (slot : ℕ) → share_of name ≡ share_of new → share_of new < length slots → slot_at (set slots (share_of new) slot) name ≡ slot
written slots name new slot same room = ap (λ (k : ℕ). get_or (set slots (share_of new) slot) k 0) same ∙ get_or-set_same slots (share_of new) slot 0 room

unwritten : (slots : List ℕ) (name new : List ℕ) (slot : ℕ) → (share_of name ≡ share_of new → ⊥) → slot_at (set slots (share_of new) slot) name ≡ slot_at slots name
unwritten slots name new slot apart = get_or-set_other slots (share_of new) (share_of name) slot 0 apart

differ-same : (name new : List ℕ) → (share_of name ≡ share_of new → ⊥) → is_same name new ≡ false
differ-same name new differ = false_from_ne_true (is_same name new) (λ e. differ (ap share_of (same-bytes name new e)))

module _ (names : List (List ℕ)) (slots : List ℕ) (others : List (Vec ℕ × ℕ)) (new : List ℕ) (old : AreNumbered names slots others) (none : position (is_same new) names ≡ None) where
  free-none : slot_at slots new ≡ 0 → (name : List ℕ) → share_of name ≡ share_of new → None ≡ position (is_same name) names
  free-none free name same =
      sym (ap (λ (k : ℕ). number_from names others name (first_in (get_or slots k 0))) same ∙ ap (λ (slot : ℕ). number_from names others name (first_in slot)) free) ∙ old.at name

  put-at : slot_at slots new ≡ 0 → share_of new < length slots → (name : List ℕ) (same : Bool) → nat_eq (share_of name) (share_of new) ≡ same
      → number_in (names ++ new ∷ []) (set slots (share_of new) (length names + 1)) others name ≡ position (is_same name) (names ++ new ∷ [])
  put-at free room name true e =
      let same : share_of name ≡ share_of new = eqb-true (share_of name) (share_of new) e in
      ap (λ (slot : ℕ). number_from (names ++ new ∷ []) others name (first_in slot)) (written slots name new (length names + 1) same room)
      ∙ ap (number_from (names ++ new ∷ []) others name) (first_in-next (length names))
      ∙ ap (λ (other : List ℕ). cond (is_same name other) (Some (length names)) (lookup (is_key name) others)) (get_or_push names new [] (length names) refl)
      ∙ ap (cond (is_same name new) (Some (length names))) (found-none (lookup (is_key name) others) (position (is_same name) names) (free-none free name same) (old.apart name))
      ∙ sym (position-push name new names none)
  put-at free room name false e =
      let differ : share_of name ≡ share_of new → ⊥ = eqb-false (share_of name) (share_of new) e in
      ap (λ (slot : ℕ). number_from (names ++ new ∷ []) others name (first_in slot)) (unwritten slots name new (length names + 1) differ)
      ∙ from-longer names new others name (first_in (slot_at slots name)) (old.within name)
      ∙ old.at name
      ∙ sym (push-apart names name new none (differ-same name new differ))

  put-within : share_of new < length slots → (name : List ℕ) (same : Bool) → nat_eq (share_of name) (share_of new) ≡ same
      → (n : ℕ) → first_in (slot_at (set slots (share_of new) (length names + 1)) name) ≡ Some n → n < length (names ++ new ∷ [])
  put-within room name true e n is =
      let same : share_of name ≡ share_of new = eqb-true (share_of name) (share_of new) e in
      let is_last : Some (length names) ≡ Some n = sym (ap first_in (written slots name new (length names + 1) same room) ∙ first_in-next (length names)) ∙ is in
      let last : length names ≡ n = same-some (length names) n is_last in
      let long = length_push names new in
      omega arith
  put-within room name false e n is =
      let differ : share_of name ≡ share_of new → ⊥ = eqb-false (share_of name) (share_of new) e in
      less-more names new n (old.within name n (sym (ap first_in (unwritten slots name new (length names + 1) differ)) ∙ is))

  -- a name whose slot is free
  pub numbered-first : slot_at slots new ≡ 0 → share_of new < length slots → AreNumbered (names ++ new ∷ []) (set slots (share_of new) (length names + 1)) others
  numbered-first free room = record {
    at = λ name. put-at free room name (nat_eq (share_of name) (share_of new)) refl;
    within = λ name. put-within room name (nat_eq (share_of name) (share_of new)) refl;
    apart = λ name n found. apart-more names name new n (is_same name new) none refl (old.apart name n found);
    own = λ n. own-cases names new none old.own n (nat_eq n (length names)) refl;
  }

  -- ---- among the others

  other-at : (key : Vec ℕ) (name : List ℕ) (first : Option ℕ) → key.items ≡ new → (first ≡ None → is_same name new ≡ false) → ((n : ℕ) → first ≡ Some n → n < length names)
      → number_from names others name first ≡ position (is_same name) names
      → number_from (names ++ new ∷ []) (insert_entry key_order others key (length names)) name first ≡ position (is_same name) (names ++ new ∷ [])
  other-at key name None is apart within at = at ∙ sym (push-apart names name new none (apart refl))
  other-at key name (Some n) is apart within at =
      ap (λ (other : List ℕ). cond (is_same name other) (Some n) (lookup (is_key name) (insert_entry key_order others key (length names)))) (get_or_append_left names (new ∷ []) [] n (within n refl))
      ∙ ap (cond (is_same name (get_or names n [])) (Some n)) (lookup-insert name key (length names) others ∙ ap (λ (bytes : List ℕ). cond (is_same name bytes) (Some (length names)) (lookup (is_key name) others)) is)
      ∙ apart-cases (is_same name (get_or names n [])) (is_same name new) (length names) n (lookup (is_key name) others) (λ there here. both name n at here there)
      ∙ ap (cond (is_same name new) (Some (length names))) at
      ∙ sym (position-push name new names none)
    where
      both : (name : List ℕ) (n : ℕ) → number_from names others name (Some n) ≡ position (is_same name) names → is_same name new ≡ true → is_same name (get_or names n []) ≡ true → ⊥
      both name n at a b =
          let wrong : Some n ≡ None = sym (ap (λ c. cond c (Some n) (lookup (is_key name) others)) b) ∙ at ∙ same-none names name new none a in
          absurd (cc)

  inserted : (key : Vec ℕ) (name : List ℕ) → key.items ≡ new
      → lookup (is_key name) (insert_entry key_order others key (length names)) ≡ cond (is_same name new) (Some (length names)) (lookup (is_key name) others)
  inserted key name is = lookup-insert name key (length names) others ∙ ap (λ (bytes : List ℕ). cond (is_same name bytes) (Some (length names)) (lookup (is_key name) others)) is

  other-apart : (name : List ℕ) (n : ℕ) (same : Bool) → is_same name new ≡ same → cond same (Some (length names)) (lookup (is_key name) others) ≡ Some n
      → position (is_same name) (names ++ new ∷ []) ≡ Some n
  other-apart name n true e is = position-push name new names none ∙ ap (λ b. cond b (Some (length names)) (position (is_same name) names)) e ∙ is
  other-apart name n false e is = apart-more names name new n false none e (old.apart name n is)

  free-same : (name : List ℕ) → (first_in (slot_at slots new) ≡ None → ⊥) → first_in (slot_at slots name) ≡ None → is_same name new ≡ false
  free-same name taken free = false_from_ne_true (is_same name new) (λ e. taken (sym (ap (λ (bytes : List ℕ). first_in (slot_at slots bytes)) (same-bytes name new e)) ∙ free))

  -- a name whose slot is taken
  pub numbered-other : (key : Vec ℕ) → key.items ≡ new → (first_in (slot_at slots new) ≡ None → ⊥) → AreNumbered (names ++ new ∷ []) slots (insert_entry key_order others key (length names))
  numbered-other key is taken = record {
    at = λ name. other-at key name (first_in (slot_at slots name)) is (free-same name taken) (old.within name) (old.at name);
    within = λ name n found. less-more names new n (old.within name n found);
    apart = λ name n found. other-apart name n (is_same name new) refl (sym (inserted key name is) ∙ found);
    own = λ n. own-cases names new none old.own n (nat_eq n (length names)) refl;
  }

-- ---- no names

empty-slots : (n i : ℕ) → (let empty : ℕ = 0 in get_or (replicate n empty) i empty ≡ empty)
empty-slots n i =
    elim (cases_lt i n) [ inl within ↦ get_or-replicate n i 0 0 within | inr past ↦ get_or_past (replicate n 0) i 0 (let long : length (replicate {A = ℕ} n 0) ≡ n = length-replicate n 0 in omega (arith, long, past)) ]

pub numbered-none : (n : ℕ) → AreNumbered [] (replicate n 0) []
numbered-none n = record {
  at = λ name. ap (λ (slot : ℕ). number_from [] [] name (first_in slot)) (empty-slots n (share_of name));
  within = λ name k found. let wrong : None ≡ Some k = sym (ap first_in (empty-slots n (share_of name))) ∙ found in absurd (cc);
  apart = λ name k found. found;
  own = λ n within. absurd (omega (arith, within));
}

-- ---- what is found

module _ (names : List (List ℕ)) (slots : List ℕ) (others : List (Vec ℕ × ℕ)) (name : List ℕ) (numbered : AreNumbered names slots others) where
  -- what stands in the slot of the name was read
  slot-read : (share slot first : ℕ) (number : Option ℕ) → length slots ≡ 524288 → share < 524288 → share ≡ share_of name → slot ≡ get_or slots share slot
      → number ≡ first_in slot → number ≡ Some first → first_in (slot_at slots name) ≡ Some first
  slot-read share slot first number sized range is read gives some =
      let at : slot ≡ slot_at slots name = read ∙ get_or_default_zero slots share slot (omega arith) ∙ ap (λ (k : ℕ). get_or slots k 0) is in
      ap first_in (sym at) ∙ sym gives ∙ some

  -- so it is the number of a name
  pub found-within : (share slot first : ℕ) (number : Option ℕ) → length slots ≡ 524288 → share < 524288 → share ≡ share_of name → slot ≡ get_or slots share slot
      → number ≡ first_in slot → number ≡ Some first → first < length names
  found-within share slot first number sized range is read gives some = numbered.within name first (slot-read share slot first number sized range is read gives some)

  -- the first name of a share was read, and whether it is the name
  pub found-read : (share slot first : ℕ) (number : Option ℕ) (text : List ℕ) (same : Bool) → length slots ≡ 524288 → share < 524288 → share ≡ share_of name → slot ≡ get_or slots share slot
      → number ≡ first_in slot → number ≡ Some first → text ≡ get_or names first [] → same ≡ is_same name text
      → cond same (Some first) (lookup (is_key name) others) ≡ position (is_same name) names
  found-read share slot first number text same sized range is read gives some there e =
      ap (λ b. cond b (Some first) (lookup (is_key name) others)) (e ∙ ap (is_same name) there)
      ∙ ap (number_from names others name) (sym (slot-read share slot first number sized range is read gives some))
      ∙ numbered.at name

-- a name that stands at a place has its number
pub found-near : (names : List (List ℕ)) (slots : List ℕ) (others : List (Vec ℕ × ℕ)) (name text : List ℕ) (place : ℕ) (same : Bool) → AreNumbered names slots others
    → place < length names → text ≡ get_or names place [] → same ≡ is_same name text → same ≡ true → Some place ≡ position (is_same name) names
found-near names slots others name text place same numbered within there e hit =
    sym (ap (λ (bytes : List ℕ). position (is_same bytes) names) (same-bytes name text (sym e ∙ hit) ∙ there) ∙ numbered.own place within)
