-- A part is compared turn by turn: the words, the numbers, and what stands behind them.
use Rattle.std.proofs.Common.{◌≡◌, ℕ, zero, suc, ◌+◌, ◌<◌, ◌≤◌, List, [], ◌∷◌, ◌++◌, true, false, cond, not, map, length, drop, get_or, refl, ap, sym, subst, ◌∙◌, arith, nat_lt, nat_eq, length-drop}
use Rattle.std.specs.Prelude.{ℤ, pos, negsuc}
use Rattle.std.specs.List.{prefix_len}
use Rattle.std.specs.Char.{is_ascii_digit, is_ascii_alphabetic}
use Rattle.std.specs.declared.cmp.Ordering.{Ordering}
use Rattle.std.specs.declared.cmp.Ordering.TheVariants.{Less, Equal, Greater}
use Rattle.std.specs.Ordering.{nat_cmp, int_cmp, ordering_then, ordering_reverse, is_ne}
use Rattle.std.specs.Cmp.{int_cmp_total}
use Rattle.std.proofs.lemmas.Bool.Decides.{nat_tests}
use Rattle.std.proofs.Math.Seq.{drop-nil}
use Rattle.deb_version.specs.VersionOrder.{rank, rank_at, is_word_byte, word_of, digits_of, behind_digits, number, key_by_turns, key, key_order, part_order, revision_or_zero}

-- ---- a rank is never that of the end

letter_not_zero : (b : ℕ) → is_ascii_alphabetic b ≡ true → nat_lt 0 b ≡ true
letter_not_zero zero h = absurd (cc)
letter_not_zero (suc b) h = grind (arith, nat_tests)

abbrev Apart : ℤ → Type 0
Apart x = int_cmp x (pos 0) ≡ Equal → ⊥

rank-apart : (b : ℕ) → Apart (rank b)
rank-apart b =
    elim (nat_eq b 126) as (λ t. Apart (cond t (negsuc 0) (cond (is_ascii_alphabetic b) (pos b) (pos (b + 256))))) [
      | true ↦ λ h. cc
      | false ↦
          elim (is_ascii_alphabetic b) as (λ t. is_ascii_alphabetic b ≡ t → Apart (cond t (pos b) (pos (b + 256)))) [
            | true ↦ λ t h. above b (letter_not_zero b t) h
            | false ↦ λ t h. let up : nat_lt 0 (b + 256) ≡ true = grind (arith, nat_tests) in above (b + 256) up h
          ] refl
    ]
  where
    above : (n : ℕ) → nat_lt 0 n ≡ true → Apart (pos n)
    above n h k =
        let p : nat_lt n 0 ≡ false = grind (arith, nat_tests) in
        let g : int_cmp (pos n) (pos 0) ≡ Greater = rw (p, h) refl in
        let clash : Greater ≡ Equal = sym g ∙ k in
        cc

apart_back : (x : ℤ) → Apart x → int_cmp (pos 0) x ≡ Equal → ⊥
apart_back x h k = h (flipped (int_cmp (pos 0) x) (int_cmp x (pos 0)) (int_cmp_total.antisymm (pos 0) x) k)
  where
    flipped : (r s : Ordering) → r ≡ ordering_reverse s → r ≡ Equal → s ≡ Equal
    flipped r Less e k = let c : Greater ≡ Equal = sym e ∙ k in absurd (cc)
    flipped r Equal e k = refl
    flipped r Greater e k = let c : Less ≡ Equal = sym e ∙ k in absurd (cc)

-- ---- what is compared past the end

abbrev nothing : List ℤ
nothing = []

-- a 0 at the end of a key changes nothing
pad_left : (ys : List ℤ) → key_order (pos 0 ∷ nothing) ys ≡ key_order nothing ys
pad_left [] = refl
pad_left (y ∷ ys) = refl

pad_left2 : (ys : List ℤ) → key_order (pos 0 ∷ pos 0 ∷ nothing) ys ≡ key_order nothing ys
pad_left2 [] = refl
pad_left2 (y ∷ ys) = ap (ordering_then (int_cmp (pos 0) y)) (pad_left ys)

pad_right : (xs : List ℤ) → key_order xs (pos 0 ∷ nothing) ≡ key_order xs nothing
pad_right [] = refl
pad_right (x ∷ xs) = refl

pad_right2 : (xs : List ℤ) → key_order xs (pos 0 ∷ pos 0 ∷ nothing) ≡ key_order xs nothing
pad_right2 [] = refl
pad_right2 (x ∷ xs) = ap (ordering_then (int_cmp x (pos 0))) (pad_right xs)

-- ---- one turn

-- a turn takes a byte
pub behind-shorter : (b : ℕ) (bs : List ℕ) → length (behind_digits (b ∷ bs)) ≤ length bs
behind-shorter b bs =
    elim (is_ascii_digit b) as
    (λ t. is_ascii_digit b ≡ t
    → length (drop (prefix_len is_ascii_digit (drop (cond (not t) (1 + prefix_len is_word_byte bs) 0) (b ∷ bs))) (drop (cond (not t) (1 + prefix_len is_word_byte bs) 0) (b ∷ bs)))
    ≤ length bs) [
      | true ↦ λ t.
          let taken : prefix_len is_ascii_digit (b ∷ bs) ≡ 1 + prefix_len is_ascii_digit bs = rw t refl in
          omega (arith, length-drop (prefix_len is_ascii_digit (b ∷ bs)) (b ∷ bs), taken)
      | false ↦ λ _.
          let behind : List ℕ = drop (1 + prefix_len is_word_byte bs) (b ∷ bs) in
          omega (arith, length-drop (prefix_len is_ascii_digit behind) behind, length-drop (1 + prefix_len is_word_byte bs) (b ∷ bs))
    ] refl

-- more turns than bytes add nothing
turns_enough : (n m : ℕ) (part : List ℕ) → length part ≤ n → length part ≤ m → key_by_turns n part ≡ key_by_turns m part
turns_enough zero zero part p q = refl
turns_enough zero (suc m) [] p q = refl
turns_enough zero (suc m) (b ∷ bs) p q = absurd (omega arith)
turns_enough (suc n) zero [] p q = refl
turns_enough (suc n) zero (b ∷ bs) p q = absurd (omega arith)
turns_enough (suc n) (suc m) [] p q = refl
turns_enough (suc n) (suc m) (b ∷ bs) p q =
    let less = behind-shorter b bs in
    ap (λ k. map rank (word_of (b ∷ bs)) ++ (pos 0 ∷ pos (number (digits_of (b ∷ bs))) ∷ k)) (turns_enough n m (behind_digits (b ∷ bs)) (omega (arith, less)) (omega (arith, less)))

-- the key of a part in which at least one turn is taken
abbrev turn_key : List ℕ → List ℤ
turn_key part = map rank (word_of part) ++ (pos 0 ∷ pos (number (digits_of part)) ∷ key (behind_digits part))

key-turn : (b : ℕ) (bs : List ℕ) → key (b ∷ bs) ≡ turn_key (b ∷ bs)
key-turn b bs =
    ap (λ k. map rank (word_of (b ∷ bs)) ++ (pos 0 ∷ pos (number (digits_of (b ∷ bs))) ∷ k))
    (turns_enough (length bs) (length (behind_digits (b ∷ bs))) (behind_digits (b ∷ bs)) (behind-shorter b bs) (omega arith))

turn_left : (a : List ℕ) (ys : List ℤ) → key_order (key a) ys ≡ key_order (turn_key a) ys
turn_left [] ys = sym (pad_left2 ys)
turn_left (b ∷ bs) ys = ap (λ k. key_order k ys) (key-turn b bs)

turn_right : (xs : List ℤ) (a : List ℕ) → key_order xs (key a) ≡ key_order xs (turn_key a)
turn_right xs [] = sym (pad_right2 xs)
turn_right xs (b ∷ bs) = ap (λ k. key_order xs k) (key-turn b bs)

pos_cmp : (n m : ℕ) → int_cmp (pos n) (pos m) ≡ nat_cmp n m
pos_cmp n m =
    elim (nat_lt n m) as (λ t. nat_lt n m ≡ t → cond t Less (cond (nat_lt m n) Greater Equal) ≡ cond t Less (cond (nat_eq n m) Equal Greater)) [
      | true ↦ λ _. refl
      | false ↦ λ t.
          elim (nat_lt m n) as (λ u. nat_lt m n ≡ u → cond u Greater Equal ≡ cond (nat_eq n m) Equal Greater) [
            | true ↦ λ u. let e : nat_eq n m ≡ false = grind (arith, nat_tests) in rw e refl
            | false ↦ λ u. let e : nat_eq n m ≡ true = grind (arith, nat_tests) in rw e refl
          ] refl
    ] refl

decided : (r p q s : Ordering) → (r ≡ Equal → ⊥) → ordering_then r p ≡ ordering_then (ordering_then r q) s
decided Less p q s h = refl
decided Equal p q s h = absurd (h refl)
decided Greater p q s h = refl

then_assoc : (r p q : Ordering) → ordering_then (ordering_then r p) q ≡ ordering_then r (ordering_then p q)
then_assoc Less p q = refl
then_assoc Equal p q = refl
then_assoc Greater p q = refl

-- two keys are decided by their words, if these differ, and then by their numbers
words_first : (us vs : List ℕ) (n m : ℕ) (k l : List ℤ) → key_order (map rank us ++ (pos 0 ∷ pos n ∷ k)) (map rank vs ++ (pos 0 ∷ pos m ∷ l)) ≡ ordering_then (key_order (map rank us) (map rank vs)) (ordering_then (nat_cmp n m) (key_order k l))
words_first [] [] n m k l = ap (λ r. ordering_then r (key_order k l)) (pos_cmp n m)
words_first [] (v ∷ vs) n m k l = decided (int_cmp (pos 0) (rank v)) _ (key_order nothing (map rank vs)) _ (apart_back (rank v) (rank-apart v))
words_first (u ∷ us) [] n m k l = decided (int_cmp (rank u) (pos 0)) _ (key_order (map rank us) nothing) _ (rank-apart u)
words_first (u ∷ us) (v ∷ vs) n m k l =
    ap (ordering_then (int_cmp (rank u) (rank v))) (words_first us vs n m k l) ∙ sym (then_assoc (int_cmp (rank u) (rank v)) (key_order (map rank us) (map rank vs)) (ordering_then (nat_cmp n m) (key_order k l)))

-- parts are compared by the words and numbers of their first turns, and then by what stands behind
pub part_order-turn : (a b : List ℕ) → part_order a b ≡ ordering_then (ordering_then (key_order (map rank (word_of a)) (map rank (word_of b))) (nat_cmp (number (digits_of a)) (number (digits_of b)))) (part_order (behind_digits a) (behind_digits b))
part_order-turn a b =
    turn_left a (key b)
    ∙ turn_right (turn_key a) b
    ∙ words_first (word_of a) (word_of b) (number (digits_of a)) (number (digits_of b)) (key (behind_digits a)) (key (behind_digits b))
    ∙ sym (then_assoc (key_order (map rank (word_of a)) (map rank (word_of b))) (nat_cmp (number (digits_of a)) (number (digits_of b))) (part_order (behind_digits a) (behind_digits b)))

-- ---- a missing revision

zero_left : (r : List ℕ) (ys : List ℤ) → key_order (key (revision_or_zero r)) ys ≡ key_order (key r) ys
zero_left [] ys = pad_left2 ys
zero_left (b ∷ bs) ys = refl

zero_right : (xs : List ℤ) (r : List ℕ) → key_order xs (key (revision_or_zero r)) ≡ key_order xs (key r)
zero_right xs [] = pad_right2 xs
zero_right xs (b ∷ bs) = refl

pub revisions : (r s : List ℕ) → part_order (revision_or_zero r) (revision_or_zero s) ≡ part_order r s
revisions r s = zero_left r (key (revision_or_zero s)) ∙ zero_right (key r) s

-- ---- words, place by place

-- the ranks from a place on, by that place and those behind it
pub words-place : (a b : List ℕ) (i : ℕ) → key_order (map rank (drop i a)) (map rank (drop i b)) ≡ ordering_then (int_cmp (rank_at a i) (rank_at b i)) (key_order (map rank (drop (suc i) a)) (map rank (drop (suc i) b)))
words-place [] [] zero = refl
words-place [] (y ∷ b) zero = refl
words-place (x ∷ a) [] zero = refl
words-place (x ∷ a) (y ∷ b) zero = refl
words-place [] [] (suc i) = refl
words-place [] (y ∷ b) (suc i) =
    let P : List ℕ → Type 0 = λ d. key_order (map rank d) (map rank (drop i b)) ≡ ordering_then (int_cmp (pos 0) (rank_at b i)) (key_order nothing (map rank (drop (suc i) b))) in
    subst P (drop-nil i) (words-place [] b i)
words-place (x ∷ a) [] (suc i) =
    let P : List ℕ → Type 0 = λ d. key_order (map rank (drop i a)) (map rank d) ≡ ordering_then (int_cmp (rank_at a i) (pos 0)) (key_order (map rank (drop (suc i) a)) nothing) in
    subst P (drop-nil i) (words-place a [] i)
words-place (x ∷ a) (y ∷ b) (suc i) = words-place a b i

pub rank_at-within : (a : List ℕ) (i : ℕ) → i < length a → rank_at a i ≡ rank (get_or a i 0)
rank_at-within [] i h = absurd (omega arith)
rank_at-within (x ∷ a) zero h = refl
rank_at-within (x ∷ a) (suc i) h = rank_at-within a i (omega arith)

pub rank_at-past : (a : List ℕ) (i : ℕ) → length a ≤ i → rank_at a i ≡ pos 0
rank_at-past [] i h = refl
rank_at-past (x ∷ a) zero h = absurd (omega arith)
rank_at-past (x ∷ a) (suc i) h = rank_at-past a i (omega arith)

-- ---- an answer that is not `Equal` settles what follows

pub first_settles : (r s : Ordering) → is_ne r ≡ true → ordering_then r s ≡ r
first_settles Less s h = refl
first_settles Equal s h = absurd (cc)
first_settles Greater s h = refl

pub second_settles : (r s : Ordering) → is_ne r ≡ false → ordering_then r s ≡ s
second_settles Less s h = absurd (cc)
second_settles Equal s h = refl
second_settles Greater s h = absurd (cc)

pub place_decides : (a b : List ℕ) (i : ℕ) (r : Ordering) → r ≡ int_cmp (rank_at a i) (rank_at b i) → is_ne r ≡ true → r ≡ key_order (map rank (drop i a)) (map rank (drop i b))
place_decides a b i r e h =
    let rest : Ordering = key_order (map rank (drop (suc i) a)) (map rank (drop (suc i) b)) in
    sym (first_settles r rest h) ∙ ap (λ q. ordering_then q rest) e ∙ sym (words-place a b i)

pub place_equal : (a b : List ℕ) (i j : ℕ) (r : Ordering) → j ≡ suc i → r ≡ int_cmp (rank_at a i) (rank_at b i) → is_ne r ≡ false → key_order (map rank (drop j a)) (map rank (drop j b)) ≡ key_order (map rank (drop i a)) (map rank (drop i b))
place_equal a b i j r next e h =
    let rest : Ordering = key_order (map rank (drop (suc i) a)) (map rank (drop (suc i) b)) in
    ap (λ k. key_order (map rank (drop k a)) (map rank (drop k b))) next ∙ sym (second_settles r rest h) ∙ ap (λ q. ordering_then q rest) e ∙ sym (words-place a b i)

-- the answer of one turn
abbrev pub turn_order : List ℕ → List ℕ → Ordering
turn_order a b = ordering_then (key_order (map rank (word_of a)) (map rank (word_of b))) (nat_cmp (number (digits_of a)) (number (digits_of b)))

pub turn_decides : (a b : List ℕ) (r : Ordering) → r ≡ turn_order a b → is_ne r ≡ true → r ≡ part_order a b
turn_decides a b r e h =
    let rest : Ordering = part_order (behind_digits a) (behind_digits b) in
    sym (first_settles r rest h) ∙ ap (λ q. ordering_then q rest) e ∙ sym (part_order-turn a b)

pub turn_equal : (a b : List ℕ) (r : Ordering) → r ≡ turn_order a b → is_ne r ≡ false → part_order (behind_digits a) (behind_digits b) ≡ part_order a b
turn_equal a b r e h =
    let rest : Ordering = part_order (behind_digits a) (behind_digits b) in
    sym (second_settles r rest h) ∙ ap (λ q. ordering_then q rest) e ∙ sym (part_order-turn a b)

-- the measure of a turn on two parts, one of which has a byte
pub turns-shorter : (a b : List ℕ) → 0 < length a + length b → length (behind_digits a) + length (behind_digits b) < length a + length b
turns-shorter [] [] h = absurd (omega arith)
turns-shorter [] (y ∷ ys) h = omega (arith, behind-shorter y ys)
turns-shorter (x ∷ xs) [] h = omega (arith, behind-shorter x xs)
turns-shorter (x ∷ xs) (y ∷ ys) h = omega (arith, behind-shorter x xs, behind-shorter y ys)
