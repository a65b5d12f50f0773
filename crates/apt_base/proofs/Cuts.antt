-- Lines of an input, cut from its front.
use Rattle.std.proofs.Common.{◌≡◌, ◌≢◌, ℕ, ◌+◌, ◌-◌, ◌<◌, ◌≤◌, Bool, true, false, cond, eqb, List, [], ◌∷◌, ◌++◌, length, take, drop, get_or, Some, None, refl, add-one, suc, zero, ◌&&◌, sym, ap, subst, ◌∙◌, arith, length-take}
use Rattle.std.specs.List.{position, position_or_len}
use Rattle.std.proofs.lemmas.List.Quantifiers.{position-Some}
use Rattle.std.proofs.lemmas.List.Sums.{fails_before_first}
use Rattle.std.proofs.lemmas.List.{drop-take}
use Rattle.std.proofs.lemmas.Bool.{eqb-true, eq-eqb}
use borrow.Author.Tests.{ltb-false}
use Rattle.std.specs.Prelude.{◌==◌}
use Rattle.std.proofs.lemmas.Bool.Decides.{nat_tests}
use Rattle.std.proofs.lemmas.Grind.{common_steps}
use Rattle.apt_base.specs.Lines.{with_front, lines_of, before_newline, behind_newline, without_return, HasNoNewline, TakesPart}

pub no_newline-append : (xs ys : List ℕ) → HasNoNewline xs → HasNoNewline ys → HasNoNewline (xs ++ ys)
no_newline-append [] ys first second = second
no_newline-append (x ∷ xs) ys first second = (first.0, no_newline-append xs ys first.1 second)

ne-eqb : (a b : ℕ) → a ≢ b → eqb a b ≡ false
ne-eqb a b other = grind (arith, nat_tests)

cut_at : (xs : List ℕ) (place : ℕ) → place < length xs → eqb (get_or xs place 0) 10 ≡ true → ((k : ℕ) → k < place → eqb (get_or xs k 0) 10 ≡ false) → HasNoNewline (take place xs) × (xs ≡ take place xs ++ 10 ∷ drop (suc place) xs)
cut_at [] place inside here before = absurd (omega arith)
cut_at (x ∷ xs) zero inside here before = (tt, ap (λ v. v ∷ xs) (eqb-true x 10 here))
cut_at (x ∷ xs) (suc place) inside here before =
    let rest = cut_at xs place (omega arith) here (λ k lt. before (suc k) (omega arith)) in
    ((before 0 (omega arith), rest.0), ap (λ l. x ∷ l) rest.1)

-- what stands before and behind the newline that `position` finds
pub found : (xs : List ℕ) (place : ℕ) → position (λ b. b == 10) xs ≡ Some place → (place < length xs) × HasNoNewline (take place xs) × (xs ≡ take place xs ++ 10 ∷ drop (place + 1) xs)
found xs place at =
    let here = position-Some (λ b. b == 10) xs place 0 at in
    let cut = cut_at xs place here.0 here.1 here.2 in
    (here.0, cut.0, rw add-one cut.1)

all_clean : (xs : List ℕ) → ((k : ℕ) → k < length xs → eqb (get_or xs k 0) 10 ≡ false) → HasNoNewline xs
all_clean [] each = tt
all_clean (x ∷ xs) each = (each 0 (omega arith), all_clean xs (λ k lt. each (suc k) (omega arith)))

none_at : (b : Bool) (x : ℕ) → cond b (Some x) None ≡ None → b ≡ false
none_at true x at = cc
none_at false x at = refl

pub not_found : (xs : List ℕ) → position (λ b. b == 10) xs ≡ None → HasNoNewline xs
not_found xs at =
    let past : length xs ≤ position_or_len (λ b. b == 10) xs = ltb-false _ _ (none_at _ _ at) in
    all_clean xs (λ k lt. fails_before_first (λ b. b == 10) xs k 0 (omega arith))

last_index : (n : ℕ) → suc (suc n) - 1 ≡ suc (suc n - 1)
last_index n = omega arith

last_of : (x y : ℕ) (xs : List ℕ) (d b : ℕ) → get_or (x ∷ y ∷ xs) (length (x ∷ y ∷ xs) - 1) d ≡ b → get_or (y ∷ xs) (length (y ∷ xs) - 1) d ≡ b
last_of x y xs d b at = sym (ap (λ n. get_or (x ∷ y ∷ xs) n d) (last_index (length xs))) ∙ at

last_back : (x y : ℕ) (xs : List ℕ) (d b : ℕ) → get_or (y ∷ xs) (length (y ∷ xs) - 1) d ≡ b → get_or (x ∷ y ∷ xs) (length (x ∷ y ∷ xs) - 1) d ≡ b
last_back x y xs d b at = ap (λ n. get_or (x ∷ y ∷ xs) n d) (last_index (length xs)) ∙ at

front_kept : (x y : ℕ) (xs : List ℕ) → take (length (y ∷ xs) - 1) (y ∷ xs) ≡ without_return (y ∷ xs) → take (length (x ∷ y ∷ xs) - 1) (x ∷ y ∷ xs) ≡ without_return (x ∷ y ∷ xs)
front_kept x y xs kept = ap (λ n. take n (x ∷ y ∷ xs)) (last_index (length xs)) ∙ ap (λ l. x ∷ l) kept

return_dropped : (xs : List ℕ) (d : ℕ) → 0 < length xs → get_or xs (length xs - 1) d ≡ 13 → take (length xs - 1) xs ≡ without_return xs
return_dropped [] d some at = absurd (omega arith)
return_dropped (x ∷ []) d some at = let e : eqb x 13 ≡ true = eq-eqb x 13 at in rw e refl
return_dropped (x ∷ y ∷ xs) d some at = front_kept x y xs (return_dropped (y ∷ xs) d (omega arith) (last_of x y xs d 13 at))

no_return : (xs : List ℕ) (d : ℕ) → 0 < length xs → get_or xs (length xs - 1) d ≢ 13 → xs ≡ without_return xs
no_return [] d some at = refl
no_return (x ∷ []) d some at = let e : eqb x 13 ≡ false = ne-eqb x 13 at in rw e refl
no_return (x ∷ y ∷ xs) d some at = ap (λ l. x ∷ l) (no_return (y ∷ xs) d (omega arith) (λ e. at (last_back x y xs d 13 e)))

-- the last byte, as it was read, is a carriage return or not
pub last_dropped : (xs : List ℕ) (n last : ℕ) → n ≡ length xs → n ≢ 0 → last ≡ get_or xs (n - 1) last → last ≡ 13 → take (n - 1) xs ≡ without_return xs
last_dropped xs n last count some is at = rw count (return_dropped xs last (omega arith) (rw (← count) (sym is ∙ at)))

pub last_kept : (xs : List ℕ) (n last : ℕ) → n ≡ length xs → n ≢ 0 → last ≡ get_or xs (n - 1) last → last ≢ 13 → xs ≡ without_return xs
last_kept xs n last count some is other = no_return xs last (omega arith) (λ at. other (is ∙ rw count at))

one_more : (x : ℕ) (b : Bool) (lines : List (List ℕ)) → cond (b && true) ([] ∷ lines) (with_front x ([] ∷ lines)) ≡ cond b [] (x ∷ []) ∷ lines
one_more x true lines = refl
one_more x false lines = refl

-- a byte that stands before another one that is no newline
not_last : (x y : ℕ) (bytes : List ℕ) (lines : List (List ℕ)) (b : Bool) → eqb y 10 ≡ false → cond (b && eqb y 10) lines (with_front x lines) ≡ with_front x lines
not_last x y bytes lines true other = rw other refl
not_last x y bytes lines false other = refl

-- a line, its newline and what follows
pub lines_of-line : (line rest : List ℕ) → HasNoNewline line → lines_of (line ++ 10 ∷ rest) ≡ without_return line ∷ lines_of rest
lines_of-line [] rest clean = refl
lines_of-line (x ∷ []) rest clean = rw (clean.0) (one_more x (eqb x 13) (lines_of rest))
lines_of-line (x ∷ y ∷ line) rest clean =
    let later = lines_of (y ∷ line ++ 10 ∷ rest) in
    let skip : cond (eqb x 10) ([] ∷ later) (cond (eqb x 13 && eqb y 10) later (with_front x later)) ≡ with_front x later = rw (clean.0) (not_last x y line later (eqb x 13) clean.1.0) in
    skip ∙ ap (with_front x) (lines_of-line (y ∷ line) rest clean.1)

-- a last line
pub lines_of-last : (line : List ℕ) → HasNoNewline line → 0 < length line → lines_of line ≡ line ∷ []
lines_of-last [] clean some = absurd (omega arith)
lines_of-last (x ∷ []) clean some = rw (clean.0) (elim (eqb x 13) as (λ b. cond (b && false) [] ((x ∷ []) ∷ []) ≡ (x ∷ []) ∷ []) [ true ↦ refl | false ↦ refl ])
lines_of-last (x ∷ y ∷ line) clean some =
    let later = lines_of (y ∷ line) in
    let skip : cond (eqb x 10) ([] ∷ later) (cond (eqb x 13 && eqb y 10) later (with_front x later)) ≡ with_front x later = rw (clean.0) (not_last x y line later (eqb x 13) clean.1.0) in
    skip ∙ ap (with_front x) (lines_of-last (y ∷ line) clean.1 (omega arith))

pub before_newline-line : (line rest : List ℕ) → HasNoNewline line → before_newline (line ++ 10 ∷ rest) ≡ line
before_newline-line [] rest clean = refl
before_newline-line (x ∷ line) rest clean = rw (clean.0) (ap (λ l. x ∷ l) (before_newline-line line rest clean.1))

pub behind_newline-line : (line rest : List ℕ) → HasNoNewline line → behind_newline (line ++ 10 ∷ rest) ≡ rest
behind_newline-line [] rest clean = refl
behind_newline-line (x ∷ line) rest clean = rw (clean.0) (behind_newline-line line rest clean.1)

pub before_newline-front : (line more : List ℕ) → HasNoNewline line → length line ≤ length (before_newline (line ++ more))
before_newline-front [] more clean = omega arith
before_newline-front (x ∷ line) more clean = rw (clean.0) (let shorter = before_newline-front line more clean.1 in omega (arith, shorter))

pub before_newline-clean : (line : List ℕ) → HasNoNewline line → before_newline line ≡ line
before_newline-clean [] clean = refl
before_newline-clean (x ∷ line) clean = rw (clean.0) (ap (λ l. x ∷ l) (before_newline-clean line clean.1))

pub behind_newline-clean : (line : List ℕ) → HasNoNewline line → behind_newline line ≡ []
behind_newline-clean [] clean = refl
behind_newline-clean (x ∷ line) clean = rw (clean.0) (behind_newline-clean line clean.1)

pub length-without_return : (line : List ℕ) → length (without_return line) ≤ length line
length-without_return [] = omega arith
length-without_return (x ∷ []) = elim (eqb x 13) as (λ b. length (cond b [] (x ∷ [])) ≤ 1) [ true ↦ omega arith | false ↦ omega arith ]
length-without_return (x ∷ y ∷ line) = let shorter = length-without_return (y ∷ line) in omega (arith, shorter)

pub drop-drop-comm : (i k : ℕ) (xs : List ℕ) → drop k (drop i xs) ≡ drop (i + k) xs
drop-drop-comm i k xs = grind (arith, common_steps)

-- what is left behind a part and its newline
pub part_rest : (buffer : List ℕ) (start end place : ℕ) → place < length (take (end - start) (drop start buffer)) → drop (place + 1) (take (end - start) (drop start buffer)) ≡ take (end - (start + (place + 1))) (drop (start + (place + 1)) buffer)
part_rest buffer start end place inside =
    let size = length-take (end - start) (drop start buffer) in
    let split : end - start ≡ (place + 1) + (end - (start + (place + 1))) = omega (arith, size, inside) in
    ap (λ n. drop (place + 1) (take n (drop start buffer))) split ∙ drop-take (place + 1) (end - (start + (place + 1))) (drop start buffer) ∙ ap (take (end - (start + (place + 1)))) (drop-drop-comm start (place + 1) buffer)

pub part_found : (held self rest line longer : List ℕ) (place : ℕ) → held ≡ self → Some place ≡ position (λ b. b == 10) held → rest ≡ drop (place + 1) held → longer ≡ line ++ take place held → TakesPart true self rest line longer
part_found held self rest line longer place same at is more =
    let h = found held place (sym at) in
    (take place held, h.1, sym same ∙ h.2 ∙ ap (λ r. take place held ++ 10 ∷ r) (sym is), more)

pub part_not_found : (held self rest line longer : List ℕ) → held ≡ self → None ≡ position (λ b. b == 10) held → rest ≡ [] → longer ≡ line ++ held → TakesPart false self rest line longer
part_not_found held self rest line longer same at is more =
    (subst HasNoNewline same (not_found held (sym at)), is, more ∙ ap (λ h. line ++ h) same)

pub nothing_left : (end : ℕ) (buffer : List ℕ) → take (end - end) (drop end buffer) ≡ []
nothing_left end buffer = let none : end - end ≡ 0 = omega arith in ap (λ n. take n (drop end buffer)) none
