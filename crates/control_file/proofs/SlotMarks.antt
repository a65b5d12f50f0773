-- Names whose slots are marked.
use Rattle.std.proofs.Common.{◌≡◌, ◌<◌, ℕ, ◌∙◌, sym, ap, refl, List, [], ◌∷◌, ◌++◌, length, Bool, true, false, ◌||◌, nat_eq, get_or, set, arith}
use Rattle.std.specs.List.{list_all}
use Rattle.std.specs.Str.{str_eq_ignore_ascii_case, str_to_ascii_lowercase}
use Rattle.std.proofs.lemmas.Slice.Eq.{bytes_eq-Decides}
use Rattle.std.proofs.lemmas.Bool.{and_from, and_parts}
use Rattle.std.proofs.lemmas.Bool.Decides.{nat_tests}
use Rattle.std.proofs.lemmas.List.{get_or-set_same, get_or-set_other}
use Rattle.lists.proofs.Tests.{list_all-end}
use Rattle.control_file.specs.Tags.{slot_at, slot_of, AreMarked}
use Rattle.control_file.specs.Text.{is_among}

-- names that differ only in ASCII case have one slot
same-slot : (a b : List ℕ) → str_eq_ignore_ascii_case a b ≡ true → slot_of a ≡ slot_of b
same-slot a b e = ap slot_at ((bytes_eq-Decides (str_to_ascii_lowercase a) (str_to_ascii_lowercase b)).0 e)

abbrev has_mark : List ℕ → ℕ → List ℕ → Bool
has_mark marks mark name = nat_eq (get_or marks (slot_of name) 0) mark

apart-cases : (marks : List ℕ) (mark : ℕ) (name n : List ℕ) (rest b : Bool) → str_eq_ignore_ascii_case n name ≡ b → has_mark marks mark n ≡ true → has_mark marks mark name ≡ false → rest ≡ false
    → (b || rest) ≡ false
apart-cases marks mark name n rest true e held none left =
    absurd (let both : true ≡ false = sym held ∙ ap (λ slot. nat_eq (get_or marks slot 0) mark) (same-slot n name e) ∙ none in cc)
apart-cases marks mark name n rest false e held none left = left

-- a name whose slot has not the mark is none of them
pub none-marked : (marks : List ℕ) (mark : ℕ) (name : List ℕ) (names : List (List ℕ)) → AreMarked marks mark names → has_mark marks mark name ≡ false → is_among name names ≡ false
none-marked marks mark name [] are none = refl
none-marked marks mark name (n ∷ ns) are none =
    let both = and_parts (has_mark marks mark n) (list_all (has_mark marks mark) ns) are in
    apart-cases marks mark name n (is_among name ns) (str_eq_ignore_ascii_case n name) refl both.0 none (none-marked marks mark name ns both.1 none)

-- one more slot is marked
kept-cases : (marks : List ℕ) (mark slot i : ℕ) (b : Bool) → nat_eq i slot ≡ b → slot < length marks → nat_eq (get_or marks i 0) mark ≡ true → nat_eq (get_or (set marks slot mark) i 0) mark ≡ true
kept-cases marks mark slot i true e less held =
    let same : i ≡ slot = grind (arith, nat_tests, e) in
    ap (λ k. nat_eq (get_or (set marks slot mark) k 0) mark) same ∙ ap (λ m. nat_eq m mark) (get_or-set_same marks slot mark 0 less) ∙ (let itself : nat_eq mark mark ≡ true = grind (arith, nat_tests) in itself)
kept-cases marks mark slot i false e less held =
    ap (λ m. nat_eq m mark) (get_or-set_other marks slot i mark 0 (λ same. absurd (grind (arith, nat_tests, e, same)))) ∙ held

kept : (marks : List ℕ) (mark slot : ℕ) (names : List (List ℕ)) → slot < length marks → AreMarked marks mark names → AreMarked (set marks slot mark) mark names
kept marks mark slot [] less are = refl
kept marks mark slot (n ∷ ns) less are =
    let both = and_parts (has_mark marks mark n) (list_all (has_mark marks mark) ns) are in
    and_from (has_mark (set marks slot mark) mark n) (list_all (has_mark (set marks slot mark) mark) ns)
    (kept-cases marks mark slot (slot_of n) (nat_eq (slot_of n) slot) refl less both.0) (kept marks mark slot ns less both.1)

pub marked-more : (marks : List ℕ) (mark slot : ℕ) (names : List (List ℕ)) (name : List ℕ) → slot < length marks → slot ≡ slot_of name → AreMarked marks mark names
    → AreMarked (set marks slot mark) mark (names ++ name ∷ [])
marked-more marks mark slot names name less is are =
    list_all-end (has_mark (set marks slot mark) mark) names name (kept marks mark slot names less are)
    (ap (λ k. nat_eq (get_or (set marks slot mark) k 0) mark) (sym is) ∙ ap (λ m. nat_eq m mark) (get_or-set_same marks slot mark 0 less) ∙ (let itself : nat_eq mark mark ≡ true = grind (arith, nat_tests) in itself))
