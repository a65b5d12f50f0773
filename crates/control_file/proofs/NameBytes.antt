-- The name of a field: the name bytes at the front of its line, where a colon stands behind them.
use Rattle.std.proofs.Common.{◌≡◌, ℕ, suc, ◌+◌, List, [], ◌∷◌, Bool, true, false, not, cond, ◌&&◌, ◌||◌, ◌==◌, get_or, take, Some, None, refl, sym, ap, ◌∙◌, arith, nat_le, subst}
use Rattle.std.specs.List.{list_all, list_any, prefix_len, position_or_len, before_first}
use Rattle.std.proofs.lemmas.Bool.{and_from}
use Rattle.ascii.specs.Texts.{begins}
use Rattle.control_file.specs.declared.CtlKind.TheVariants.{NoColon, BadName}
use Rattle.control_file.specs.Text.{is_colon, is_name_byte, is_name}
use Rattle.control_file.specs.Passes.{may_begin, fault_before_colon}

-- whether a colon stands behind the name bytes at the front
abbrev pub has_colon_behind : List ℕ → Bool
has_colon_behind line = is_colon (get_or line (prefix_len is_name_byte line) 0)

no-colon : (a c : Bool) → c ≡ true → (a && not c) ≡ false
no-colon true true e = refl
no-colon false true e = refl
no-colon true false e = cc
no-colon false false e = cc

-- a colon is no name byte
not_name : (x : ℕ) → is_colon x ≡ true → is_name_byte x ≡ false
not_name x e = no-colon (nat_le 33 x && nat_le x 126) (is_colon x) e

-- then what stands before the colon is all name bytes
colon_behind : (line : List ℕ) → list_any is_colon line ≡ true → has_colon_behind line ≡ list_all is_name_byte (before_first is_colon line)
colon_behind [] h = cc
colon_behind (x ∷ xs) h = by (is_colon x) (is_name_byte x) refl refl (colon_behind xs) h
  where
    by : (c n : Bool) → is_colon x ≡ c → is_name_byte x ≡ n → (list_any is_colon xs ≡ true → has_colon_behind xs ≡ list_all is_name_byte (before_first is_colon xs))
        → (c || list_any is_colon xs) ≡ true
        → is_colon (get_or (x ∷ xs) (cond n (1 + prefix_len is_name_byte xs) 0) 0) ≡ list_all is_name_byte (take (cond (not c) (1 + position_or_len is_colon xs) 0) (x ∷ xs))
    by true true ec en more h = let clash : is_name_byte x ≡ false = not_name x ec in absurd (cc)
    by true false ec en more h = ec
    by false true ec en more h =
        let p : 1 + prefix_len is_name_byte xs ≡ suc (prefix_len is_name_byte xs) = omega arith in
        let q : 1 + position_or_len is_colon xs ≡ suc (position_or_len is_colon xs) = omega arith in
        ap (λ k. is_colon (get_or (x ∷ xs) k 0)) p ∙ more h ∙ sym (ap (λ b. b && list_all is_name_byte (before_first is_colon xs)) en) ∙ sym (ap (λ k. list_all is_name_byte (take k (x ∷ xs))) q)
    by false false ec en more h =
        let q : 1 + position_or_len is_colon xs ≡ suc (position_or_len is_colon xs) = omega arith in
        ec ∙ sym (ap (λ b. b && list_all is_name_byte (before_first is_colon xs)) en) ∙ sym (ap (λ k. list_all is_name_byte (take k (x ∷ xs))) q)

-- and that colon is the first
pub name_ends : (line : List ℕ) → has_colon_behind line ≡ true → (list_any is_colon line ≡ true) × (prefix_len is_name_byte line ≡ position_or_len is_colon line)
name_ends [] h = cc
name_ends (x ∷ xs) h = by (is_colon x) (is_name_byte x) refl refl (name_ends xs) h
  where
    by : (c n : Bool) → is_colon x ≡ c → is_name_byte x ≡ n
        → (has_colon_behind xs ≡ true → (list_any is_colon xs ≡ true) × (prefix_len is_name_byte xs ≡ position_or_len is_colon xs))
        → is_colon (get_or (x ∷ xs) (cond n (1 + prefix_len is_name_byte xs) 0) 0) ≡ true
        → ((c || list_any is_colon xs) ≡ true) × (cond n (1 + prefix_len is_name_byte xs) 0 ≡ cond (not c) (1 + position_or_len is_colon xs) 0)
    by true true ec en more h = let clash : is_name_byte x ≡ false = not_name x ec in absurd (cc)
    by true false ec en more h = (refl, refl)
    by false true ec en more h =
        let p : suc (prefix_len is_name_byte xs) ≡ 1 + prefix_len is_name_byte xs = omega arith in
        let later = more (ap (λ k. is_colon (get_or (x ∷ xs) k 0)) p ∙ h) in
        (later.0, ap (λ k. 1 + k) later.1)
    by false false ec en more h = absurd (cc)

shuffled : (n b l : Bool) → (n && (b && l)) ≡ ((b && l) && (b && n))
shuffled true true true = refl
shuffled true true false = refl
shuffled true false l = refl
shuffled false true true = refl
shuffled false true false = refl
shuffled false false l = refl

-- what stands before the first colon is a name exactly where that colon stands behind name bytes, the first of which may begin a name
pub named : (line : List ℕ) → list_any is_colon line ≡ true → is_name (before_first is_colon line) ≡ (has_colon_behind line && begins may_begin line)
named [] h = cc
named (x ∷ xs) h = by (is_colon x) refl ∙ sym (ap (λ b. b && may_begin x) (colon_behind (x ∷ xs) h))
  where
    by : (c : Bool) → is_colon x ≡ c
        → is_name (take (cond (not c) (1 + position_or_len is_colon xs) 0) (x ∷ xs)) ≡ (list_all is_name_byte (take (cond (not c) (1 + position_or_len is_colon xs) 0) (x ∷ xs)) && may_begin x)
    by true ec = sym (ap (λ b. b && not (x == 35 || x == 45)) (not_name x ec))
    by false ec =
        let q : 1 + position_or_len is_colon xs ≡ suc (position_or_len is_colon xs) = omega arith in
        let P : ℕ → Type 0 = λ k. is_name (take k (x ∷ xs)) ≡ (list_all is_name_byte (take k (x ∷ xs)) && may_begin x) in
        subst P (sym q) (shuffled (not (x == 35 || x == 45)) (is_name_byte x) (list_all is_name_byte (before_first is_colon xs)))

-- there is a name before the first colon
pub name_there : (line : List ℕ) (len : ℕ) → len ≡ prefix_len is_name_byte line → is_colon (get_or line len 0) ≡ true → begins may_begin line ≡ true
    → (take len line ≡ before_first is_colon line) × (fault_before_colon line ≡ None)
name_there line len run colon first =
    let behind : has_colon_behind line ≡ true = ap (λ k. is_colon (get_or line k 0)) (sym run) ∙ colon in
    let ends = name_ends line behind in
    let is : is_name (before_first is_colon line) ≡ true = named line ends.0 ∙ and_from (has_colon_behind line) (begins may_begin line) behind first in (
      ap (λ k. take k line) (run ∙ ends.1),
      ap (λ a. cond (not a) (Some NoColon) (cond (not (is_name (before_first is_colon line))) (Some BadName) None)) ends.0 ∙ ap (λ b. cond (not b) (Some BadName) None) is,
    )

-- what stands before the first colon is no name
pub name_bad : (line : List ℕ) (len : ℕ) → len ≡ prefix_len is_name_byte line → list_any is_colon line ≡ true → (is_colon (get_or line len 0) && begins may_begin line) ≡ false
    → fault_before_colon line ≡ Some BadName
name_bad line len run any none =
    let is : is_name (before_first is_colon line) ≡ false = named line any ∙ ap (λ k. is_colon (get_or line k 0) && begins may_begin line) (sym run) ∙ none in
    ap (λ a. cond (not a) (Some NoColon) (cond (not (is_name (before_first is_colon line))) (Some BadName) None)) any ∙ ap (λ b. cond (not b) (Some BadName) None) is

-- there is no colon
pub colon_missing : (line : List ℕ) → list_any is_colon line ≡ false → fault_before_colon line ≡ Some NoColon
colon_missing line none = ap (λ a. cond (not a) (Some NoColon) (cond (not (is_name (before_first is_colon line))) (Some BadName) None)) none

pub and-false : (a b : Bool) → b ≡ false → (a && b) ≡ false
and-false true b e = e
and-false false b e = refl
