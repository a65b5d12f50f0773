-- Which texts begin a version, and how many bytes of a text do.
use Rattle.std.proofs.Common.{◌≡◌, ℕ, suc, ◌+◌, ◌-◌, ◌<◌, ◌≤◌, List, [], ◌∷◌, ◌++◌, Bool, true, false, cond, not, length, take, drop, ◌||◌, refl, ap, sym, subst, ◌∙◌, arith, nat_lt, append_assoc, length-append, take-append-drop}
use Rattle.std.specs.List.{list_any, list_all, prefix_len, suffix_len, before_first, before_last, after_last}
use Rattle.std.specs.Char.{is_ascii_digit}
use Rattle.std.proofs.Math.Bool.{or-true}
use Rattle.std.proofs.Math.Seq.{take-append_seam}
use Rattle.std.proofs.lemmas.Bool.{and_from, and_parts, ltb-true}
use Rattle.std.proofs.lemmas.Bool.Decides.{nat_tests}
use Rattle.std.proofs.lemmas.List.{reverse-append}
use Rattle.std.proofs.lemmas.List.Folds.{list_any-append}
use Rattle.std.proofs.lemmas.List.Sums.{prefix_len-le-length}
use Rattle.deb_version.specs.Versions.{is_colon, is_hyphen, has_epoch, epoch_of, rest_of, is_some_of, is_upstream_byte, is_version, BeginsVersion, IsLongestBeginning}
use Rattle.lists.proofs.Tests.{list_all_weaker, list_any-excluded, list_all-left, list_all-join, list_all-prefix, prefix_len-longest}
use Rattle.deb_version.proofs.Epochs.{split, drop_front, cut, is_rest, all_upstream, whole_plain, whole_epoch}

-- what makes a version of any front: an upstream byte, a hyphen and a revision
abbrev one : List ℕ
one = 49 ∷ []

abbrev ending : List ℕ
ending = 49 ∷ 45 ∷ 49 ∷ []

behind_ending : (r : List ℕ) → suffix_len (λ x. not (is_hyphen x)) (r ++ ending) ≡ 1
behind_ending r = ap (λ xs. prefix_len (λ x. not (is_hyphen x)) xs) (reverse-append r ending)

is_rest-ending : (e : Bool) (r : List ℕ) → list_all (is_upstream_byte e) r ≡ true → is_rest e (r ++ ending) ≡ true
is_rest-ending e r h =
    let some : list_any is_hyphen (r ++ ending) ≡ true = list_any-append is_hyphen r ending ∙ or-true (list_any is_hyphen r) in
    let behind = behind_ending r in
    let whole : r ++ ending ≡ (r ++ one) ++ (45 ∷ one) = sym (append_assoc r one (45 ∷ one)) in
    let front : before_last is_hyphen (r ++ ending) ≡ r ++ one =
    let size : length (r ++ ending) - 1 - 1 ≡ length (r ++ one) = omega (arith, length-append r ending, length-append r one) in
    rw (behind, size, whole) (take-append_seam (r ++ one) (45 ∷ one)) in
    let back : after_last is_hyphen (r ++ ending) ≡ one =
    let size : length (r ++ ending) - 1 ≡ suc (length (r ++ one)) = omega (arith, length-append r ending, length-append r one) in
    rw (behind, size, whole) (drop_front (r ++ one) one 45) in
    let long : nat_lt 0 (length (r ++ one)) ≡ true = let more = length-append r one in grind (arith, nat_tests) in
    let all : list_all (is_upstream_byte e) (r ++ one) ≡ true = list_all-join (is_upstream_byte e) r one h refl in
    rw (some, front, back, long, all)

-- ---- texts that begin a version

-- without an epoch no byte of the text is a colon
upstream_no_colon : (x : ℕ) → is_upstream_byte false x ≡ true → is_colon x ≡ false
upstream_no_colon x h =
    elim (is_colon x) as (λ b. is_colon x ≡ b → b ≡ false) [
      | true ↦ λ t. let here : x ≡ 58 = grind (arith, nat_tests) in absurd (colon_out x here h)
      | false ↦ λ _. refl
    ] refl
  where
    colon_out : (x : ℕ) → x ≡ 58 → is_upstream_byte false x ≡ true → ⊥
    colon_out x e k = let P : ℕ → Type 0 = λ y. is_upstream_byte false y ≡ true in let f : false ≡ true = subst P e k in cc

begins-plain : (s : List ℕ) → list_all (is_upstream_byte false) s ≡ true → BeginsVersion s
begins-plain s h =
    let none : has_epoch (s ++ ending) ≡ false = list_any-append is_colon s ending ∙ rw (list_any-excluded (is_upstream_byte false) is_colon upstream_no_colon s h) refl in
    (ending, whole_plain (s ++ ending) none ∙ is_rest-ending false s h)

begins-epoch : (e r : List ℕ) → has_epoch e ≡ false → is_some_of is_ascii_digit e ≡ true → list_all (is_upstream_byte true) r ≡ true → BeginsVersion (e ++ (58 ∷ r))
begins-epoch e r none num h =
    let joined : (e ++ (58 ∷ r)) ++ ending ≡ e ++ (58 ∷ (r ++ ending)) = append_assoc e (58 ∷ r) ending in
    (ending, ap is_version joined ∙ whole_epoch e (r ++ ending) none ∙ and_from (is_some_of is_ascii_digit e) (is_rest true (r ++ ending)) num (is_rest-ending true r h))

-- what a beginning with an epoch has
pub epoch-begins : (e r : List ℕ) → has_epoch e ≡ false → BeginsVersion (e ++ (58 ∷ r)) → (is_some_of is_ascii_digit e ≡ true) × (list_all (is_upstream_byte true) r ≡ true)
epoch-begins e r none (more, h) =
    let joined : (e ++ (58 ∷ r)) ++ more ≡ e ++ (58 ∷ (r ++ more)) = append_assoc e (58 ∷ r) more in
    let parts = and_parts (is_some_of is_ascii_digit e) (is_rest true (r ++ more)) (sym (ap is_version joined ∙ whole_epoch e (r ++ more) none) ∙ h) in
    (parts.0, list_all-left (is_upstream_byte true) r more (all_upstream true (r ++ more) parts.1))

digit_upstream : (x : ℕ) → is_ascii_digit x ≡ true → is_upstream_byte false x ≡ true
digit_upstream x h = rw h refl

-- what a beginning without one has
pub plain-begins : (s : List ℕ) → has_epoch s ≡ false → BeginsVersion s → list_all (is_upstream_byte false) s ≡ true
plain-begins s none (more, h) =
    elim (has_epoch more) as (λ b. has_epoch more ≡ b → list_all (is_upstream_byte false) s ≡ true) [
      | true ↦ λ t.
          let at = split more t in
          let joined : s ++ more ≡ (s ++ at.0) ++ (58 ∷ at.1) = ap (λ ys. s ++ ys) at.2 ∙ sym (append_assoc s at.0 (58 ∷ at.1)) in
          let free : has_epoch (s ++ at.0) ≡ false = list_any-append is_colon s at.0 ∙ rw (none, at.3) refl in
          let parts = and_parts (is_some_of is_ascii_digit (s ++ at.0)) (is_rest true at.1) (sym (ap is_version joined ∙ whole_epoch (s ++ at.0) at.1 free) ∙ h) in
          let digits = (and_parts (nat_lt 0 (length (s ++ at.0))) (list_all is_ascii_digit (s ++ at.0)) parts.0).1 in
          list_all_weaker is_ascii_digit (is_upstream_byte false) digit_upstream s (list_all-left is_ascii_digit s at.0 digits)
      | false ↦ λ t.
          let free : has_epoch (s ++ more) ≡ false = list_any-append is_colon s more ∙ rw (none, t) refl in
          list_all-left (is_upstream_byte false) s more (all_upstream false (s ++ more) (sym (whole_plain (s ++ more) free) ∙ h))
    ] refl

-- ---- how many bytes of a text do

take_past : (e r : List ℕ) (n m : ℕ) → n ≡ length e + 1 + m → take n (e ++ (58 ∷ r)) ≡ e ++ (58 ∷ take m r)
take_past [] r n m h = let k : n ≡ suc m = omega arith in rw k refl
take_past (x ∷ e) r n m h = let k : n ≡ suc (length e + 1 + m) = omega arith in rw k (ap (λ ys. x ∷ ys) (take_past e r (length e + 1 + m) m refl))

longest_cut : (e r : List ℕ) → has_epoch e ≡ false → is_some_of is_ascii_digit e ≡ true → IsLongestBeginning (e ++ (58 ∷ r)) (length e + 1 + prefix_len (is_upstream_byte true) r)
longest_cut e r none num =
    let k : ℕ = prefix_len (is_upstream_byte true) r in
    let size : length (e ++ (58 ∷ r)) ≡ length e + suc (length r) = length-append e (58 ∷ r) in
    record {
      within = omega (arith, size, prefix_len-le-length (is_upstream_byte true) r);
      begins = rw (take_past e r (length e + 1 + k) k refl) (begins-epoch e (take k r) none num (list_all-prefix (is_upstream_byte true) r));
      longest = λ n le begins.
          elim (nat_lt (length e) n) as (λ b. nat_lt (length e) n ≡ b → n ≤ length e + 1 + k) [
            | true ↦ λ t.
                let past : length e < n = ltb-true (length e) n t in
                let m : ℕ = n - length e - 1 in
                let front : take n (e ++ (58 ∷ r)) ≡ e ++ (58 ∷ take m r) = take_past e r n m (omega (arith, past)) in
                let all = (epoch-begins e (take m r) none (subst BeginsVersion front begins)).1 in
                let fits : m ≤ k = prefix_len-longest (is_upstream_byte true) r m (omega (arith, size, le, past)) all in
                omega (arith, fits, past)
            | false ↦ λ t. let upto : n ≤ length e = grind (arith, nat_tests) in omega (arith, upto)
          ] refl;
    }

-- a number before the first colon shows that there is a colon
epoch_there : (text : List ℕ) → is_some_of is_ascii_digit (epoch_of text) ≡ true → has_epoch text ≡ true
epoch_there text num =
    elim (has_epoch text) as (λ b. is_some_of is_ascii_digit (cond b (before_first is_colon text) []) ≡ true → b ≡ true) [
      | true ↦ λ _. refl
      | false ↦ λ k. absurd (cc)
    ] num

abbrev with_epoch : List ℕ → ℕ
with_epoch text = length (epoch_of text) + 1 + prefix_len (is_upstream_byte true) (rest_of text)

pub longest-epoch : (text : List ℕ) → is_some_of is_ascii_digit (epoch_of text) ≡ true → IsLongestBeginning text (length (epoch_of text) + 1 + prefix_len (is_upstream_byte true) (rest_of text))
longest-epoch text num =
    let at = split text (epoch_there text num) in
    let parts = cut at.0 at.1 at.3 in
    let same : epoch_of text ≡ at.0 = ap epoch_of at.2 ∙ parts.front in
    let number : is_some_of is_ascii_digit at.0 ≡ true = sym (ap (is_some_of is_ascii_digit) same) ∙ num in
    let size : with_epoch text ≡ length at.0 + 1 + prefix_len (is_upstream_byte true) at.1 = λ i. length (same i) + 1 + prefix_len (is_upstream_byte true) ((ap rest_of at.2 ∙ parts.behind) i) in
    let P : ℕ → Type 0 = λ n. IsLongestBeginning text n in
    let Q : List ℕ → Type 0 = λ t. IsLongestBeginning t (length at.0 + 1 + prefix_len (is_upstream_byte true) at.1) in
    subst P (sym size) (subst Q (sym at.2) (longest_cut at.0 at.1 at.3 number))

pub longest-plain : (text : List ℕ) → is_some_of is_ascii_digit (epoch_of text) ≡ false → IsLongestBeginning text (prefix_len (is_upstream_byte false) text)
longest-plain text num =
    record {
      within = prefix_len-le-length (is_upstream_byte false) text;
      begins = begins-plain (take (prefix_len (is_upstream_byte false) text) text) (list_all-prefix (is_upstream_byte false) text);
      longest = λ n le begins.
          elim (has_epoch (take n text)) as (λ b. has_epoch (take n text) ≡ b → n ≤ prefix_len (is_upstream_byte false) text) [
            | true ↦ λ t.
                let at = split (take n text) t in
                let number = (epoch-begins at.0 at.1 at.3 (subst BeginsVersion at.2 begins)).0 in
                let whole : text ≡ at.0 ++ (58 ∷ (at.1 ++ drop n text)) =
                sym (take-append-drop n text) ∙ ap (λ ys. ys ++ drop n text) at.2 ∙ append_assoc at.0 (58 ∷ at.1) (drop n text) in
                let same : epoch_of text ≡ at.0 = ap epoch_of whole ∙ (cut at.0 (at.1 ++ drop n text) at.3).front in
                let clash : true ≡ false = sym number ∙ sym (ap (is_some_of is_ascii_digit) same) ∙ num in
                absurd (cc)
            | false ↦ λ t. prefix_len-longest (is_upstream_byte false) text n le (plain-begins (take n text) t begins)
          ] refl;
    }

-- the epoch of a version has digits alone
pub epoch-digits : (text : List ℕ) → is_version text ≡ true → list_all is_ascii_digit (epoch_of text) ≡ true
epoch-digits text h =
    elim (has_epoch text) as (λ b. (not b || is_some_of is_ascii_digit (cond b (before_first is_colon text) [])) ≡ true → list_all is_ascii_digit (cond b (before_first is_colon text) []) ≡ true) [
      | true ↦ λ k. (and_parts (nat_lt 0 (length (before_first is_colon text))) (list_all is_ascii_digit (before_first is_colon text)) k).1
      | false ↦ λ _. refl
    ] (and_parts (not (has_epoch text) || is_some_of is_ascii_digit (epoch_of text)) (is_rest (has_epoch text) (rest_of text)) h).0
