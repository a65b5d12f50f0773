-- Values by name, found by their place.
use Rattle.std.proofs.Common.{◌≡◌, ℕ, ◌<◌, ◌≤◌, Bool, true, false, cond, List, [], ◌∷◌, ◌++◌, length, map, get_or, set, Option, Some, None, refl, sym, ap, ◌∙◌, arith, suc, zero, string_bytes, is_some}
use Rattle.std.specs.Str.{bytes_eq}
use Rattle.std.specs.List.{position, position_or_len}
use Rattle.std.proofs.lemmas.List.Quantifiers.{position-Some}
use Rattle.std.proofs.lemmas.List.Sums.{fails_before_first}
use Rattle.std.proofs.lemmas.Bool.{ltb-false}
use Rattle.std.proofs.lemmas.List.{map-append}
use Rattle.apt_base.specs.Faults.{at_name, raised}
use Rattle.apt_base.specs.Asked.{pair_of, counts_of, with_name, with_fault}
use Rattle.apt_base.specs.declared.asked.Entry.{Entry}

same_pair : (a b : List ℕ) (m n : ℕ) → a ≡ b → m ≡ n → ◌≡◌ {A = List ℕ × ℕ} (a, m) (b, n)
same_pair a b m n p q = cc

at_place : {X V : Type 0} (key : X → List ℕ) (value : X → V) (name : List ℕ) (xs : List X) (place : ℕ) (d : X) → place < length xs → bytes_eq name (key (get_or xs place d)) ≡ true → ((k : ℕ) → k < place → bytes_eq name (key (get_or xs k d)) ≡ false) → at_name (map (λ x. (key x, value x)) xs) name ≡ Some (value (get_or xs place d))
at_place key value name [] place d inside here before = absurd (omega arith)
at_place key value name (x ∷ xs) zero d inside here before = rw here refl
at_place key value name (x ∷ xs) (suc place) d inside here before =
    let other = before 0 (omega arith) in
    rw other (at_place key value name xs place d (omega arith) here (λ k lt. before (suc k) (omega arith)))

nowhere : {X V : Type 0} (key : X → List ℕ) (value : X → V) (name : List ℕ) (xs : List X) → ((k : ℕ) (d : X) → k < length xs → bytes_eq name (key (get_or xs k d)) ≡ false) → at_name (map (λ x. (key x, value x)) xs) name ≡ None
nowhere key value name [] each = refl
nowhere key value name (x ∷ xs) each =
    let other = each 0 x (omega arith) in
    rw other (nowhere key value name xs (λ k d lt. each (suc k) d (omega arith)))

none_at : (b : Bool) (n : ℕ) → None ≡ cond b (Some n) None → b ≡ false
none_at true n at = cc
none_at false n at = refl

-- what stands at the place that was found
pub named_at : {X V : Type 0} (key : X → List ℕ) (value : X → V) (name : List ℕ) (xs : List X) (place : ℕ) (d : X) → Some place ≡ position (λ x. bytes_eq name (key x)) xs → at_name (map (λ x. (key x, value x)) xs) name ≡ Some (value (get_or xs place d))
named_at key value name xs place d at =
    let here = position-Some (λ x. bytes_eq name (key x)) xs place d (sym at) in
    at_place key value name xs place d here.0 here.1 here.2

-- no place was found
pub not_named : {X V : Type 0} (key : X → List ℕ) (value : X → V) (name : List ℕ) (xs : List X) → None ≡ position (λ x. bytes_eq name (key x)) xs → at_name (map (λ x. (key x, value x)) xs) name ≡ None
not_named key value name xs at =
    let past : length xs ≤ position_or_len (λ x. bytes_eq name (key x)) xs = ltb-false _ _ (none_at _ _ at) in
    nowhere key value name xs (λ k d lt. fails_before_first (λ x. bytes_eq name (key x)) xs k d (omega arith))

-- whether a place was found
pub is_named : {X V : Type 0} (key : X → List ℕ) (value : X → V) (name : List ℕ) (xs : List X) (found : Option ℕ) → found ≡ position (λ x. bytes_eq name (key x)) xs → is_some found ≡ is_some (at_name (map (λ x. (key x, value x)) xs) name)
is_named key value name xs None at = ap is_some (sym (not_named key value name xs at))
is_named key value name [] (Some place) at = ap is_some at
is_named key value name (x ∷ xs) (Some place) at = ap is_some (sym (named_at key value name (x ∷ xs) place x at))

-- a name that is there is not entered again
pub entered_before : (name : List ℕ) (es : List Entry) (found : Option ℕ) → found ≡ position (λ e. bytes_eq name (string_bytes e.name)) es → is_some found ≡ true → counts_of es ≡ with_name (counts_of es) name
entered_before name es found at is =
    let there : is_some (at_name (counts_of es) name) ≡ true = sym (is_named (λ e. string_bytes e.name) (λ e. e.faults) name es found at) ∙ is in
    sym (ap (λ b. cond b (counts_of es) (counts_of es ++ (name, 0) ∷ [])) there)

pub entered_now : (name : List ℕ) (es : List Entry) (found : Option ℕ) (e : Entry) → found ≡ position (λ e. bytes_eq name (string_bytes e.name)) es → is_some found ≡ false → string_bytes e.name ≡ name → e.faults ≡ 0 → counts_of (es ++ e ∷ []) ≡ with_name (counts_of es) name
entered_now name es found e at is named zero_faults =
    let there : is_some (at_name (counts_of es) name) ≡ false = sym (is_named (λ e. string_bytes e.name) (λ e. e.faults) name es found at) ∙ is in
    map-append pair_of es (e ∷ []) ∙ ap (λ p. counts_of es ++ p ∷ []) (same_pair _ _ _ _ named zero_faults) ∙ sym (ap (λ b. cond b (counts_of es) (counts_of es ++ (name, 0) ∷ [])) there)

fault_at : (name : List ℕ) (es : List Entry) (place : ℕ) (d e : Entry) → place < length es → bytes_eq name (string_bytes (get_or es place d).name) ≡ true → ((k : ℕ) → k < place → bytes_eq name (string_bytes (get_or es k d).name) ≡ false) → string_bytes e.name ≡ string_bytes (get_or es place d).name → e.faults ≡ raised (get_or es place d).faults → counts_of (set es place e) ≡ with_fault (counts_of es) name
fault_at name [] place d e inside here before named faults = absurd (omega arith)
fault_at name (x ∷ es) zero d e inside here before named faults = rw here (ap (λ p. p ∷ counts_of es) (same_pair _ _ _ _ named faults))
fault_at name (x ∷ es) (suc place) d e inside here before named faults =
    let other = before 0 (omega arith) in
    rw other (ap (λ l. pair_of x ∷ l) (fault_at name es place d e (omega arith) here (λ k lt. before (suc k) (omega arith)) named faults))

-- the count of the first entry with this name was raised
pub raised_at : (name : List ℕ) (es : List Entry) (place : ℕ) (old new : Entry) → Some place ≡ position (λ e. bytes_eq name (string_bytes e.name)) es → old ≡ get_or es place old → string_bytes new.name ≡ string_bytes old.name → new.faults ≡ raised old.faults → counts_of (set es place new) ≡ with_fault (counts_of es) name
raised_at name es place old new at is named faults =
    let here = position-Some (λ e. bytes_eq name (string_bytes e.name)) es place old (sym at) in
    fault_at name es place old new here.0 here.1 here.2 (named ∙ ap (λ e. string_bytes e.name) is) (faults ∙ ap (λ e. raised e.faults) is)

none_raised : (name : List ℕ) (es : List Entry) → ((k : ℕ) (d : Entry) → k < length es → bytes_eq name (string_bytes (get_or es k d).name) ≡ false) → counts_of es ≡ with_fault (counts_of es) name
none_raised name [] each = refl
none_raised name (x ∷ es) each =
    let other = each 0 x (omega arith) in
    rw other (ap (λ l. pair_of x ∷ l) (none_raised name es (λ k d lt. each (suc k) d (omega arith))))

pub not_raised : (name : List ℕ) (es : List Entry) → None ≡ position (λ e. bytes_eq name (string_bytes e.name)) es → counts_of es ≡ with_fault (counts_of es) name
not_raised name es at =
    let past : length es ≤ position_or_len (λ e. bytes_eq name (string_bytes e.name)) es = ltb-false _ _ (none_at _ _ at) in
    none_raised name es (λ k d lt. fails_before_first (λ e. bytes_eq name (string_bytes e.name)) es k d (omega arith))
