-- Items with one key are met by the same versions, so they have the same rows.
use Rattle.std.proofs.Common.{◌≡◌, ◌+◌, ◌∙◌, ℕ, suc, List, [], ◌∷◌, Bool, true, false, ◌&&◌, ◌||◌, not, cond, map, length, refl, sym, ap, subst}
use Rattle.std.specs.List.{filter, enumerate_from, list_any}
use Rattle.lists.specs.Below.{below}
use Rattle.lists.specs.Sets.{has}
use Rattle.dep_fields.specs.Relationships.{Relationship}
use Rattle.universe_model.specs.Lists.{number_in, numbers_of}
use Rattle.universe_model.specs.Versions.{is_of}
use Rattle.universe_model.specs.Meeting.{meets}
use Rattle.universe_model.specs.Dependencies.{Setting, is_met_in}
use Rattle.meeting_index.specs.Numbers.{numbers_from}
use Rattle.meeting_index.specs.Carriers.{Carrier}
use Rattle.meeting_index.specs.Keys.{Asks, IsKeyOf}
use Rattle.meeting_index.specs.declared.keys.AnswerKey.{AnswerKey}
use Rattle.requirement_list.specs.Extents.{lists}
use Rattle.requirement_list.specs.Left.{Left}
use Rattle.requirement_list.specs.Answers.{index_in, met_packages, left_by, row_of}
use Rattle.requirement_list.specs.declared.answers.Extent.{Extent}
use Rattle.requirement_list.proofs.Numbers.{passes, has_numbers}

same_tests : (a b : Bool) → (a ≡ true → b ≡ true) → (b ≡ true → a ≡ true) → a ≡ b
same_tests true b there back = sym (there refl)
same_tests false true there back = back refl
same_tests false false there back = refl

-- ---- tests that agree at each number of a list

any_same : {A : Type 0} (a m k : A → Bool) (xs : List A) → ((n : ℕ) → passes m xs n ≡ passes k xs n) → list_any (λ x. a x && m x) xs ≡ list_any (λ x. a x && k x) xs
any_same a m k [] h = refl
any_same a m k (x ∷ xs) h =
    ap (λ b. (a x && b) || list_any (λ y. a y && m y) xs) (h 0) ∙ ap (λ b. (a x && k x) || b) (any_same a m k xs (λ n. h (suc n)))

numbers_step : {A : Type 0} (b : Bool) (n : ℕ) (x : A) (f g : List (ℕ × A)) → map (number_in {A = A}) f ≡ map (number_in {A = A}) g
    → map (number_in {A = A}) (cond b ((n, x) ∷ f) f) ≡ map (number_in {A = A}) (cond b ((n, x) ∷ g) g)
numbers_step true n x f g h = ap (λ ns. n ∷ ns) h
numbers_step false n x f g h = h

numbers_same : {A : Type 0} (n : ℕ) (a m k : A → Bool) (xs : List A) → ((i : ℕ) → passes m xs i ≡ passes k xs i)
    → numbers_from n (λ x. a x && not (m x)) xs ≡ numbers_from n (λ x. a x && not (k x)) xs
numbers_same n a m k [] h = refl
numbers_same {A} n a m k (x ∷ xs) h =
    let rest = enumerate_from (n + 1) xs in
    let f = filter (λ (numbered : ℕ × A). a numbered.1 && not (m numbered.1)) rest in
    let g = filter (λ (numbered : ℕ × A). a numbered.1 && not (k numbered.1)) rest in
    ap (λ b. map (number_in {A = A}) (cond (a x && not b) ((n, x) ∷ f) f)) (h 0)
    ∙ numbers_step (a x && not (k x)) n x f g (numbers_same (n + 1) a m k xs (λ i. h (suc i)))

filter_same : (p q : ℕ → Bool) (xs : List ℕ) → ((c : ℕ) → p c ≡ q c) → filter p xs ≡ filter q xs
filter_same p q [] h = refl
filter_same p q (x ∷ xs) h = rw (h x, filter_same p q xs h) refl

map_same : (f g : ℕ → Left) (xs : List ℕ) → ((c : ℕ) → f c ≡ g c) → map f xs ≡ map g xs
map_same f g [] h = refl
map_same f g (x ∷ xs) h = rw (h x, map_same f g xs h) refl

-- ---- rows of items that the same versions meet

rows_alike : (s : Setting) (i j : Relationship) (extent : Extent) → ((n : ℕ) → passes (meets s.native i) s.versions n ≡ passes (meets s.native j) s.versions n) → row_of s i extent ≡ row_of s j extent
rows_alike s i j extent h =
    ap (map (left_by s i extent)) (filter_same (is_met_in s i) (is_met_in s j) (below (length s.installed)) (λ q. any_same (is_of q) (meets s.native i) (meets s.native j) s.versions h))
    ∙ map_same (left_by s i extent) (left_by s j extent) (met_packages s j) one
  where
    one : (q : ℕ) → left_by s i extent q ≡ left_by s j extent q
    one q =
        ap (λ vs. let left : Left = record { owner = q; versions = cond (lists extent q) vs [] } in left)
        (numbers_same 0 (is_of q) (meets s.native i) (meets s.native j) s.versions h)

-- the same carrier stands at both edges
asked : (s : Setting) (i j : Relationship) (key : AnswerKey) (a : IsKeyOf (index_in s) i key) (b : IsKeyOf (index_in s) j key) → Asks s.native a.carrier key.span j
asked s i j key a b =
    let same : b.carrier ≡ a.carrier = cc (a.is, b.is) in
    let P : Carrier → Type 0 = λ carrier. Asks s.native carrier key.span j in
    subst P same b.asks

pub same_row : (s : Setting) (i j : Relationship) (key : AnswerKey) (extent : Extent) → IsKeyOf (index_in s) i key → IsKeyOf (index_in s) j key → row_of s i extent ≡ row_of s j extent
same_row s i j key extent a b =
    rows_alike s i j extent (λ n.
    sym (has_numbers (meets s.native i) s.versions n)
    ∙ same_tests (has (numbers_of (meets s.native i) s.versions) n) (has (numbers_of (meets s.native j) s.versions) n) (a.least j (asked s i j key a b) n) (b.least i (asked s j i key b a) n)
    ∙ has_numbers (meets s.native j) s.versions n)
