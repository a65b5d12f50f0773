-- The parts and words of a text that is put together.
use Rattle.std.proofs.Common.{◌≡◌, ℕ, List, [], ◌∷◌, ◌++◌, Bool, true, false, not, nat_eq, refl, append-nil}
use Rattle.std.specs.List.{list_all}
use Rattle.std.proofs.lemmas.Bool.{and_parts, eq-eqb, not-true}
use Rattle.cost_vector.specs.Grammar.{parts}

-- no byte of the text is c
abbrev pub lacks : ℕ → List ℕ → Bool
lacks c text = list_all (λ b. not (nat_eq b c)) text

-- the first part, and the others
pub record Cut (c : ℕ) (text : List ℕ) : Type 0 where
  pub first : List ℕ
  pub others : List (List ℕ)
  pub is : parts c text ≡ first ∷ others

pub cut : (c : ℕ) (text : List ℕ) → Cut c text
cut c [] = record { first = []; others = []; is = refl }
cut c (b ∷ bs) =
    let rest = cut c bs in
    elim (nat_eq b c) as (λ r. nat_eq b c ≡ r → Cut c (b ∷ bs)) [
      | true ↦ λ e. record { first = []; others = parts c bs; is = rw e refl }
      | false ↦ λ e. record { first = b ∷ rest.first; others = rest.others; is = rw (e, rest.is) refl }
    ] refl

-- bytes other than c go to the first part
pub parts-onto : (c : ℕ) (front text first : List ℕ) (others : List (List ℕ)) → lacks c front ≡ true → parts c text ≡ first ∷ others → parts c (front ++ text) ≡ (front ++ first) ∷ others
parts-onto c [] text first others h e = e
parts-onto c (b ∷ front) text first others h e =
    let both = and_parts (not (nat_eq b c)) (lacks c front) h in
    let other : nat_eq b c ≡ false = not-true (nat_eq b c) both.0 in
    rw (other, parts-onto c front text first others both.1 e) refl

-- a text without c is one part
pub parts-one : (c : ℕ) (text : List ℕ) → lacks c text ≡ true → parts c text ≡ text ∷ []
parts-one c text h = simp append-nil at (parts-onto c text [] [] [] h refl)

-- c ends the first part
pub parts-at : (c : ℕ) (front text : List ℕ) → lacks c front ≡ true → parts c (front ++ c ∷ text) ≡ front ∷ parts c text
parts-at c front text h =
    let here : parts c (c ∷ text) ≡ [] ∷ parts c text = rw (eq-eqb c c refl) refl in
    simp append-nil at (parts-onto c front (c ∷ text) [] (parts c text) h here)

-- a text with c has two parts or more
pub record CutTwice (c : ℕ) (text : List ℕ) : Type 0 where
  pub first : List ℕ
  pub second : List ℕ
  pub others : List (List ℕ)
  pub is : parts c text ≡ first ∷ second ∷ others

pub cut_twice : (c : ℕ) (text : List ℕ) → lacks c text ≡ false → CutTwice c text
cut_twice c [] h = absurd (cc)
cut_twice c (b ∷ bs) h = elim (nat_eq b c) as (λ r. nat_eq b c ≡ r → CutTwice c (b ∷ bs)) [
  | true ↦ λ e. let rest = cut c bs in record { first = []; second = rest.first; others = rest.others; is = rw (e, rest.is) refl }
  | false ↦ λ e. let later : lacks c bs ≡ false = rw e at h in let rest = cut_twice c bs later in record { first = b ∷ rest.first; second = rest.second; others = rest.others; is = rw (e, rest.is) refl }
] refl
