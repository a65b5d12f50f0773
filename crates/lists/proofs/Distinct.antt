-- Distinct items: no two of them are the same, each item is the same as one of them, and one more at the end.
use Rattle.std.proofs.Common.{◌≡◌, List, [], ◌∷◌, ◌++◌, Bool, true, false, not, cond, ◌||◌, if◌then◌else◌, refl, sym, ap, ◌∙◌, All, AllPairs, arith}
use Rattle.std.proofs.lemmas.Bool.{not-true, not-false}
use Rattle.std.proofs.lemmas.List.{append-nil}
use Rattle.std.proofs.lemmas.List.Elements.{filter-append, All-nil, All-cons, All-head, All-tail, All-filter, All-weaker, filter_passes}
use Rattle.std.proofs.lemmas.List.Kept.{AllPairs-cons, AllPairs-filter}
use Rattle.std.specs.List.{filter, list_any}
use Rattle.std.specs.Cmp.{IsEquivalence}
use Rattle.lists.specs.Distinct.{distinct}
use Rattle.lists.proofs.Tests.{list_any-alike, list_any-filter}

module _ {A : Type 0} where
  first-cases : (p : A → Bool) (same : A → A → Bool) → ((x z : A) → same x z ≡ true → p x ≡ p z) → (x : A) (ds xs : List A) (b : Bool) → p x ≡ b
      → list_any p ds ≡ list_any p xs
      → (b || list_any p (filter (λ y. not (same x y)) ds)) ≡ (b || list_any p xs)
  first-cases p same respects x ds xs true e rest = refl
  first-cases p same respects x ds xs false e rest =
      list_any-filter p (λ y. not (same x y)) (λ z out. sym (respects x z (not-false (same x z) out)) ∙ e) ds ∙ rest

  -- a test that the same items pass alike finds one among the distinct items where it finds one at all
  pub list_any-distinct : (p : A → Bool) (same : A → A → Bool) → ((x z : A) → same x z ≡ true → p x ≡ p z) → (xs : List A)
      → list_any p (distinct same xs) ≡ list_any p xs
  list_any-distinct p same respects [] = refl
  list_any-distinct p same respects (x ∷ xs) =
      first-cases p same respects x (distinct same xs) xs (p x) refl (list_any-distinct p same respects xs)

  last-cases : (k : A → Bool) (y : A) (s b : Bool) → k y ≡ not s → filter k (cond b [] (y ∷ [])) ≡ cond (s || b) [] (y ∷ [])
  last-cases k y true true e = refl
  last-cases k y false true e = refl
  last-cases k y true false e = ap (λ c. cond c (y ∷ []) []) e
  last-cases k y false false e = ap (λ c. cond c (y ∷ []) []) e

  -- the last item is kept unless an earlier one is the same
  distinct-append : (same : A → A → Bool) (xs : List A) (y : A)
      → distinct same (xs ++ y ∷ []) ≡ distinct same xs ++ cond (list_any (λ x. same x y) xs) [] (y ∷ [])
  distinct-append same [] y = refl
  distinct-append same (x ∷ xs) y =
      ap (λ rest. x ∷ filter (λ z. not (same x z)) rest) (distinct-append same xs y)
      ∙ ap (λ rest. x ∷ rest) (filter-append (λ z. not (same x z)) (distinct same xs) (cond (list_any (λ z. same z y) xs) [] (y ∷ [])))
      ∙ ap (λ rest. x ∷ (filter (λ z. not (same x z)) (distinct same xs) ++ rest)) (last-cases (λ z. not (same x z)) y (same x y) (list_any (λ z. same z y) xs) refl)

  append-cases : (b : Bool) (zs : List A) (y : A) → zs ++ cond b [] (y ∷ []) ≡ (if b then zs else zs ++ y ∷ [])
  append-cases true zs y = append-nil zs
  append-cases false zs y = refl

  -- one more item: the distinct items stay where one of them is the same, and else it goes last
  pub distinct-push : (same : A → A → Bool) → IsEquivalence same → (xs : List A) (y : A)
      → distinct same (xs ++ y ∷ []) ≡ (if list_any (same y) (distinct same xs) then distinct same xs else distinct same xs ++ y ∷ [])
  distinct-push same laws xs y =
      distinct-append same xs y
      ∙ append-cases (list_any (λ x. same x y) xs) (distinct same xs) y
      ∙ ap (λ b. if b then distinct same xs else distinct same xs ++ y ∷ [])
      (list_any-alike (λ x. same x y) (same y) (λ x. laws.symm x y) xs
      ∙ sym (list_any-distinct (same y) same (λ x z alike. laws.symm y x ∙ laws.congr x z y alike ∙ laws.symm z y) xs))

pub AllPairs-nil : {A : Type 0} (R : A → A → Type 0) → AllPairs R []
AllPairs-nil R i j d l k = absurd (omega arith)

module _ {A : Type 0} (same : A → A → Bool) where
  pub All-distinct : (P : A → Type 0) (xs : List A) → All P xs → All P (distinct same xs)
  All-distinct P [] h = All-nil P
  All-distinct P (x ∷ xs) h =
      All-cons P x (filter (λ y. not (same x y)) (distinct same xs)) (All-head P x xs h)
      (All-filter (λ y. not (same x y)) P (distinct same xs) (All-distinct P xs (All-tail P x xs h)))

  pub AllPairs-distinct : (xs : List A) → AllPairs (λ x y. same x y ≡ false) (distinct same xs)
  AllPairs-distinct [] = AllPairs-nil (λ x y. same x y ≡ false)
  AllPairs-distinct (x ∷ xs) =
      let more : List A = filter (λ y. not (same x y)) (distinct same xs) in
      AllPairs-cons (λ x y. same x y ≡ false) x more
      (All-weaker (λ y. not (same x y) ≡ true) (λ y. same x y ≡ false) (λ y. not-true (same x y)) more (filter_passes (λ y. not (same x y)) (distinct same xs)))
      (AllPairs-filter (λ x y. same x y ≡ false) (λ y. not (same x y)) (distinct same xs) (AllPairs-distinct xs))
