-- Members of joined lists, and lists in which each two are apart.
use Rattle.std.proofs.Common.{inl, inr, ◌≡◌, ◌⊎◌, List, [], ◌∷◌, ◌++◌, refl, sym, subst, ◌∙◌}
use Rattle.std.specs.List.{flat_map}
use Rattle.lists.proofs.Members.{Member-flat_map_from, Member-append_cases, Member}
use Rattle.laws_session.specs.Laws.{AreApart}

pub AreApart-append : {X : Type 0} (R : X → X → Type 0) (xs ys : List X) → AreApart R xs → AreApart R ys → ((x y : X) → Member x xs → Member y ys → R x y) → AreApart R (xs ++ ys)
AreApart-append R [] ys a b c = b
AreApart-append R (x ∷ xs) ys a b c = (
  λ y m. elim (Member-append_cases y xs ys m) as (λ _. R x y) [ inl l ↦ a.0 y l | inr r ↦ c x y (inl refl) r ],
  AreApart-append R xs ys a.1 b (λ z y m k. c z y (inr m) k),
)

-- what each item becomes is apart, if it is apart in itself and from what the others become
pub AreApart-flat_map : {X : Type 0} (R S : X → X → Type 0) (f : X → List X) (xs : List X) → ((x : X) → Member x xs → AreApart S (f x)) → ((x y a b : X) → Member x xs → Member y xs → R x y → Member a (f x) → Member b (f y) → S a b) → AreApart R xs → AreApart S (flat_map f xs)
AreApart-flat_map R S f [] each pairs apart = apart
AreApart-flat_map R S f (x ∷ xs) each pairs apart =
    AreApart-append S (f x) (flat_map f xs) (each x (inl refl))
    (AreApart-flat_map R S f xs (λ y m. each y (inr m)) (λ y z a b m k r. pairs y z a b (inr m) (inr k) r) apart.1)
    (λ a b m k. let from = Member-flat_map_from f xs b k in pairs x from.0 a b (inl refl) (inr from.1) (apart.0 from.0 from.1) m from.2)

-- two members of such a list are the same, or one is apart from the other
pub apart_cases : {X : Type 0} (R : X → X → Type 0) (xs : List X) (x y : X) → AreApart R xs → Member x xs → Member y xs → (x ≡ y) ⊎ (R x y ⊎ R y x)
apart_cases R [] x y a m k = absurd m
apart_cases R (z ∷ xs) x y a m k =
    elim m as (λ _. (x ≡ y) ⊎ (R x y ⊎ R y x)) [
      | inl e ↦
          elim k as (λ _. (x ≡ y) ⊎ (R x y ⊎ R y x)) [
            | inl f ↦ inl (e ∙ sym f)
            | inr there ↦ inr (inl (subst (λ w. R w y) (sym e) (a.0 y there)))
          ]
      | inr here ↦
          elim k as (λ _. (x ≡ y) ⊎ (R x y ⊎ R y x)) [
            | inl f ↦ inr (inr (subst (λ w. R w x) (sym f) (a.0 x here)))
            | inr there ↦ apart_cases R xs x y a.1 here there
          ]
    ]
