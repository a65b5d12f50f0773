-- What a history says of the rules, the deliveries and the cursor stands in its answers alone, "not yet" aside.
use Rattle.std.proofs.Common.{inl, inr, ◌≡◌, ℕ, ◌+◌, List, [], ◌∷◌, true, false, cond, refl, ap, sym, subst, ◌∙◌, length}
use Rattle.std.specs.List.{fold}
use Rattle.std.specs.Option.{unwrap_or}
use Rattle.resolver_model.specs.declared.history.Reply.TheVariants.{Solution, NotYet}
use Rattle.resolver_model.specs.declared.history.Entry.{Entry}
use Rattle.resolver_model.specs.declared.history.Entry.TheVariants.{Say, Take, Put, Back}
use Rattle.resolver_model.specs.Problems.{Problem}
use Rattle.resolver_model.specs.Costs.{Table, IsBefore}
use Rattle.resolver_model.specs.Rules.{Rules}
use Rattle.resolver_model.specs.First.{is_obtainable, IsFirst, IsNoneLeft}
use Rattle.resolver_model.specs.Histories.{History, given_at, cursor_at, shown_by, rules_at, rules_after}
use Rattle.resolver_model.proofs.SetOrder.{cases_set_cmp}
use Rattle.resolver_model.proofs.Enumerations.{not_both_before}
use Rattle.laws_session.specs.Laws.{is_told, told}

-- what no untold entry changes is the same of the told ones alone
fold_told : {B : Type 0} (f : B → Entry → B) → ((b : B) (entry : Entry) → is_told entry ≡ false → f b entry ≡ b) → (b : B) (history : History) → fold f b (told history) ≡ fold f b history
fold_told f still b [] = refl
fold_told {B} f still b (entry ∷ history) =
    elim (is_told entry) as (λ r. is_told entry ≡ r → fold f b (cond r (entry ∷ told history) (told history)) ≡ fold f (f b entry) history) [
      | true ↦ λ _. fold_told f still (f b entry) history
      | false ↦ λ u. fold_told f still b history ∙ ap (λ c. fold f c history) (sym (still b entry u))
    ] refl

rules_untold : (rules : Rules) (entry : Entry) → is_told entry ≡ false → rules_after rules entry ≡ rules
rules_untold rules (Say actor said (NotYet steps)) h = refl
rules_untold rules (Say actor said reply) h = absurd (cc)
rules_untold rules (Take actor leaf) h = refl
rules_untold rules (Put actor leaf by learned) h = refl
rules_untold rules (Back actor leaf) h = refl

cursor_untold : (cursor : ℕ) (entry : Entry) → is_told entry ≡ false → unwrap_or (shown_by entry) cursor ≡ cursor
cursor_untold cursor (Say actor said (NotYet steps)) h = refl
cursor_untold cursor (Say actor said reply) h = absurd (cc)
cursor_untold cursor (Take actor leaf) h = refl
cursor_untold cursor (Put actor leaf by learned) h = refl
cursor_untold cursor (Back actor leaf) h = refl

pub rules_at-told : (first : Rules) (history : History) → rules_at first (told history) ≡ rules_at first history
rules_at-told first history = fold_told rules_after rules_untold first history

pub cursor_at-told : (history : History) → cursor_at (told history) ≡ cursor_at history
cursor_at-told history = fold_told (λ (cursor : ℕ) (entry : Entry). unwrap_or (shown_by entry) cursor) cursor_untold 0 history

given_untold : (entry : Entry) (history : History) → is_told entry ≡ false → given_at (entry ∷ history) ≡ given_at history
given_untold (Say actor said (NotYet steps)) history h = refl
given_untold (Say actor said reply) history h = absurd (cc)
given_untold (Take actor leaf) history h = refl
given_untold (Put actor leaf by learned) history h = refl
given_untold (Back actor leaf) history h = refl

given_same : (entry : Entry) (one other : History) → given_at one ≡ given_at other → given_at (entry ∷ one) ≡ given_at (entry ∷ other)
given_same (Say actor said (Solution number set true)) one other e = ap (λ ls. set ∷ ls) e
given_same entry one other e = e

pub given_at-told : (history : History) → given_at (told history) ≡ given_at history
given_at-told [] = refl
given_at-told (entry ∷ history) =
    elim (is_told entry) as (λ r. is_told entry ≡ r → given_at (cond r (entry ∷ told history) (told history)) ≡ given_at (entry ∷ history)) [
      | true ↦ λ _. given_same entry (told history) history (given_at-told history)
      | false ↦ λ u. given_at-told history ∙ sym (given_untold entry history u)
    ] refl

-- two first sets are one
pub IsFirst-unique : (p : Problem) (table : Table) (rules : Rules) (given : List (List ℕ)) (set other : List ℕ) → IsFirst p table rules given set → IsFirst p table rules given other → set ≡ other
IsFirst-unique p table rules given set other a b =
    elim (cases_set_cmp table set other) as (λ _. set ≡ other) [
      | inl lt ↦ absurd (not_both_before table set other lt (b.before set a.obtainable (λ e. itself set other e lt)))
      | inr upto ↦
          elim upto as (λ _. set ≡ other) [
            | inl e ↦ sym e
            | inr lt ↦ absurd (not_both_before table other set lt (a.before other b.obtainable (λ e. itself other set e lt)))
          ]
    ]
  where
    itself : (x y : List ℕ) → x ≡ y → IsBefore table x y → ⊥
    itself x y e lt = let P : List ℕ → Type 0 = λ z. IsBefore table x z in let own = subst P (sym e) lt in not_both_before table x x own own

pub first_not_none : (p : Problem) (table : Table) (rules : Rules) (given : List (List ℕ)) (set : List ℕ) → IsFirst p table rules given set → IsNoneLeft p table rules given → ⊥
first_not_none p table rules given set first none = let o : is_obtainable p table rules given set ≡ true = first.obtainable in let n : is_obtainable p table rules given set ≡ false = none set in let f : true ≡ false = sym o ∙ n in cc
