-- Lists of views and hands, and beginnings of histories.
use Rattle.std.proofs.Common.{inl, inr, ⊎_elim, ◌≡◌, ◌≢◌, ◌⊎◌, ◌<◌, ℕ, zero, suc, List, [], ◌∷◌, ◌++◌, Bool, true, false, set, length, refl, ap, sym, subst, ◌∙◌, arith, append_assoc}
use Rattle.std.specs.Prelude.{◌==◌, ◌||◌, filter}
use mathlib.Core.Option.{some, some-ne-none, some-injective}
use mathlib.Core.List.{IsPrefix}
use native.Mathlib.Decide.{ℕ_discrete}
use lib.ListN.{get_elem?}
use Rattle.std.proofs.lemmas.List.Elements.{filter-append}
use Rattle.atomic_table.proofs.Lists.{at_set}
use Rattle.resolver_model.specs.declared.history.Entry.{Entry}
use Rattle.cell_rule.specs.declared.view.Hand.{Hand}
use Rattle.cell_rule.specs.Views.{actor_of, entries_by, stands, Each, AreBy}

module _ {A : Type 0} where
  pub append_nil : (xs : List A) → xs ++ [] ≡ xs
  append_nil [] = refl
  append_nil (x ∷ xs) = ap (λ ys. x ∷ ys) (append_nil xs)

  pub set_at : (xs : List A) (i : ℕ) (a b : A) → get_elem? xs i ≡ some a → get_elem? (set xs i b) i ≡ some b
  set_at [] i a b e = absurd (some-ne-none a (sym e))
  set_at (x ∷ xs) zero a b e = refl
  set_at (x ∷ xs) (suc i) a b e = set_at xs i a b e

  -- a fact of each place, after a write at one of them
  pub each_set : (P : ℕ → A → Type 0) (xs : List A) (i : ℕ) (b : A) → P i b → ((j : ℕ) (x : A) → j ≢ i → get_elem? xs j ≡ some x → P j x) → (j : ℕ) (x : A) → get_elem? (set xs i b) j ≡ some x → P j x
  each_set P xs i b mine others j x e =
      ⊎_elim (λ (t : (j ≡ i) × (b ≡ x)). subst (λ (q : ℕ × A). P q.0 q.1) (λ k. (sym t.0 k, t.1 k)) mine)
      (λ (t : (j ≢ i) × (get_elem? xs j ≡ some x)). others j x t.0 t.1) (at_set xs i j b x e)

  pub prefix_refl : (xs ys : List A) → xs ≡ ys → IsPrefix xs ys
  prefix_refl xs ys e = ([], append_nil xs ∙ e)

  pub prefix_more : (xs ys zs all : List A) → IsPrefix xs ys → all ≡ ys ++ zs → IsPrefix xs all
  prefix_more xs ys zs all p e = (p.0 ++ zs, sym (append_assoc xs p.0 zs) ∙ (ap (λ w. w ++ zs) p.1 ∙ sym e))

module _ {A : Type 0} where
  at_end : (xs : List A) (b : A) (j : ℕ) (x : A) → get_elem? (xs ++ b ∷ []) j ≡ some x → (get_elem? xs j ≡ some x) ⊎ ((j ≡ length xs) × (b ≡ x))
  at_end [] b zero x e = inr (refl, some-injective b x e)
  at_end [] b (suc j) x e = absurd (some-ne-none x (sym e))
  at_end (y ∷ xs) b zero x e = inl e
  at_end (y ∷ xs) b (suc j) x e = ⊎_elim (λ t. inl t) (λ t. inr (ap suc t.0, t.1)) (at_end xs b j x e)

  -- a fact of each place, with one more at the end
  pub each_more : (P : ℕ → A → Type 0) (xs : List A) (b : A) → P (length xs) b → ((j : ℕ) (x : A) → get_elem? xs j ≡ some x → P j x) → (j : ℕ) (x : A) → get_elem? (xs ++ b ∷ []) j ≡ some x → P j x
  each_more P xs b mine others j x e =
      ⊎_elim (λ (t : get_elem? xs j ≡ some x). others j x t)
      (λ (t : (j ≡ length xs) × (b ≡ x)). subst (λ (q : ℕ × A). P q.0 q.1) (λ k. (sym t.0 k, t.1 k)) mine) (at_end xs b j x e)

  pub each_one : (P : ℕ → A → Type 0) (b : A) → P 0 b → (j : ℕ) (x : A) → get_elem? (b ∷ []) j ≡ some x → P j x
  each_one P b mine zero x e = subst (P 0) (some-injective b x e) mine
  each_one P b mine (suc j) x e = absurd (some-ne-none x (sym e))

stands_head : (b c : Bool) → b ≡ true → (b || c) ≡ true
stands_head true c e = refl
stands_head false c e = absurd (cc)

stands_tail : (b c : Bool) → c ≡ true → (b || c) ≡ true
stands_tail true c e = refl
stands_tail false c e = e

not_same : (m n : ℕ) → m ≢ n → (m == n) ≡ false
not_same m n e = grind (arith)

same_number : (n : ℕ) → (n == n) ≡ true
same_number n = grind (arith)

pub stands_own : (h : Hand) (hs : List Hand) → stands h.actor (h ∷ hs) ≡ true
stands_own h hs = stands_head (h.actor == h.actor) (stands h.actor hs) (same_number h.actor)

stands_one_at : (m n : ℕ) → Dec (m ≡ n) → ((m == n) || false) ≡ true → m ≡ n
stands_one_at m n (yes d) e = d
stands_one_at m n (no d) e = absurd (not_true (m == n) (not_same m n d) e)
  where
    not_true : (b : Bool) → b ≡ false → (b || false) ≡ true → ⊥
    not_true true is e = cc
    not_true false is e = cc

pub stands_one : (a : ℕ) (h : Hand) → stands a (h ∷ []) ≡ true → h.actor ≡ a
stands_one a h e = stands_one_at h.actor a (ℕ_discrete h.actor a) e

stands_past : (b c : Bool) → b ≡ false → (b || c) ≡ true → c ≡ true
stands_past true c is e = absurd (cc)
stands_past false c is e = e

pub none_stands : (a : ℕ) (hs : List Hand) → Each (λ g. g.actor < a) hs → stands a hs ≡ true → ⊥
none_stands a [] p e = cc
none_stands a (g ∷ hs) p e = none_stands a hs p.1 (stands_past (g.actor == a) (stands a hs) (not_same g.actor a (λ s. omega (arith, p.0))) e)

-- of each hand of the list
pub each_with : (P Q : Hand → Type 0) (hs : List Hand) → ((h : Hand) → stands h.actor hs ≡ true → P h → Q h) → Each P hs → Each Q hs
each_with P Q [] f p = tt
each_with P Q (h ∷ hs) f p = (
  f h (stands_head (h.actor == h.actor) (stands h.actor hs) (same_number h.actor)) p.0,
  each_with P Q hs (λ g m. f g (stands_tail (h.actor == g.actor) (stands g.actor hs) m)) p.1,
)

pub each_append : (P : Hand → Type 0) (hs gs : List Hand) → Each P hs → Each P gs → Each P (hs ++ gs)
each_append P [] gs p q = q
each_append P (h ∷ hs) gs p q = (p.0, each_append P hs gs p.1 q)

stands_at : (b c d e : Bool) → (c ≡ true → (d ≡ true) ⊎ (e ≡ true)) → (b || c) ≡ true → ((b || d) ≡ true) ⊎ (e ≡ true)
stands_at true c d e f is = inl refl
stands_at false c d e f is = f is

pub stands_append : (a : ℕ) (hs gs : List Hand) → stands a (hs ++ gs) ≡ true → (stands a hs ≡ true) ⊎ (stands a gs ≡ true)
stands_append a [] gs e = inr e
stands_append a (h ∷ hs) gs e = stands_at (h.actor == a) (stands a (hs ++ gs)) (stands a hs) (stands a gs) (stands_append a hs gs) e

filter_kept : (p : Entry → Bool) (e : Entry) (es : List Entry) → p e ≡ true → filter p es ≡ es → filter p (e ∷ es) ≡ e ∷ es
filter_kept p e es is rest = grind (arith)

filter_dropped : (p : Entry → Bool) (e : Entry) (es : List Entry) → p e ≡ false → filter p es ≡ [] → filter p (e ∷ es) ≡ []
filter_dropped p e es is rest = grind (arith)

is_same : (m n : ℕ) → m ≡ n → (m == n) ≡ true
is_same m n e = grind (arith)

-- its own entries, and none of another actor
pub own_entries : (a : ℕ) (es : List Entry) → AreBy a es → entries_by a es ≡ es
own_entries a [] by = refl
own_entries a (e ∷ es) by = filter_kept (λ x. actor_of x == a) e es (is_same (actor_of e) a by.0) (own_entries a es by.1)

pub no_entries : (a b : ℕ) (es : List Entry) → AreBy a es → b ≢ a → entries_by b es ≡ []
no_entries a b [] by ne = refl
no_entries a b (e ∷ es) by ne = filter_dropped (λ x. actor_of x == b) e es (not_same (actor_of e) b (λ s. ne (sym s ∙ by.0))) (no_entries a b es by.1 ne)

pub entries_more : (a : ℕ) (xs ys : List Entry) → entries_by a (xs ++ ys) ≡ entries_by a xs ++ entries_by a ys
entries_more a xs ys = filter-append (λ x. actor_of x == a) xs ys
