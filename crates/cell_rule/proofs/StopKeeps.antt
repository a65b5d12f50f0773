-- Each step keeps the rule of the stop table.
use Rattle.std.proofs.Common.{inl, inr, ⊎_elim, ◌≡◌, ◌≢◌, ◌⊎◌, ◌<◌, ◌||◌, ℕ, List, [], ◌∷◌, ◌++◌, Bool, true, false, set, refl, ap, sym, subst, ◌∙◌, arith}
use Rattle.std.specs.Prelude.{slice_index}
use mathlib.Core.Option.{none, some}
use lib.ListN.{get_elem?}
use Rattle.atomic_table.specs.Table.{keeps, step, Allows, Splits, Joins, Seen, State, opening}
use Rattle.atomic_table.proofs.Lists.{set_again, set_else}
use Rattle.cell_rule.specs.declared.stop.StopHand.{StopHand}
use Rattle.cell_rule.specs.declared.stop.StopView.{StopView}
use Rattle.cell_rule.specs.Stops.{stop_view, stop_gathered, stop_hands, both_stops, spent_stop, has_mark, EachStop, FitsStop, IsStop, Asks, Sees}
use Rattle.cell_rule.proofs.Basics.{each_set, each_more, each_one}

not_false : {b : Bool} → b ≡ true → b ≡ false → ⊥
not_false t f = cc

mark_head : (b c : Bool) → b ≡ true → (b || c) ≡ true
mark_head true c e = refl
mark_head false c e = absurd (cc)

mark_tail : (b c : Bool) → c ≡ true → (b || c) ≡ true
mark_tail true c e = refl
mark_tail false c e = e

mark_cases : (b c : Bool) → (b || c) ≡ true → (b ≡ true) ⊎ (c ≡ true)
mark_cases true c e = inl refl
mark_cases false c e = inr e

-- of each hand of the list
each_stop : (P Q : StopHand → Type 0) (hs : List StopHand) → ((h : StopHand) → (h.marked ≡ true → has_mark hs ≡ true) → P h → Q h) → EachStop P hs → EachStop Q hs
each_stop P Q [] f p = tt
each_stop P Q (h ∷ hs) f p = (
  f h (mark_head h.marked (has_mark hs)) p.0,
  each_stop P Q hs (λ g k. f g (λ m. mark_tail h.marked (has_mark hs) (k m))) p.1,
)

abbrev Marked : StopView → Type 0
Marked v = has_mark (stop_hands v) ≡ true

abbrev One : List StopView → Type 0
One views = (i j : ℕ) (x y : StopView) → get_elem? views i ≡ some x → get_elem? views j ≡ some y → Marked x → Marked y → i ≡ j

one_set : (views : List StopView) (id : ℕ) (v w : StopView) → get_elem? views id ≡ some v → (Marked w → Marked v) → One views → One (set views id w)
one_set views id v w at less one i j x y ei ej mi mj =
    each_set (λ k z. Marked z → k ≡ j) views id w
    (λ s. each_set (λ k z. Marked z → id ≡ k) views id w (λ _. refl) (λ k z n e t. one id k v z at e (less s) t) j y ej mj)
    (λ k z n e s. each_set (λ l u. Marked u → k ≡ l) views id w (λ t. one k id z v e at s (less t)) (λ l u m e' t. one k l z u e e' s t) j y ej mj)
    i x ei mi

-- the view that was marked, before the view `other` was joined into the view id
abbrev Stood : List StopView → ℕ → ℕ → ℕ → Type 0
Stood views id other i = (k : ℕ) × ((z : StopView) × (get_elem? views k ≡ some z) × Marked z) × (((i ≡ k) × (k ≢ other)) ⊎ ((i ≡ id) × (k ≡ other)))

module _ {S : Type 0} where
  pub asks : (slots id value round : ℕ) (c : List (ℕ × S)) → value < round → Allows (IsStop {S = S}) slots id (stop_view value true, c) 0 (λ _. round) (λ _. Asks (step slots 0 round 0 none) (stop_view value true, c) round)
  asks slots id value round c later s r wide at small =
      let v : StopView = stop_view value true in
      let w : StopView = stop_view round true in
      let views : List StopView = s.views in
      let known : value ≡ r.asked = (r.each id v at).0.1 refl in (
        w,
        keeps,
        tt,
        record {
          asked = round;
          words = ap (λ (l : List ℕ). set l 0 round) r.words;
          each = each_set (λ j u. EachStop (FitsStop round) (stop_hands u)) views id w
              ((omega arith, λ _. refl), tt)
              (λ j u n e. each_stop (FitsStop r.asked) (FitsStop round) (stop_hands u) (λ h m p. (omega (arith, p.0), λ t. absurd (n (r.one j id u v e at (m t) refl)))) (r.each j u e));
          one = one_set views id v w at (λ t. refl) r.one;
        },
        refl,
      )

  pub sees : (slots id value : ℕ) (marked : Bool) (c : List (ℕ × S)) → Allows (IsStop {S = S}) slots id (stop_view value marked, c) 0 (λ n. n) (Sees (step slots 0 0 0 none) (stop_view value marked, c))
  sees slots id value marked c s r wide at small =
      let found : slice_index s.words 0 ≡ r.asked = ap (λ (l : List ℕ). slice_index l 0) r.words in
      let v : StopView = stop_view value marked in
      let w : StopView = stop_view (slice_index s.words 0) marked in
      let views : List StopView = s.views in
      let mine = (r.each id v at).0 in (
        w,
        keeps,
        tt,
        record {
          asked = r.asked;
          words = ap (λ (l : List ℕ). set l 0 (slice_index l 0)) r.words;
          each = each_set (λ j u. EachStop (FitsStop r.asked) (stop_hands u)) views id w ((omega arith, λ _. found), tt) (λ j u n e. r.each j u e);
          one = one_set views id v w at (λ t. t) r.one;
        },
        (refl, omega (arith, mine.0), λ t. found ∙ sym (mine.1 t)),
      )

  pub tells : (id value : ℕ) (marked : Bool) → Splits (IsStop {S = S}) id (stop_view value marked) (stop_view value marked) (stop_view value false)
  tells id value marked s r at =
      let v : StopView = stop_view value marked in
      let views : List StopView = s.views in
      let new : StopView = stop_view value false in
      let mine = (r.each id v at).0 in
      let P : List StopView → Type 0 = λ l. IsStop {S = S} record { words = s.words; homes = s.homes; views = l ++ new ∷ [] } in
      subst P (sym (set_again views id v at)) record {
        asked = r.asked;
        words = r.words;
        each = each_more (λ j u. EachStop (FitsStop r.asked) (stop_hands u)) views new ((mine.0, λ t. absurd (not_false t refl)), tt) r.each;
        one = λ i j x y ei ej mi mj.
            each_more (λ k z. Marked z → k ≡ j) views new (λ t. absurd (not_false t refl))
            (λ k z e s. each_more (λ l u. Marked u → k ≡ l) views new (λ t. absurd (not_false t refl)) (λ l u e' t. r.one k l z u e e' s t) j y ej mj) i x ei mi;
      }

  -- another view is taken in
  pub unites : (id other : ℕ) (h : StopHand) (js : List StopHand) (value : ℕ) (marked : Bool)
      → Joins (IsStop {S = S}) id (stop_gathered h js) other (stop_view value marked) (both_stops (stop_gathered h js) (stop_view value marked)) spent_stop
  unites id other h js value marked s r at ne at' =
      let v : StopView = stop_gathered h js in
      let u : StopView = stop_view value marked in
      let w : StopView = both_stops v u in
      let views : List StopView = s.views in
      let more : List StopView = set views id w in
      let all : List StopView = set more other spent_stop in
      let there : get_elem? views other ≡ some u = sym (set_else views id other w ne) ∙ at' in
      let stood : (i : ℕ) (x : StopView) → get_elem? all i ≡ some x → Marked x → Stood views id other i =
      λ i x e. each_set (λ i x. Marked x → Stood views id other i) more other spent_stop (λ t. absurd (not_false t refl))
      (λ i x n1 e. each_set (λ i x. i ≢ other → Marked x → Stood views id other i) views id w
      (λ n2 t. ⊎_elim (λ (z : marked ≡ true). let q : Stood views id other id = (other, (u, there, mark_head marked false z), inr (refl, refl)) in q)
      (λ (z : has_mark (h ∷ js) ≡ true). let q : Stood views id other id = (id, (v, at, z), inl (refl, n2)) in q) (mark_cases marked (has_mark (h ∷ js)) t))
      (λ i x n2 e n3 t. (i, (x, e, t), inl (refl, n3))) i x e n1) i x e in
      record {
        asked = r.asked;
        words = r.words;
        each = λ i x e. each_set (λ i x. EachStop (FitsStop r.asked) (stop_hands x)) more other spent_stop tt
            (λ i x n1 e. each_set (λ i x. EachStop (FitsStop r.asked) (stop_hands x)) views id w ((r.each other u there).0, r.each id v at) (λ i x n2 e. r.each i x e) i x e) i x e;
        one = λ i j x y ei ej si sj.
            let one = stood i x ei si in
            let two = stood j y ej sj in
            let same : one.0 ≡ two.0 = r.one one.0 two.0 one.1.0 two.1.0 one.1.1 two.1.1 one.1.2 two.1.2 in
            ⊎_elim (λ (a : (i ≡ one.0) × (one.0 ≢ other)). ⊎_elim (λ (b : (j ≡ two.0) × (two.0 ≢ other)). a.0 ∙ (same ∙ sym b.0)) (λ (b : (j ≡ id) × (two.0 ≡ other)). absurd (a.1 (same ∙ b.1))) two.2)
            (λ (a : (i ≡ id) × (one.0 ≡ other)). ⊎_elim (λ (b : (j ≡ two.0) × (two.0 ≢ other)). absurd (b.1 (sym same ∙ a.1))) (λ (b : (j ≡ id) × (two.0 ≡ other)). a.0 ∙ sym b.0) two.2) one.2;
      }

  pub starts : IsStop {S = S} (opening (0 ∷ []) [] (stop_view 0 true))
  starts = record {
    asked = 0;
    words = refl;
    each = each_one (λ j u. EachStop (FitsStop 0) (stop_hands u)) (stop_view 0 true) ((omega arith, λ _. refl), tt);
    one = λ i j x y ei ej mi mj. each_one (λ k z. k ≡ j) (stop_view 0 true) (each_one (λ k z. 0 ≡ k) (stop_view 0 true) refl j y ej) i x ei;
  }

  -- what is known of all hands at the end
  pub stop_ends : (id : ℕ) (h : StopHand) (js : List StopHand) (s : State S StopView) → Seen (IsStop {S = S}) id (stop_gathered h js) s → (asked : ℕ) × EachStop (FitsStop asked) (h ∷ js)
  stop_ends id h js s seen = let r = seen.0 in (r.asked, r.each id (stop_gathered h js) seen.1)
