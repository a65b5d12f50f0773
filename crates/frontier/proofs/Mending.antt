-- How a change of one node goes up a ladder, and where it ends.
use Rattle.std.proofs.Common.{inl, inr, ◌≡◌, ◌≢◌, ◌<◌, ◌≤◌, ◌⊎◌, ℕ, zero, suc, ◌+◌, ◌-◌, ◌*◌, ◌/◌, List, true, false, cond, refl, ap, sym, ◌∙◌, arith, length, set, subst, get_or-set_same, get_or-set_other}
use Rattle.std.specs.Prelude.{Option, Some, None, IsTrue}
use Rattle.std.proofs.lemmas.Bool.{cases_eq, cases_lt}
use Rattle.std.proofs.lemmas.List.{length-set}
use Rattle.resolver_model.specs.declared.lines.Line.{Line}
use Rattle.frontier.specs.declared.slots.Slot.{Slot}
use Rattle.frontier.specs.declared.slots.Class.{Class}
use Rattle.frontier.specs.declared.slots.Class.TheVariants as class
use Rattle.frontier.specs.declared.ladder.Best.{Best}
use Rattle.frontier.specs.declared.ladder.Settled.{Settled}
use Rattle.frontier.specs.Slots.{slot_at, no_slot, is_in}
use Rattle.frontier.specs.Ladders.{no_best, best_at, of_class, own, least, best_in, best_of, ArePlaces, IsLadder, IsRightIn, AreRightIn, is_settled, Settles, AreButOne, above, up, IsRightOff}
use Rattle.frontier.proofs.Ladders.{above_left, above_right, up_above, of_best, own_some, best_cases, entry_of, best_same, best_of_same, alike_slots, best_other, off_changed, places_as_many, mend_up, mend_done, places_set}

up_le : (k m : ℕ) → up k m ≤ m
up_le zero m = omega arith
up_le (suc k) m = let le = up_le k (above m) in omega (arith, le)

-- of two places on the way up from one, one is on the way up from the other
chain : (i j m : ℕ) → ((r : ℕ) × (up i m ≡ up r (above (up j m)))) ⊎ ((r : ℕ) × (up j m ≡ up r (up i m)))
chain zero j m = inr (j, refl)
chain (suc i) zero m = inl (i, refl)
chain (suc i) (suc j) m = chain i j (above m)

-- A change of one node has gone up to this place: the places before it are as they were for the nodes that were.
pub record IsMending (lines : List Line) (was slots : List Slot) (bests : List Best) (from place : ℕ) : Type 0 where
  pub in_range : place < length slots
  pub same_length : length bests ≡ length slots
  pub places : ArePlaces (length slots) bests
  pub off : IsRightOff lines slots bests place
  pub before : (n : ℕ) → n < place → best_at bests n ≡ best_of lines was bests n
  pub under : (c : Class) (n m : ℕ) → of_class c (best_at bests n) ≡ Some m → (k : ℕ) × (n ≡ up k m)
  pub steps : ℕ
  pub on_way : place ≡ up steps from

pub mend_begins : (lines : List Line) (was slots : List Slot) (bests : List Best) (from : ℕ) → from < length slots → IsLadder lines was bests → AreButOne was slots from → IsMending lines was slots bests from from
mend_begins lines was slots bests from lt l b =
    let same = b.same_length in
    let size = l.same_length in
    record {
      in_range = lt;
      same_length = size ∙ sym same;
      places = places_as_many lines was slots bests l same;
      off = off_changed lines was slots bests from l same b.others;
      before = λ n low. l.each n (omega (arith, low, lt, same));
      under = λ c n m e. let r = entry_of lines was bests l c n m e in (r.steps, r.under);
      steps = 0;
      on_way = refl;
    }

under_set : (lines : List Line) (slots : List Slot) (bests : List Best) (place : ℕ) → place < length bests → ((c : Class) (n m : ℕ) → of_class c (best_at bests n) ≡ Some m → (k : ℕ) × (n ≡ up k m))
    → (c : Class) (n m : ℕ) → of_class c (best_at (set bests place (best_of lines slots bests place)) n) ≡ Some m → (k : ℕ) × (n ≡ up k m)
under_set lines slots bests place lt u c n m e =
    elim (cases_eq n place) as (λ _. (k : ℕ) × (n ≡ up k m)) [
      | inl x ↦
          let here : best_at (set bests place (best_of lines slots bests place)) n ≡ best_of lines slots bests place = ap (best_at (set bests place (best_of lines slots bests place))) x ∙ get_or-set_same bests place (best_of lines slots bests place) no_best lt in
          let is : best_in c lines slots bests place ≡ Some m = sym (of_best c lines slots bests place) ∙ ap (of_class c) (sym here) ∙ e in
          elim (best_cases c lines slots bests place m is) as (λ _. (k : ℕ) × (n ≡ up k m)) [
            | inl a ↦ (0, x ∙ (own_some c slots place m a).0)
            | inr below ↦ elim below as (λ _. (k : ℕ) × (n ≡ up k m)) [
              | inl b ↦ let r = u c (2 * place + 1) m b in (suc r.0, x ∙ sym (above_left place) ∙ ap above r.1 ∙ sym (up_above r.0 m))
              | inr d ↦ let r = u c (2 * place + 2) m d in (suc r.0, x ∙ sym (above_right place) ∙ ap above r.1 ∙ sym (up_above r.0 m))
            ]
          ]
      | inr ne ↦ u c n m (ap (of_class c) (sym (get_or-set_other bests place n (best_of lines slots bests place) no_best ne)) ∙ e)
    ]

pub mend_goes_on : (lines : List Line) (was slots : List Slot) (bests : List Best) (from place : ℕ) → IsMending lines was slots bests from place → place ≢ 0
    → IsMending lines was slots (set bests place (best_of lines slots bests place)) from (above place)
mend_goes_on lines was slots bests from place m some =
    let lt = m.in_range in
    let size = m.same_length in
    record {
      in_range = omega (arith, lt);
      same_length = length-set bests place (best_of lines slots bests place) ∙ size;
      places = places_set lines slots bests place lt size m.places;
      off = mend_up lines slots bests place lt size m.off;
      before = λ n low.
          get_or-set_other bests place n (best_of lines slots bests place) no_best (λ x. absurd (omega (arith, x, low)))
          ∙ m.before n (omega (arith, low))
          ∙ sym (best_other lines was bests place n (best_of lines slots bests place) (λ x. absurd (omega (arith, x, low))) (λ x. absurd (omega (arith, x, low))));
      under = under_set lines slots bests place (omega (arith, lt, size)) m.under;
      steps = suc m.steps;
      on_way = ap above m.on_way ∙ sym (up_above m.steps from);
    }

pub mend_ends : (lines : List Line) (was slots : List Slot) (bests : List Best) (from : ℕ) → IsMending lines was slots bests from 0 → IsLadder lines slots (set bests 0 (best_of lines slots bests 0))
mend_ends lines was slots bests from m = mend_done lines slots bests m.in_range m.same_length m.off

-- no place below one before this has the node
no_entry : (lines : List Line) (was slots : List Slot) (bests : List Best) (from place : ℕ) → IsMending lines was slots bests from place → (c : Class) → of_class c (best_at bests place) ≢ Some from
    → (fuel n d : ℕ) → place ≤ n + fuel → above d ≡ n → n < d → n < place → of_class c (best_at bests d) ≡ Some from → true ≡ false
no_entry lines was slots bests from place m c w zero n d le e deep low h = absurd (omega (arith, le, low))
no_entry lines was slots bests from place m c w (suc fuel) n d le e deep low h =
    let u = m.under c d from h in
    let way = m.on_way in
    elim (chain m.steps u.0 from) as (λ _. true ≡ false) [
      | inl a ↦
          let x : place ≡ up a.0 (above d) = way ∙ a.1 ∙ ap (λ k. up a.0 (above k)) (sym u.1) in
          let most : up a.0 (above d) ≤ above d = up_le a.0 (above d) in
          absurd (omega (arith, x, most, e, low))
      | inr b ↦
          let y : d ≡ up b.0 place = u.1 ∙ b.1 ∙ ap (up b.0) (sym way) in
          let most : up b.0 place ≤ place = up_le b.0 place in
          elim (cases_eq d place) as (λ _. true ≡ false) [
            | inl same ↦ absurd (w (ap (λ k. of_class c (best_at bests k)) (sym same) ∙ h))
            | inr ne ↦
                let less : d < place = omega (arith, y, most, ne) in
                let is : best_in c lines was bests d ≡ Some from = sym (of_best c lines was bests d) ∙ ap (of_class c) (sym (m.before d less)) ∙ h in
                elim (best_cases c lines was bests d from is) as (λ _. true ≡ false) [
                  | inl a ↦
                      let own_is : d ≡ from = (own_some c was d from a).0 in
                      let up_from : up m.steps from ≤ from = up_le m.steps from in
                      absurd (omega (arith, own_is, up_from, way, less))
                  | inr below ↦ elim below as (λ _. true ≡ false) [
                    | inl left ↦ no_entry lines was slots bests from place m c w fuel d (2 * d + 1) (omega (arith, le, deep)) (above_left d) (omega arith) less left
                    | inr right ↦ no_entry lines was slots bests from place m c w fuel d (2 * d + 2) (omega (arith, le, deep)) (above_right d) (omega arith) less right
                  ]
                ]
          ]
    ]

-- a place that has of a class what it had, without the node, ends the change in the class
pub class_settles : (c : Class) (lines : List Line) (was slots : List Slot) (bests : List Best) (from place : ℕ) → AreButOne was slots from → IsMending lines was slots bests from place
    → of_class c (best_at bests place) ≡ best_in c lines slots bests place → of_class c (best_at bests place) ≢ Some from → IsRightIn c lines slots bests
class_settles c lines was slots bests from place b m e w = each
  where
    away : (n d : ℕ) → above d ≡ n → n < d → n < place → (a : ℕ) → of_class c (best_at bests d) ≡ Some a → a ≢ from
    away n d up_is deep low a h = λ x. let f : true ≡ false = no_entry lines was slots bests from place m c w place n d (omega arith) up_is deep low (h ∙ ap (λ k. Some k) x) in absurd (cc)

    in_front : (n : ℕ) → n < place → best_in c lines was bests n ≡ best_in c lines slots bests n
    in_front n low =
        let way = m.on_way in
        let most : up m.steps from ≤ from = up_le m.steps from in
        let ne : n ≢ from = λ x. absurd (omega (arith, x, way, most, low)) in
        best_same c lines was lines slots bests n (ap (λ (s : Slot). cond (is_in c s) (Some n) None) (sym (b.others n ne)))
        (λ a s. let x = (own_some c was n a s).0 in alike_slots c lines was slots a (b.others a (λ y. ne (x ∙ y))))
        (λ a s. alike_slots c lines was slots a (b.others a (away n (2 * n + 1) (above_left n) (omega arith) low a s)))
        (λ a s. alike_slots c lines was slots a (b.others a (away n (2 * n + 2) (above_right n) (omega arith) low a s)))

    each : (n : ℕ) → n < length slots → of_class c (best_at bests n) ≡ best_in c lines slots bests n
    each n lt =
        elim (cases_lt n place) as (λ _. of_class c (best_at bests n) ≡ best_in c lines slots bests n) [
          | inl low ↦ ap (of_class c) (m.before n low) ∙ of_best c lines was bests n ∙ in_front n low
          | inr past ↦ elim (cases_eq n place) as (λ _. of_class c (best_at bests n) ≡ best_in c lines slots bests n) [
            | inl same ↦ subst (λ k. of_class c (best_at bests k) ≡ best_in c lines slots bests k) (sym same) e
            | inr ne ↦ ap (of_class c) (m.off n lt (λ k x. let most = up_le k place in absurd (omega (arith, x, most, past, ne)))) ∙ of_best c lines slots bests n
          ]
        ]

-- a class that is right stays so where a place is set right
right_kept : (c : Class) (lines : List Line) (slots : List Slot) (bests : List Best) (place : ℕ) → place < length slots → length bests ≡ length slots → IsRightIn c lines slots bests
    → IsRightIn c lines slots (set bests place (best_of lines slots bests place))
right_kept c lines slots bests place lt size right = λ n low. same n ∙ right n low ∙ sym (ap (λ (o : Option ℕ). least c lines slots (least c lines slots (own c slots n) o) (of_class c (best_at new (2 * n + 2)))) (same (2 * n + 1)) ∙ ap (λ (o : Option ℕ). least c lines slots (least c lines slots (own c slots n) (of_class c (best_at bests (2 * n + 1)))) o) (same (2 * n + 2)))
  where
    new : List Best
    new = set bests place (best_of lines slots bests place)

    same : (k : ℕ) → of_class c (best_at (set bests place (best_of lines slots bests place)) k) ≡ of_class c (best_at bests k)
    same k =
        elim (cases_eq k place) as (λ _. of_class c (best_at (set bests place (best_of lines slots bests place)) k) ≡ of_class c (best_at bests k)) [
          | inl e ↦ subst (λ j. of_class c (best_at (set bests place (best_of lines slots bests place)) j) ≡ of_class c (best_at bests j)) (sym e)
              (ap (of_class c) (get_or-set_same bests place (best_of lines slots bests place) no_best (omega (arith, lt, size))) ∙ of_best c lines slots bests place ∙ sym (right place lt))
          | inr ne ↦ ap (of_class c) (get_or-set_other bests place k (best_of lines slots bests place) no_best ne)
        ]

pub rights_kept : (settled : Settled) (lines : List Line) (slots : List Slot) (bests : List Best) (place : ℕ) → place < length slots → length bests ≡ length slots → AreRightIn settled lines slots bests
    → AreRightIn settled lines slots (set bests place (best_of lines slots bests place))
rights_kept settled lines slots bests place lt size right = λ c t. right_kept c lines slots bests place lt size (right c t)

abbrev made : Option ℕ → Option ℕ → Option ℕ → Best
made x y z = record { free = x; held = y; finished = z }

-- where all classes are right, the ladder is
pub all_settled : (lines : List Line) (slots : List Slot) (bests : List Best) → length bests ≡ length slots → ((c : Class) → IsRightIn c lines slots bests) → IsLadder lines slots bests
all_settled lines slots bests size right = record {
  same_length = size;
  each = λ n lt.
      let b = best_at bests n in
      let itself : b ≡ made b.free b.held b.finished = refl in
      itself ∙ ap (λ (x : Option ℕ). made x b.held b.finished) (right class.Free n lt)
      ∙ ap (λ (x : Option ℕ). made (best_in class.Free lines slots bests n) x b.finished) (right class.Held n lt)
      ∙ ap (λ (x : Option ℕ). made (best_in class.Free lines slots bests n) (best_in class.Held lines slots bests n) x) (right class.Finished n lt);
}

-- what is settled at a place is right
pub settled_right : (lines : List Line) (was slots : List Slot) (bests : List Best) (from place : ℕ) (old new : Settled) → AreButOne was slots from → IsMending lines was slots bests from place → AreRightIn old lines slots bests
    → Settles old (best_at bests place) (best_of lines slots bests place) from new → AreRightIn new lines slots bests
settled_right lines was slots bests from place old new b m right h = λ c t.
    elim (h c t) as (λ _. IsRightIn c lines slots bests) [
      | inl before ↦ right c before
      | inr stays ↦ class_settles c lines was slots bests from place b m (stays.0 ∙ of_best c lines slots bests place) (λ x. stays.1 (sym stays.0 ∙ x))
    ]

pub nothing_settled : (lines : List Line) (slots : List Slot) (bests : List Best) → AreRightIn (record { free = false; held = false; finished = false }) lines slots bests
nothing_settled lines slots bests class.Free t n lt = let f : true ≡ false = sym t in absurd (cc)
nothing_settled lines slots bests class.Held t n lt = let f : true ≡ false = sym t in absurd (cc)
nothing_settled lines slots bests class.Finished t n lt = let f : true ≡ false = sym t in absurd (cc)

pub each_settled : (settled : Settled) → settled.free ≡ true → settled.held ≡ true → settled.finished ≡ true → (c : Class) → IsTrue (is_settled c settled)
each_settled settled f h d class.Free = f
each_settled settled f h d class.Held = h
each_settled settled f h d class.Finished = d

pub settles_same : (old new : Settled) (was was' is is' : Best) (from : ℕ) → was ≡ was' → is ≡ is' → Settles old was is from new → Settles old was' is' from new
settles_same old new was was' is is' from e k h = subst (λ (b : Best). Settles old was' b from new) k (subst (λ (b : Best). Settles old b is from new) e h)

-- a write of one node
pub one_set : (slots : List Slot) (place : ℕ) (slot : Slot) → AreButOne slots (set slots place slot) place
one_set slots place slot = record { same_length = length-set slots place slot; others = λ k ne. get_or-set_other slots place k slot no_slot ne }
