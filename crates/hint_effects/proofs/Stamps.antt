-- Places of last hints, one hint further.
use Rattle.std.proofs.Common.{◌≡◌, ◌<◌, ◌≤◌, ℕ, ◌+◌, ◌-◌, Bool, true, false, ◌&&◌, ◌==◌, max, List, [], ◌∷◌, Some, length, take, slice_get, slice_index_or, if◌then◌else◌, arith, refl, sym, ap, eqb-true, ◌∙◌}
use Rattle.std.proofs.lemmas.Bool.{false_from_ne_true}
use Rattle.std.proofs.lemmas.List.{take_more, length-take-le}
use Rattle.std.proofs.lemmas.List.Sums.{fold-append}
use Rattle.std.proofs.lemmas.Option.{slice_get-get_or}
use Rattle.std.specs.List.{fold}
use Rattle.resolver_model.specs.Problems.{Problem, package_of}
use Rattle.resolver_model.specs.declared.marks.Mark.{Mark}
use Rattle.resolver_model.specs.declared.marks.Mark.TheVariants.{Free}
use Rattle.hint_effects.specs.Effects.{is_present, mark_after, mark_by}
use Rattle.hint_effects.specs.Stamped.{at_number, at_package, on_package, IsWith, mark_in, mark_at, AreStamps}
use Rattle.hint_effects.specs.declared.Target.{Target}
use Rattle.hint_effects.specs.declared.Target.TheVariants.{One, Whole, Nothing}
use Rattle.hint_effects.specs.declared.Hint.{Hint}
use Rattle.hint_effects.specs.declared.Hint.TheVariants.{Marks, Adds}
use Rattle.hint_effects.specs.declared.by_target.ByTarget.{ByTarget}

-- without hints nothing is marked
pub no-stamps : (hints : List Hint) (s : ByTarget) → ((n : ℕ) → at_number s n ≡ 0) → ((q : ℕ) → at_package s q ≡ 0) → AreStamps hints [] s
no-stamps hints s own whole = record {
  numbers = λ n. omega (arith, own n);
  packages = λ q. omega (arith, whole q);
  marks = λ p c. ap (mark_at hints) (none p c (is_present p c));
}
  where
    none : (p : Problem) (c : ℕ) (b : Bool) → max (at_number s c) (if b then at_package s (package_of p c) else 0) ≡ 0
    none p c true = omega (arith, own c, whole (package_of p c))
    none p c false = omega (arith, own c)

chosen : (b : Bool) (v o k : ℕ) → v ≤ k → o ≤ k → (if b then v else o) ≤ k
chosen true v o k first second = first
chosen false v o k first second = second

-- a number that changes where both tests hold
both-tests : (a b : Bool) (v o : ℕ) → (if a then (if b then v else o) else 0) ≡ (if a && b then v else (if a then o else 0))
both-tests true true v o = refl
both-tests true false v o = refl
both-tests false b v o = refl

module _ (hints : List Hint) (k : ℕ) where
  -- the mark of the later place, where one of two places may become the next one
  one-later : (b : Bool) (o w : ℕ) (mark before : Mark) → o ≤ k → w ≤ k → mark_at hints (k + 1) ≡ mark → mark_at hints (max o w) ≡ before
      → mark_at hints (max (if b then k + 1 else o) w) ≡ (if b then mark else before)
  one-later true o w mark before low high here old = let e : max (k + 1) w ≡ k + 1 = omega arith in ap (mark_at hints) e ∙ here
  one-later false o w mark before low high here old = old

  whole-later : (b : Bool) (o w : ℕ) (mark before : Mark) → o ≤ k → w ≤ k → mark_at hints (k + 1) ≡ mark → mark_at hints (max o w) ≡ before
      → mark_at hints (max o (if b then k + 1 else w)) ≡ (if b then mark else before)
  whole-later true o w mark before low high here old = let e : max o (k + 1) ≡ k + 1 = omega arith in ap (mark_at hints) e ∙ here
  whole-later false o w mark before low high here old = old

module _ (hints : List Hint) (k : ℕ) (h : Hint) (within : k < length hints) (at : h ≡ slice_index_or hints k h) where
  first-hints : length (take k hints) ≡ k
  first-hints = length-take-le k hints (omega arith)

  more-hints : length (take (k + 1) hints) ≡ k + 1
  more-hints = length-take-le (k + 1) hints (omega arith)

  next-mark : (p : Problem) (c : ℕ) → mark_by p (take (k + 1) hints) c ≡ mark_after p c (mark_by p (take k hints) c) h
  next-mark p c =
      ap (fold (mark_after p c) Free) (take_more hints k h within) ∙ fold-append (mark_after p c) Free (take k hints) (slice_index_or hints k h ∷ [])
      ∙ ap (mark_after p c (mark_by p (take k hints) c)) (sym at)

  place-here : mark_at hints (k + 1) ≡ mark_in (Some h)
  place-here =
      behind (k + 1 == 0) (false_from_ne_true (k + 1 == 0) (λ e. let zero_is : k + 1 ≡ 0 = eqb-true (k + 1) 0 e in omega arith))
      ∙ ap mark_in (ap (slice_get hints) (omega arith) ∙ slice_get-get_or hints k h within ∙ ap Some (sym at))
    where
      behind : (b : Bool) → (b ≡ false) → (if b then Free else mark_in (slice_get hints ((k + 1) - 1))) ≡ mark_in (slice_get hints ((k + 1) - 1))
      behind true e = cc
      behind false e = refl

  module _ (s : ByTarget) (old : AreStamps hints (take k hints) s) where
    own-low : (n : ℕ) → at_number s n ≤ k
    own-low n = omega (arith, old.numbers n, first-hints)

    whole-low : (q : ℕ) → at_package s q ≤ k
    whole-low q = omega (arith, old.packages q, first-hints)

    on-low : (p : Problem) (c : ℕ) → on_package p s c ≤ k
    on-low p c = chosen (is_present p c) (at_package s (package_of p c)) 0 k (whole-low (package_of p c)) (omega arith)

    same-stamps : (new : ByTarget) → ((n : ℕ) → at_number new n ≡ at_number s n) → ((q : ℕ) → at_package new q ≡ at_package s q)
        → ((p : Problem) (c : ℕ) → mark_after p c (mark_by p (take k hints) c) h ≡ mark_by p (take k hints) c) → AreStamps hints (take (k + 1) hints) new
    same-stamps new own whole stays = record {
      numbers = λ n. omega (arith, own n, own-low n, more-hints);
      packages = λ q. omega (arith, whole q, whole-low q, more-hints);
      marks = λ p c.
          ap (λ o. mark_at hints (max o (on_package p new c))) (own c)
          ∙ ap (λ w. mark_at hints (max (at_number s c) (if is_present p c then w else 0))) (whole (package_of p c))
          ∙ old.marks p c ∙ sym (next-mark p c ∙ stays p c);
    }

    pub unmarked : (amount : ℕ) (name : List ℕ) (target : Target) → h ≡ Adds amount name target → AreStamps hints (take (k + 1) hints) s
    unmarked amount name target is = same-stamps s (λ n. refl) (λ q. refl) (λ p c. ap (mark_after p c (mark_by p (take k hints) c)) is)

    pub marked-next : (mark : Mark) (target : Target) (new : ByTarget) → h ≡ Marks mark target → IsWith s target (k + 1) new → AreStamps hints (take (k + 1) hints) new
    marked-next mark (One n) new is with = record {
      numbers = λ m. let bound : (if m == n then k + 1 else at_number s m) ≤ k + 1 = chosen (m == n) (k + 1) (at_number s m) (k + 1) (omega arith) (omega (arith, own-low m)) in omega (arith, with.0 m, bound, more-hints);
      packages = λ q. omega (arith, with.1 q, whole-low q, more-hints);
      marks = λ p c.
          ap (λ o. mark_at hints (max o (on_package p new c))) (with.0 c)
          ∙ ap (λ w. mark_at hints (max (if c == n then k + 1 else at_number s c) (if is_present p c then w else 0))) (with.1 (package_of p c))
          ∙ one-later hints k (c == n) (at_number s c) (on_package p s c) mark (mark_by p (take k hints) c) (own-low c) (on-low p c) (place-here ∙ ap (λ x. mark_in (Some x)) is) (old.marks p c)
          ∙ sym (next-mark p c ∙ ap (mark_after p c (mark_by p (take k hints) c)) is);
    }
    marked-next mark (Whole q) new is with = record {
      numbers = λ m. omega (arith, with.0 m, own-low m, more-hints);
      packages = λ r. let bound : (if r == q then k + 1 else at_package s r) ≤ k + 1 = chosen (r == q) (k + 1) (at_package s r) (k + 1) (omega arith) (omega (arith, whole-low r)) in omega (arith, with.1 r, bound, more-hints);
      marks = λ p c.
          ap (λ o. mark_at hints (max o (on_package p new c))) (with.0 c)
          ∙ ap (λ w. mark_at hints (max (at_number s c) (if is_present p c then w else 0))) (with.1 (package_of p c))
          ∙ ap (λ w. mark_at hints (max (at_number s c) w)) (both-tests (is_present p c) (package_of p c == q) (k + 1) (at_package s (package_of p c)))
          ∙ whole-later hints k (is_present p c && package_of p c == q) (at_number s c) (on_package p s c) mark (mark_by p (take k hints) c) (own-low c) (on-low p c) (place-here ∙ ap (λ x. mark_in (Some x)) is) (old.marks p c)
          ∙ sym (next-mark p c ∙ ap (mark_after p c (mark_by p (take k hints) c)) is);
    }
    marked-next mark Nothing new is with =
        same-stamps new with.0 with.1 (λ p c. ap (mark_after p c (mark_by p (take k hints) c)) is)
