-- What hints add for a choice, in two parts: by its number, and by its package.
use Rattle.std.proofs.Common.{◌≡◌, ℕ, ◌+◌, Bool, true, false, ◌&&◌, ◌==◌, List, [], ◌∷◌, if◌then◌else◌, arith, sym, ap, ◌∙◌}
use Rattle.std.specs.List.{sum_by}
use Rattle.std.proofs.lemmas.List.Sums.{sum_by-cons}
use Rattle.ascii.specs.Texts.{is_same}
use Rattle.resolver_model.specs.Problems.{Problem, package_of}
use Rattle.hint_effects.specs.Effects.{is_present, addition, added}
use Rattle.hint_effects.specs.Stamped.{at_number, on_package}
use Rattle.hint_effects.specs.Sums.{capped, own_part, whole_part, AreSums}
use Rattle.hint_effects.specs.declared.Hint.{Hint}
use Rattle.hint_effects.specs.declared.Hint.TheVariants.{Marks, Adds}
use Rattle.hint_effects.specs.declared.Target.TheVariants.{One, Whole, Nothing}
use Rattle.hint_effects.specs.declared.by_target.ByTarget.{ByTarget}

nothing-more : (b : Bool) (n : ℕ) → n ≡ n + (if b then 0 else 0)
nothing-more true n = omega arith
nothing-more false n = omega arith

whole-only : (s b e : Bool) (amount : ℕ) → (if s && (b && e) then amount else 0) ≡ 0 + (if b then (if s && e then amount else 0) else 0)
whole-only true true true amount = omega arith
whole-only true true false amount = omega arith
whole-only true false e amount = omega arith
whole-only false true e amount = omega arith
whole-only false false e amount = omega arith

nothing-said : (s b : Bool) (amount : ℕ) → (if s && false then amount else 0) ≡ 0 + (if b then 0 else 0)
nothing-said true true amount = omega arith
nothing-said true false amount = omega arith
nothing-said false true amount = omega arith
nothing-said false false amount = omega arith

split : (b : Bool) (o w os ws : ℕ) → (o + (if b then w else 0)) + (os + (if b then ws else 0)) ≡ (o + os) + (if b then w + ws else 0)
split true o w os ws = omega arith
split false o w os ws = omega arith

capped-parts : (b : Bool) (o w : ℕ) → capped (capped o + (if b then capped w else 0)) ≡ capped (o + (if b then w else 0))
capped-parts true o w = omega arith
capped-parts false o w = omega arith

module _ (p : Problem) (name : List ℕ) (c : ℕ) where
  part : (h : Hint) → addition p name c h ≡ own_part name c h + (if is_present p c then whole_part name (package_of p c) h else 0)
  part (Marks mark target) = nothing-more (is_present p c) 0
  part (Adds amount other (One n)) = nothing-more (is_present p c) (if is_same other name && c == n then amount else 0)
  part (Adds amount other (Whole q)) = whole-only (is_same other name) (is_present p c) (package_of p c == q) amount
  part (Adds amount other Nothing) = nothing-said (is_same other name) (is_present p c) amount

  parts : (hints : List Hint) → added p hints name c ≡ sum_by (own_part name c) hints + (if is_present p c then sum_by (whole_part name (package_of p c)) hints else 0)
  parts [] = nothing-more (is_present p c) 0
  parts (h ∷ hints) =
      sum_by-cons (addition p name c) h hints
      ∙ ap (λ n. n + added p hints name c) (part h)
      ∙ ap (λ n. (own_part name c h + (if is_present p c then whole_part name (package_of p c) h else 0)) + n) (parts hints)
      ∙ split (is_present p c) (own_part name c h) (whole_part name (package_of p c) h) (sum_by (own_part name c) hints) (sum_by (whole_part name (package_of p c)) hints)
      ∙ ap (λ n. n + (if is_present p c then whole_part name (package_of p c) h + sum_by (whole_part name (package_of p c)) hints else 0)) (sym (sum_by-cons (own_part name c) h hints))
      ∙ ap (λ n. sum_by (own_part name c) (h ∷ hints) + (if is_present p c then n else 0)) (sym (sum_by-cons (whole_part name (package_of p c)) h hints))

  pub added-capped : (hints : List Hint) (sums : ByTarget) → AreSums hints name sums → capped (at_number sums c + on_package p sums c) ≡ capped (added p hints name c)
  added-capped hints sums are =
      ap (λ n. capped (n + on_package p sums c)) (are.numbers c)
      ∙ ap (λ n. capped (capped (sum_by (own_part name c) hints) + (if is_present p c then n else 0))) (are.packages (package_of p c))
      ∙ capped-parts (is_present p c) (sum_by (own_part name c) hints) (sum_by (whole_part name (package_of p c)) hints)
      ∙ ap capped (sym (parts hints))
