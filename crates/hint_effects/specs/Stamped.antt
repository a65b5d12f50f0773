-- The last hint that marks a number, and the last one that marks a package, by their places from 1; 0 where there is none.
use Rattle.std.specs.Prelude.{◌≡◌, ◌≤◌, ℕ, ◌-◌, Bool, ◌&&◌, ◌==◌, max, List, Option, Some, length, slice_get, slice_index, if◌then◌else◌}
use Rattle.std.specs.List.{filter}
use Rattle.lists.specs.Below.{below}
use Rattle.resolver_model.specs.Problems.{Problem, package_of, is_choice}
use Rattle.resolver_model.specs.declared.marks.Mark.{Mark}
use Rattle.resolver_model.specs.declared.marks.Mark.TheVariants.{Free}
use Rattle.hint_effects.specs.Effects.{is_present, mark_by, is_mark}
use Rattle.hint_effects.specs.declared.Target.{Target}
use Rattle.hint_effects.specs.declared.Target.TheVariants.{One, Whole, Nothing}
use Rattle.hint_effects.specs.declared.Hint.{Hint}
use Rattle.hint_effects.specs.declared.Hint.TheVariants.{Marks}
use Rattle.hint_effects.specs.declared.by_target.ByTarget.{ByTarget}

-- what numbers by target have for a number, and for a package
abbrev pub at_number : ByTarget → ℕ → ℕ
at_number numbers n = slice_index numbers.own.items n

abbrev pub at_package : ByTarget → ℕ → ℕ
at_package numbers q = slice_index numbers.whole.items q

abbrev pub at_target : ByTarget → Target → ℕ
at_target numbers (One n) = at_number numbers n
at_target numbers (Whole q) = at_package numbers q
at_target numbers Nothing = 0

-- what they have for the package of a choice, 0 where the choice installs no version beside absent
abbrev pub on_package : Problem → ByTarget → ℕ → ℕ
on_package p numbers c = if is_present p c then at_package numbers (package_of p c) else 0

-- the number of a target is changed, and no other
abbrev pub IsWith : ByTarget → Target → ℕ → ByTarget → Type 0
IsWith old (One n) value new =
    ((k : ℕ) → at_number new k ≡ (if k == n then value else at_number old k)) × ((k : ℕ) → at_package new k ≡ at_package old k)
IsWith old (Whole q) value new =
    ((k : ℕ) → at_number new k ≡ at_number old k) × ((k : ℕ) → at_package new k ≡ (if k == q then value else at_package old k))
IsWith old Nothing value new = ((k : ℕ) → at_number new k ≡ at_number old k) × ((k : ℕ) → at_package new k ≡ at_package old k)

-- whether a number is a choice that has the mark after all hints
abbrev pub has_mark : Problem → List Hint → Mark → ℕ → Bool
has_mark p hints mark c = is_choice p c && is_mark (mark_by p hints c) mark

-- the choices below n that have the mark
abbrev pub marked_upto : Problem → List Hint → Mark → ℕ → List ℕ
marked_upto p hints mark n = filter (has_mark p hints mark) (below n)

abbrev pub mark_in : Option Hint → Mark
mark_in (Some (Marks mark target)) = mark
mark_in _ = Free

-- the mark of the hint at a place from 1
abbrev pub mark_at : List Hint → ℕ → Mark
mark_at hints place = if place == 0 then Free else mark_in (slice_get hints (place - 1))

-- The later one of the last hint on a choice and the last one on its package gives its mark after the first hints.
pub record AreStamps (hints first : List Hint) (stamps : ByTarget) : Type 0 where
  pub numbers : (n : ℕ) → at_number stamps n ≤ length first
  pub packages : (q : ℕ) → at_package stamps q ≤ length first
  pub marks : (p : Problem) (c : ℕ) → mark_at hints (max (at_number stamps c) (on_package p stamps c)) ≡ mark_by p first c
