-- Sums that stop at one more than the most that an amount may be: beyond that only that they are beyond counts.
use Rattle.std.specs.Prelude.{◌≡◌, ℕ, ◌&&◌, ◌==◌, min, List, if◌then◌else◌}
use Rattle.std.specs.List.{sum_by}
use Rattle.ascii.specs.Texts.{is_same}
use Rattle.hint_effects.specs.Stamped.{at_number, at_package}
use Rattle.hint_effects.specs.declared.Hint.{Hint}
use Rattle.hint_effects.specs.declared.Hint.TheVariants.{Adds}
use Rattle.hint_effects.specs.declared.Target.TheVariants.{One, Whole}
use Rattle.hint_effects.specs.declared.by_target.ByTarget.{ByTarget}

-- one more than the most that a choice may have at a level
abbrev pub past_amount : ℕ
past_amount = 4294967296

abbrev pub capped : ℕ → ℕ
capped amount = min amount past_amount

-- what a hint adds at a cost name for a number, and for all versions of a package beside absent
abbrev pub own_part : List ℕ → ℕ → Hint → ℕ
own_part name n (Adds amount other (One m)) = if is_same other name && n == m then amount else 0
own_part name n _ = 0

abbrev pub whole_part : List ℕ → ℕ → Hint → ℕ
whole_part name q (Adds amount other (Whole r)) = if is_same other name && q == r then amount else 0
whole_part name q _ = 0

pub record AreSums (hints : List Hint) (name : List ℕ) (sums : ByTarget) : Type 0 where
  pub numbers : (n : ℕ) → at_number sums n ≡ capped (sum_by (own_part name n) hints)
  pub packages : (q : ℕ) → at_package sums q ≡ capped (sum_by (whole_part name q) hints)
