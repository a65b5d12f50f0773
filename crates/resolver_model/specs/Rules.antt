-- The rules that a user sets: which choices are approved, which are rejected, and how dear a level of a cost may be.
use Rattle.std.specs.Prelude.{◌<◌, ◌≤◌, ℕ, Bool, not, ◌&&◌, ◌||◌, List, [], ◌∷◌, map, nat_lt, nat_le, ◌==◌, slice_index, slice_index_or, length, IsTrue, Option, Some, None, if◌then◌else◌}
use Rattle.std.specs.List.{filter, find, list_any, list_all}
use Rattle.std.specs.Option.{option_map}
use Rattle.lists.specs.Sets.{is_rising, has, with, without, union, is_subset, is_disjoint}
use Rattle.resolver_model.specs.declared.marks.Mark.{Mark}
use Rattle.resolver_model.specs.declared.marks.Mark.TheVariants.{Free, Approved, Rejected}

-- A cap is a level, counted from 0, and the most that a cost may have there.
abbrev pub Cap : Type 0
Cap = ℕ × ℕ

-- The choices that are approved, those that are rejected, and the caps. All other choices are free.
pub record Rules : Type 0 where
  pub approved : List ℕ
  pub rejected : List ℕ
  pub caps : List Cap

-- the level of the cap at a place
abbrev pub level_at : List Cap → ℕ → ℕ
level_at caps i = let c = slice_index_or caps i (0, 0) in c.0

-- the levels rise, so no level has two caps
abbrev pub RisesByLevel : List Cap → Type 0
RisesByLevel caps = (i j : ℕ) → i < j → j < length caps → level_at caps i < level_at caps j

-- What holds of all rules that a user sets: the marked choices rise, none is marked both ways, and the caps rise by level.
pub record AreWellFormed (rules : Rules) : Type 0 where
  pub approved : IsTrue (is_rising rules.approved)
  pub rejected : IsTrue (is_rising rules.rejected)
  pub apart : IsTrue (is_disjoint rules.approved rules.rejected)
  pub caps : RisesByLevel rules.caps

abbrev pub no_rules : Rules
no_rules = record { approved = []; rejected = []; caps = [] }

-- the rules with this mark on the choice c
abbrev pub set_mark : Rules → ℕ → Mark → Rules
set_mark rules c Free = record { approved = without rules.approved c; rejected = without rules.rejected c; caps = rules.caps }
set_mark rules c Approved = record { approved = with rules.approved c; rejected = without rules.rejected c; caps = rules.caps }
set_mark rules c Rejected = record { approved = without rules.approved c; rejected = with rules.rejected c; caps = rules.caps }

abbrev pub mark_of : Rules → ℕ → Mark
mark_of rules c = if has rules.approved c then Approved else (if has rules.rejected c then Rejected else Free)

-- the choices that are not free, rising, with their marks
abbrev pub marks : Rules → List (ℕ × Mark)
marks rules = map (λ c. (c, mark_of rules c)) (union rules.approved rules.rejected)

abbrev pub cap : ℕ → ℕ → Cap
cap level most = (level, most)

-- the caps with this one in place of the one of its level
abbrev pub with_cap : List Cap → ℕ → ℕ → List Cap
with_cap [] level most = cap level most ∷ []
with_cap (c ∷ caps) level most =
    if nat_lt c.0 level then c ∷ with_cap caps level most else (cap level most ∷ (if c.0 == level then caps else c ∷ caps))

-- the caps without the one of this level
abbrev pub without_cap : List Cap → ℕ → List Cap
without_cap caps level = filter (λ c. not (c.0 == level)) caps

abbrev pub caps_with : List Cap → ℕ → Option ℕ → List Cap
caps_with caps level (Some most) = with_cap caps level most
caps_with caps level None = without_cap caps level

-- the rules with this cap on the level, or with none there
abbrev pub set_cap : Rules → ℕ → Option ℕ → Rules
set_cap rules level most = record { approved = rules.approved; rejected = rules.rejected; caps = caps_with rules.caps level most }

-- the most that a cost may have at the level, if it has a cap
abbrev pub cap_of : Rules → ℕ → Option ℕ
cap_of rules level = option_map (λ (c : Cap). c.1) (find (λ c. c.0 == level) rules.caps)

-- whether a cost is within a cap (a place past its end counts as 0)
abbrev pub is_under : List ℕ → Cap → Bool
is_under parts c = nat_le (slice_index parts c.0) c.1

-- A set with this cost keeps the rules if it has every approved choice and no rejected one, and no component of its cost
-- is greater than its cap.
abbrev pub keeps : Rules → List ℕ → List ℕ → Bool
keeps rules set parts = is_subset rules.approved set && is_disjoint rules.rejected set && list_all (is_under parts) rules.caps

-- A choice is against a set if it is rejected and in it, or approved and not in it.
abbrev pub is_against : Rules → List ℕ → ℕ → Bool
is_against rules set c = (has rules.rejected c && has set c) || (has rules.approved c && not (has set c))

-- c is the least choice against the set
pub record IsLeastAgainst (rules : Rules) (set : List ℕ) (c : ℕ) : Type 0 where
  pub against : IsTrue (is_against rules set c)
  pub least : (other : ℕ) → IsTrue (is_against rules set other) → c ≤ other

-- whether the component of a cost at this level is greater than its cap
abbrev pub is_over : Rules → List ℕ → ℕ → Bool
is_over rules parts level = list_any (λ c. c.0 == level && not (is_under parts c)) rules.caps

-- level is the least one at which the cost is greater than its cap
pub record IsLeastOver (rules : Rules) (parts : List ℕ) (level : ℕ) : Type 0 where
  pub over : IsTrue (is_over rules parts level)
  pub least : (other : ℕ) → IsTrue (is_over rules parts other) → level ≤ other
