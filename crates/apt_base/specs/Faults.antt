-- Counts of faults. An object from outside counts how often it has failed.
use Rattle.std.specs.Prelude.{◌≡◌, ◌≢◌, ℕ, ◌+◌, ◌-◌, ◌^◌, ◌≤◌, min, max, List, Bool, true, Option, None, Some, Result, OnErr, IsSome}
use Rattle.std.specs.Option.{unwrap_or, is_some}
use Rattle.std.specs.Str.{bytes_eq}
use Rattle.std.specs.Map.{lookup}

-- the greatest count, where a count stays
abbrev pub most_faults : ℕ
most_faults = 2 ^ 64 - 1

-- a call raised the count; one that begins with the greatest count is said to raise it
abbrev pub Rose : ℕ → ℕ → Type 0
Rose before now = min (before + 1) most_faults ≤ now

-- the count after one more fault
abbrev pub raised : ℕ → ℕ
raised count = max count (min (count + 1) most_faults)

-- no count ever falls, and the greatest stays
pub record IsLater (before now : ℕ) : Type 0 where
  pub no_less : before ≤ now
  pub stays : before ≡ most_faults → now ≡ most_faults

-- a call answers an error only where the count rose in it
pub record HasCause {T E : Type 0} (before now : ℕ) (result : Result T E) : Type 0 where
  pub later : IsLater before now
  pub failed : OnErr result (Rose before now)

-- names with a value each, and the value of the first entry with this name
abbrev pub ByName : Type 0 → Type 0
ByName X = List (List ℕ × X)

abbrev pub at_name : {X : Type 0} → ByName X → List ℕ → Option X
at_name entries name = lookup (bytes_eq name) entries

-- the count of faults of a name among the names asked; a name that was not asked has none
abbrev pub faults_of : ByName ℕ → List ℕ → ℕ
faults_of asked name = unwrap_or (at_name asked name) 0

-- calls on this name keep it among the names asked, its count never falls, and no other name's count changes
pub record CountsOnly (name : List ℕ) (before now : ByName ℕ) : Type 0 where
  pub asked : IsSome (at_name before name) → IsSome (at_name now name)
  pub later : IsLater (faults_of before name) (faults_of now name)
  pub others : (other : List ℕ) → other ≢ name → at_name now other ≡ at_name before other

-- the name, if there is one, is among the names asked
abbrev pub is_asked_for : ByName ℕ → Option (List ℕ) → Bool
is_asked_for asked None = true
is_asked_for asked (Some name) = is_some (at_name asked name)
