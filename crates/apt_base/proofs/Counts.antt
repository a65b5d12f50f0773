-- Counts of faults over several calls.
use Rattle.std.proofs.Common.{◌≡◌, ℕ, List, refl, ◌∙◌, arith}
use Rattle.apt_base.specs.Faults.{Rose, IsLater, CountsOnly, ByName, faults_of}

pub IsLater-refl : (count : ℕ) → IsLater count count
IsLater-refl count = record { no_less = omega arith; stays = λ e. e }

pub IsLater-trans : (a b c : ℕ) → IsLater a b → IsLater b c → IsLater a c
IsLater-trans a b c first second = record { no_less = omega (arith, first.no_less, second.no_less); stays = λ e. second.stays (first.stays e) }

pub Rose-before : (a b c : ℕ) → IsLater a b → Rose b c → Rose a c
Rose-before a b c first rose = let before = first.no_less in omega (arith, before, rose)

pub Rose-after : (a b c : ℕ) → Rose a b → IsLater b c → Rose a c
Rose-after a b c rose second = let after = second.no_less in omega (arith, rose, after)

-- a count that rose is not 0
pub not_zero : (before now : ℕ) → Rose before now → now ≡ 0 → ⊥
not_zero before now rose zero_now = omega (arith, rose, zero_now)

pub CountsOnly-refl : (name : List ℕ) (asked : ByName ℕ) → CountsOnly name asked asked
CountsOnly-refl name asked = record { asked = λ h. h; later = IsLater-refl (faults_of asked name); others = λ _ _. refl }

pub CountsOnly-trans : (name : List ℕ) (a b c : ByName ℕ) → CountsOnly name a b → CountsOnly name b c → CountsOnly name a c
CountsOnly-trans name a b c first second = record {
  asked = λ h. second.asked (first.asked h);
  later = IsLater-trans _ _ _ first.later second.later;
  others = λ other apart. second.others other apart ∙ first.others other apart;
}
