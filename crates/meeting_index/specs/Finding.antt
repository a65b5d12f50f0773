-- One number that passes a test.
use Rattle.std.specs.Prelude.{◌≡◌, ℕ, Bool, true, false, Option, Some, None}

-- a number that passes is found, or none passes
abbrev pub Finds : (ℕ → Bool) → Option ℕ → Type 0
Finds test None = (c : ℕ) → test c ≡ false
Finds test (Some c) = test c ≡ true
