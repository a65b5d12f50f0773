-- Truth values: what std's `lemmas.Bool`, `Math.Bool` and `specs.Cmp.both_ways` do not say.
use Rattle.std.proofs.Common.{◌≡◌, ℕ, Bool, true, false, ◌&&◌, refl, nat_eq}
use Rattle.std.proofs.lemmas.Bool.{eq-eqb}

-- the two sides of a test joined by `&&`
pub and_first : (a b : Bool) → (a && b) ≡ true → a ≡ true
and_first true b h = refl
and_first false b h = h

pub and_second : (a b : Bool) → (a && b) ≡ true → b ≡ true
and_second true b h = h
and_second false b h = absurd (cc)

-- the side that fails
pub and_second-false : (a b : Bool) → (a && b) ≡ false → a ≡ true → b ≡ false
and_second-false true b h k = h
and_second-false false b h k = absurd (cc)

pub nat_eq-same : (n : ℕ) → nat_eq n n ≡ true
nat_eq-same n = eq-eqb n n refl
