-- How much is listed for an item.
use Rattle.std.specs.Prelude.{◌≡◌, ℕ, Bool, true, false, not, ◌==◌}
use Rattle.requirement_list.specs.declared.answers.Extent.{Extent}
use Rattle.requirement_list.specs.declared.answers.Extent.TheVariants.{All, AllBut, Packages}

-- whether the versions of a package are listed
abbrev pub lists : Extent → ℕ → Bool
lists All q = true
lists (AllBut p) q = not (q == p)
lists Packages q = false

-- it is enough for a source of a package, which the item does not concern
abbrev pub Serves : Extent → ℕ → Type 0
Serves extent own = (q : ℕ) → (q == own) ≡ false → lists extent q ≡ true
