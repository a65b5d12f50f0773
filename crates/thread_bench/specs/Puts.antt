-- Which entries split a leaf.
use Rattle.std.specs.Prelude.{◌==◌, ℕ, Bool, false}
use Rattle.resolver_model.specs.declared.history.Entry.{Entry}
use Rattle.resolver_model.specs.declared.history.Entry.TheVariants.{Put}

-- the actor split a leaf
abbrev pub is_put_by : ℕ → Entry → Bool
is_put_by actor (Put a leaf by learned) = a == actor
is_put_by actor _ = false
