-- Items and bounds that imply others.
use Rattle.std.specs.Prelude.{◌≡◌, List, ℕ, true, Option, Some, None}
use Rattle.deb_version.specs.Versions.{Parts}
use Rattle.dep_fields.specs.Relationships.{Relationship, VersionBound, meaning}
use Rattle.dep_fields.specs.declared.Item.{Item}
use Rattle.universe_model.specs.Meeting.{meets}
use Rattle.universe_model.specs.Versions.{Version}
use Rattle.meeting_index.specs.Fitting.{is_past}

-- What is within the one bound is within the other. Without a bound there is also what is provided without a version, which is within none.
abbrev pub ImpliesBound : Option VersionBound → Option VersionBound → Type 0
ImpliesBound a None = Unit {0}
ImpliesBound None (Some b) = ⊥
ImpliesBound (Some a) (Some b) = (version : Parts) → is_past a version ≡ true → is_past b version ≡ true

-- a version that meets the one item meets the other
abbrev pub Implies : Relationship → Relationship → Type 0
Implies a b = (native : List ℕ) (v : Version) → meets native a v ≡ true → meets native b v ≡ true

-- there is a last item, and it is implied by another one
abbrev pub IsCovered : Option Item → Relationship → Type 0
IsCovered None item = ⊥
IsCovered (Some last) item = Implies item (meaning last)
