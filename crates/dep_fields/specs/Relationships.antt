-- One item of a relationship field (Debian Policy 7.1): a package name, with an architecture and a version bound where they are given.
use Rattle.std.specs.Prelude.{ℕ, ◌||◌, ◌==◌, List, [], ◌∷◌, Option, Some, None, Result, Ok, Err, option_map, option_copied, option_and_then, if◌then◌else◌}
use Rattle.std.specs.Borrow.{Bor}
use Rattle.deb_version.specs.Versions.{Parts, parts}
use Rattle.deb_version.specs.declared.Version.{Version}
use Rattle.dep_fields.specs.declared.Op.{Op}
use Rattle.dep_fields.specs.declared.Item.{Item}
use Rattle.dep_fields.specs.declared.RelKind.{RelKind}
use Rattle.dep_fields.specs.declared.RelKind.TheVariants.{BadItem, Restriction}
use Rattle.dep_fields.specs.Tokens.{Read, is_blank, behind, name_at, arch_at, op_at, version_at, close_at}

-- an operator and a version, as it is written and in its parts
pub record VersionBound : Type 0 where
  pub op : Op
  pub version : List ℕ
  pub parts : Parts

-- what an item says
pub record Relationship : Type 0 where
  pub name : List ℕ
  pub arch : Option (List ℕ)
  pub rel : Option VersionBound

infixl 10 ◌>>=◌
abbrev pub ◌>>=◌ : {A B : Type 0} → Option A → (A → Option B) → Option B
o >>= f = option_and_then f o

-- an operator, a version and ')'
unfoldable pub bound_at : List ℕ → Read VersionBound
bound_at text = do
  op ← op_at (behind is_blank text)
  version ← version_at (behind is_blank op.1)
  rest ← close_at (behind is_blank version.1)
  Some (record { op = op.0; version = version.0; parts = parts version.0 }, rest)

abbrev pub some_bound : VersionBound × List ℕ → Option VersionBound × List ℕ
some_bound read = (Some read.0, read.1)

-- '(' and a version bound, or none
unfoldable pub rel_at : List ℕ → Read (Option VersionBound)
rel_at [] = Some (None, [])
rel_at (byte ∷ text) = if byte == 40 then option_map some_bound (bound_at text) else Some (None, byte ∷ text)

-- a whole item at the front of a text, with the blanks before it and behind it
unfoldable pub relationship_at : List ℕ → Read Relationship
relationship_at text = do
  name ← name_at (behind is_blank text)
  arch ← arch_at name.1
  rel ← rel_at (behind is_blank arch.1)
  Some (record { name = name.0; arch = arch.0; rel = rel.0 }, behind is_blank rel.1)

-- a whole item ends the text; '[' and '<' behind it begin a restriction
abbrev pub ended : Option (Relationship × List ℕ) → Result Relationship RelKind
ended None = Err BadItem
ended (Some (item, [])) = Ok item
ended (Some (item, byte ∷ rest)) = Err (if byte == 91 || byte == 60 then Restriction else BadItem)

-- the item that a text spells, or why it spells none
unfoldable pub relationship_of : List ℕ → Result Relationship RelKind
relationship_of text = ended (relationship_at text)

-- ---- what the values of the program mean

abbrev pub parts_of : Version → Parts
parts_of v = record { epoch = v.epoch.now; upstream = v.upstream.now; revision = v.revision.now }

abbrev pub bound_of : Op × Version → VersionBound
bound_of rel = record { op = rel.0; version = rel.1.text.now; parts = parts_of rel.1 }

-- what an item says
abbrev pub meaning : Item → Relationship
meaning item = record { name = item.name.now; arch = option_copied item.arch; rel = option_map bound_of item.rel }

-- what the readers return, with the texts behind the references
abbrev pub bound_view : (Op × Version) × Bor (List ℕ) → VersionBound × List ℕ
bound_view read = (bound_of read.0, read.1.now)

abbrev pub rel_view : Option (Op × Version) × Bor (List ℕ) → Option VersionBound × List ℕ
rel_view read = (option_map bound_of read.0, read.1.now)

abbrev pub item_view : Item × Bor (List ℕ) → Relationship × List ℕ
item_view read = (meaning read.0, read.1.now)

-- the item that was read, or why none was
abbrev pub outcome : Result Item RelKind → Result Relationship RelKind
outcome (Ok item) = Ok (meaning item)
outcome (Err kind) = Err kind
