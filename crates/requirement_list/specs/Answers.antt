-- What is listed for items, and what is kept of it.
use Rattle.std.specs.Prelude.{◌≡◌, ◌≤◌, ℕ, List, [], Option, Some, map, length, if◌then◌else◌}
use Rattle.std.specs.List.{filter, slice_get, slice_range}
use Rattle.lists.specs.Below.{below}
use Rattle.dep_fields.specs.Relationships.{Relationship}
use Rattle.meeting_index.specs.Indexes.{Indexed}
use Rattle.meeting_index.specs.Keys.{IsKeyOf}
use Rattle.meeting_index.specs.declared.keys.AnswerKey.{AnswerKey}
use Rattle.universe_model.specs.Dependencies.{Setting, is_met_in, unmet_in}
use Rattle.requirement_list.specs.Extents.{lists}
use Rattle.requirement_list.specs.Left.{Left}
use Rattle.requirement_list.specs.declared.answers.Answers.{Answers}
use Rattle.requirement_list.specs.declared.answers.Extent.{Extent}
use Rattle.requirement_list.specs.declared.answers.Row.{Row}

-- all packages with a version that meets an item, in order
abbrev pub met_packages : Setting → Relationship → List ℕ
met_packages s item = filter (is_met_in s item) (below (length s.installed))

-- a package, and its versions that do not meet an item, where they are listed
abbrev pub left_by : Setting → Relationship → Extent → ℕ → Left
left_by s item extent q = record { owner = q; versions = if lists extent q then unmet_in s item q else [] }

-- a package, without versions
abbrev pub bare : ℕ → Left
bare q = record { owner = q; versions = [] }

abbrev pub row_of : Setting → Relationship → Extent → List Left
row_of s item extent = map (left_by s item extent) (met_packages s item)

-- what an index is asked in a setting
abbrev pub index_in : Setting → Indexed
index_in s = record { native = s.native; versions = s.versions }

-- a row is that of all items whose answer is known by its key
pub record IsRow (s : Setting) (table : List Left) (row : Row) : Type 0 where
  pub order : row.first ≤ row.end
  pub within : row.end ≤ length table
  pub is : (item : Relationship) → IsKeyOf (index_in s) item row.key → slice_range table row.first row.end ≡ row_of s item row.extent

-- all rows are
pub record AreRows (s : Setting) (answers : Answers) : Type 0 where
  pub each : (place : ℕ) (row : Row) → slice_get answers.rows.items place ≡ Some row → IsRow s answers.table row

-- a row is kept, and has this key
pub record IsKept (answers : Answers) (key : Option AnswerKey) (row : Row) : Type 0 where
  pub place : ℕ
  pub there : slice_get answers.rows.items place ≡ Some row
  pub same : key ≡ Some row.key
