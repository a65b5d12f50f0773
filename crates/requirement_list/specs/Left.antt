-- Packages with versions that an item leaves of them, and how they stand in flat tables.
use Rattle.std.specs.Prelude.{ℕ, Bool, ◌&&◌, not, ◌==◌, nat_le, nat_lt, List, [], map, length}
use Rattle.std.specs.List.{filter, slice_range, list_all}
use Rattle.lists.specs.Sets.{is_rising}
use Rattle.universe_model.specs.Dependencies.{Requirement}
use Rattle.requirement_list.specs.Fields.{requirement_of}
use Rattle.requirement_list.specs.declared.collected.Field.TheVariants.{Conflicts}
use Rattle.requirement_list.specs.declared.left.Entry.{Entry}

-- a package, and versions of it
pub record Left : Type 0 where
  pub owner : ℕ
  pub versions : List ℕ

abbrev pub nothing_left : Left
nothing_left = record { owner = 0; versions = [] }

abbrev pub left_in : List ℕ → Entry → Left
left_in versions entry = record { owner = entry.owner; versions = slice_range versions entry.first entry.end }

abbrev pub all_left : List ℕ → List Entry → List Left
all_left versions entries = map (left_in versions) entries

-- an entry's part of the versions is within them
abbrev pub is_entry : List ℕ → Entry → Bool
is_entry versions entry = nat_le entry.first entry.end && nat_le entry.end (length versions)

-- ---- what a source has of them

-- the versions rise, and are versions
abbrev pub is_sound : ℕ → Left → Bool
is_sound count left = is_rising left.versions && list_all (λ v. nat_lt v count) left.versions

-- the packages other than the source's own
abbrev pub others : ℕ → List Left → List ℕ
others own lefts = filter (λ q. not (q == own)) (map (λ (left : Left). left.owner) lefts)

abbrev pub opposed : ℕ → Left → Requirement
opposed source left = requirement_of Conflicts source left.versions

-- the dependencies on the versions of the others
abbrev pub of_left : ℕ → ℕ → List Left → List Requirement
of_left source own lefts = map (opposed source) (filter (λ (left : Left). not (left.owner == own)) lefts)
