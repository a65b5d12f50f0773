-- Lists that stand one behind another in a table: how much room each is to have, and how they stand in it.
use Rattle.std.specs.Prelude.{◌≡◌, ◌≤◌, ◌<◌, ℕ, suc, ◌+◌, ◌-◌, Bool, ◌||◌, List, [], ◌∷◌, ◌++◌, length, map, slice_index, slice_index_or, slice_range, nat_lt, replicate, set, take}
use Rattle.std.specs.List.{fold, sum}
use Rattle.problem.specs.declared.dep_lists.Span.{Span}
use Rattle.problem.specs.Listing.{ends_in, noted_all}

pub record Rooms : Type 0 where
  -- for how many numbers each list has room
  pub places : List ℕ
  -- how long the table is
  pub size : ℕ

abbrev pub no_rooms : Rooms
no_rooms = record { places = []; size = 0 }

-- at least so many lists; those that are added have no room
abbrev pub with_lists : Rooms → ℕ → Rooms
with_lists r count = record { places = r.places ++ replicate (count - length r.places) 0; size = r.size }

-- a table of at least this length
abbrev pub with_size : Rooms → ℕ → Rooms
with_size r size = record { places = r.places; size = r.size + (size - r.size) }

-- room for one number more in a list
abbrev pub counted : List ℕ → ℕ → List ℕ
counted places number = set places number (slice_index places number + 1)

-- and in each of these lists
abbrev pub counted_all : List ℕ → List ℕ → List ℕ
counted_all places numbers = fold counted places numbers

abbrev pub with_room : Rooms → List ℕ → Rooms
with_room r numbers = record { places = counted_all r.places numbers; size = r.size }

-- lists in a table
pub record Laid : Type 0 where
  pub lists : List (List ℕ)
  -- where the room of each begins
  pub firsts : List ℕ
  -- where the table ends
  pub size : ℕ

-- The room of a list ends where that of the next begins.
abbrev pub room_of : Laid → ℕ → ℕ
room_of l number = slice_index_or l.firsts (suc number) l.size - slice_index l.firsts number

-- A list ends in a dependency, or has room for it.
abbrev pub can_note : Laid → ℕ → ℕ → Bool
can_note l d number = ends_in d (slice_index_or l.lists number []) || nat_lt (length (slice_index_or l.lists number [])) (room_of l number)

abbrev pub with_noted : Laid → ℕ → List ℕ → Laid
with_noted l d numbers = record { lists = noted_all d l.lists numbers; firsts = l.firsts; size = l.size }

-- one more number at the end of a list
abbrev pub with_put : Laid → ℕ → ℕ → Laid
with_put l number d = record { lists = set l.lists number (slice_index_or l.lists number [] ++ d ∷ []); firsts = l.firsts; size = l.size }

abbrev pub no_span : Span
no_span = record { first = 0; end = 0 }

abbrev pub list_of : List ℕ → Span → List ℕ
list_of table span = slice_range table span.first span.end

abbrev pub laid_of : List Span → List ℕ → Laid
laid_of spans table = record { lists = map (list_of table) spans; firsts = map (λ s. s.first) spans; size = length table }

-- Each list is within its room.
pub record AreSpans (spans : List Span) (size : ℕ) : Type 0 where
  pub small : size < 4294967296
  pub each : (k : ℕ) → k < length spans → (slice_index_or spans k no_span).first ≤ (slice_index_or spans k no_span).end
  pub apart : (k : ℕ) → k < length spans → (slice_index_or spans k no_span).end ≤ slice_index_or (map (λ s. s.first) spans) (suc k) size

-- An empty span stands for each list, where the room of those before it ends.
pub record IsLaidOut (rooms spans : List Span) : Type 0 where
  pub size : length spans ≡ length rooms
  pub each : (k : ℕ) → k < length rooms → slice_index_or spans k no_span ≡ (let first = sum (take k (map (λ s. s.end) rooms)) in record { first = first; end = first })
