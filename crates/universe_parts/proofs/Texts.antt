-- A name is there, or goes to the end.
use Rattle.std.proofs.Common.{arith, ◌≡◌, ℕ, List, [], ◌∷◌, ◌++◌, Bool, true, false, not, if◌then◌else◌, Some, None, sym, ap, length}
use Rattle.std.proofs.lemmas.List.Sums.{prefix_len-le-length}
use Rattle.lists.proofs.Tests.{position_none, position_none_past, position_some}
use Rattle.std.specs.List.{list_any, position, position_or_len}
use Rattle.ascii.specs.Texts.{is_same}
use Rattle.universe_parts.specs.Names.{with_name}

with_name-if : (b : Bool) (names : List (List ℕ)) (name : List ℕ) → b ≡ true → names ≡ (if b then names else names ++ name ∷ [])
with_name-if b names name there = ap (λ c. if c then names else names ++ name ∷ []) (sym there)

-- a name that has a number is there
pub with_name-found : (names : List (List ℕ)) (name : List ℕ) (n : ℕ) → position (is_same name) names ≡ Some n → names ≡ with_name names name
with_name-found names name n found =
    with_name-if (list_any (is_same name) names) names name ((position_some (is_same name) names n (sym found)).0)

-- a name that has none is not there, and goes to the end
with_name-else : (b : Bool) (names : List (List ℕ)) (name : List ℕ) → b ≡ false → names ++ name ∷ [] ≡ (if b then names else names ++ name ∷ [])
with_name-else b names name none = ap (λ c. if c then names else names ++ name ∷ []) (sym none)

pub with_name-new : (names : List (List ℕ)) (name : List ℕ) → position (is_same name) names ≡ None → names ++ name ∷ [] ≡ with_name names name
with_name-new names name none = with_name-else (list_any (is_same name) names) names name (position_none (is_same name) names (sym none))

pub position_or_len-none : (names : List (List ℕ)) (name : List ℕ) → position (is_same name) names ≡ None → length names ≡ position_or_len (is_same name) names
position_or_len-none names name none =
    let past = position_none_past (is_same name) names (sym none) in
    let within = prefix_len-le-length (λ other. not (is_same name other)) names in
    omega arith

pub position_or_len-found : (names : List (List ℕ)) (name : List ℕ) (n : ℕ) → position (is_same name) names ≡ Some n → n ≡ position_or_len (is_same name) names
position_or_len-found names name n found = (position_some (is_same name) names n (sym found)).1
