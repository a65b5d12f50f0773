-- The distinct names of those that were read.
use Rattle.std.proofs.Common.{◌≡◌, ℕ, List, [], ◌∷◌, ◌++◌, sym}
use Rattle.std.proofs.lemmas.Cmp.{nat_list_eq_equiv}
use Rattle.lists.proofs.Distinct.{distinct-push}
use Rattle.lists.specs.Distinct.{distinct}
use Rattle.ascii.specs.Texts.{is_same}
use Rattle.universe_parts.specs.Names.{with_name}

-- the names read so far, with one more
pub with_name-distinct : (read : List (List ℕ)) (name : List ℕ) → with_name (distinct is_same read) name ≡ distinct is_same (read ++ name ∷ [])
with_name-distinct read name = sym (distinct-push is_same nat_list_eq_equiv read name)
