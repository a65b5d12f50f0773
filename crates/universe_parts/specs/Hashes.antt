-- Hashes of names.
use Rattle.std.specs.Prelude.{ℕ, ◌/◌, List}
use Rattle.std.specs.Hash.FoldHasher as folding

abbrev pub hash_of : List ℕ → ℕ
hash_of bytes = folding.finish (folding.write folding.initial bytes)

-- which of 524,288 shares of all hashes that of a name is in
abbrev pub share_of : List ℕ → ℕ
share_of bytes = hash_of bytes / 35184372088832
