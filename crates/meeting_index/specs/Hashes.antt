-- Hashes of names.
use Rattle.std.specs.Prelude.{ℕ, List}
use Rattle.std.specs.Hash.FoldHasher as folding

abbrev pub hash_of : List ℕ → ℕ
hash_of bytes = folding.finish (folding.write folding.initial bytes)
