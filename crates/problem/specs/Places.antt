-- Where the versions of a package stand: from absent, its first one, to before its end.
use Rattle.std.specs.Prelude.{◌≡◌, ◌<◌, ℕ, List, length, nat_lt, nat_le, slice_index}
use Rattle.std.specs.List.{count_by}
use Rattle.resolver_model.specs.Problems.{Problem, IsWellFormed, package_count, package_of, version_count}
use Rattle.problem.specs.Limits.{IsWithinLimits}

-- the number of versions of earlier packages
abbrev pub absent_of : Problem → ℕ → ℕ
absent_of p q = count_by (λ owner. nat_lt owner q) p.owners

-- the number of versions of this package and earlier ones
abbrev pub end_of : Problem → ℕ → ℕ
end_of p q = count_by (λ owner. nat_le owner q) p.owners

-- the table of the first version of each package
pub record AreFirsts (p : Problem) (firsts : List ℕ) : Type 0 where
  pub size : length firsts ≡ package_count p
  pub each : (q : ℕ) → q < package_count p → slice_index firsts q ≡ absent_of p q

-- What holds of a problem and its table of first versions.
pub record IsKept (p : Problem) (firsts : List ℕ) : Type 0 where
  pub formed : IsWellFormed p
  pub within : IsWithinLimits p
  pub places : AreFirsts p firsts

-- one version of each package, in order
pub record IsOneOfEach (p : Problem) (versions : List ℕ) : Type 0 where
  pub size : length versions ≡ package_count p
  pub range : (q : ℕ) → q < package_count p → slice_index versions q < version_count p
  pub each : (q : ℕ) → q < package_count p → package_of p (slice_index versions q) ≡ q
