-- Dependencies beside their groups and whether they are conflicts.
use Rattle.std.proofs.Common.{◌≡◌, ℕ, zero, suc, Bool, List, [], ◌∷◌, map, length, refl, ap, slice_index_or}
use Rattle.resolver_model.specs.Problems.{Dependency}
use Rattle.universe_model.specs.Dependencies.{Requirement}
use Rattle.universe_model.specs.Universes.{dependency_in}
use Rattle.universe.specs.Views.{requirements_of}

abbrev pub group_in : Requirement → ℕ
group_in r = r.group

abbrev pub conflict_in : Requirement → Bool
conflict_in r = r.conflict

pub requirements_of-dependencies : (ds : List Dependency) (gs : List ℕ) (cs : List Bool) → length gs ≡ length ds → length cs ≡ length ds
    → map dependency_in (requirements_of ds gs cs) ≡ ds
requirements_of-dependencies [] gs cs g c = refl
requirements_of-dependencies (d ∷ ds) [] cs g c = absurd (cc)
requirements_of-dependencies (d ∷ ds) (x ∷ gs) [] g c = absurd (cc)
requirements_of-dependencies (d ∷ ds) (x ∷ gs) (y ∷ cs) g c = ap (λ rest. d ∷ rest) (requirements_of-dependencies ds gs cs (cc) (cc))

pub requirements_of-groups : (ds : List Dependency) (gs : List ℕ) (cs : List Bool) → length gs ≡ length ds → length cs ≡ length ds
    → map group_in (requirements_of ds gs cs) ≡ gs
requirements_of-groups [] [] cs g c = refl
requirements_of-groups [] (x ∷ gs) cs g c = absurd (cc)
requirements_of-groups (d ∷ ds) [] cs g c = absurd (cc)
requirements_of-groups (d ∷ ds) (x ∷ gs) [] g c = absurd (cc)
requirements_of-groups (d ∷ ds) (x ∷ gs) (y ∷ cs) g c = ap (λ rest. x ∷ rest) (requirements_of-groups ds gs cs (cc) (cc))

pub requirements_of-conflicts : (ds : List Dependency) (gs : List ℕ) (cs : List Bool) → length gs ≡ length ds → length cs ≡ length ds
    → map conflict_in (requirements_of ds gs cs) ≡ cs
requirements_of-conflicts [] gs [] g c = refl
requirements_of-conflicts [] gs (y ∷ cs) g c = absurd (cc)
requirements_of-conflicts (d ∷ ds) [] cs g c = absurd (cc)
requirements_of-conflicts (d ∷ ds) (x ∷ gs) [] g c = absurd (cc)
requirements_of-conflicts (d ∷ ds) (x ∷ gs) (y ∷ cs) g c = ap (λ rest. y ∷ rest) (requirements_of-conflicts ds gs cs (cc) (cc))

-- requirements in three lists are themselves again
pub requirements_of-parts : (rs : List Requirement) → requirements_of (map dependency_in rs) (map group_in rs) (map conflict_in rs) ≡ rs
requirements_of-parts [] = refl
requirements_of-parts (r ∷ rs) = ap (λ rest. r ∷ rest) (requirements_of-parts rs)

module _ {A B : Type 0} where
  -- what a list of parts has at a place
  pub at-map : (f : A → B) (xs : List A) (i : ℕ) (d : A) → slice_index_or (map f xs) i (f d) ≡ f (slice_index_or xs i d)
  at-map f [] i d = refl
  at-map f (x ∷ xs) zero d = refl
  at-map f (x ∷ xs) (suc i) d = at-map f xs i d
