-- The limits of a universe, as its parts are listed one after another.
use Rattle.std.proofs.Common.{◌≡◌, ℕ, Bool, true, false, List, [], ◌∷◌, map, length, Option, Some, None, option_map, if◌then◌else◌, nat_lt, ◌+◌, refl, sym, ap, ◌∙◌}
use Rattle.std.proofs.lemmas.List.{length-map}
use Rattle.std.specs.List.{sum_by, fold}
use Rattle.std.specs.Option.{option_or}
use Rattle.problem.specs.declared.limits.Which.TheVariants.{Packages, Versions, Dependencies, Targets}
use Rattle.problem.specs.declared.limits.ProblemEnd.{ProblemEnd}
use Rattle.problem.specs.Limits.{most_packages, most_versions, most_dependencies, most_targets, target_count, refusal, end_past}
use Rattle.resolver_model.specs.Problems.{Problem, Dependency, package_count, version_count, dependency_count}
use Rattle.universe_model.specs.Dependencies.{Requirement, requirements}
use Rattle.universe_model.specs.Reading.{Stanzas}
use Rattle.universe_model.specs.Versions.{Version, names, versions, installed_of}
use Rattle.universe_model.specs.Universes.{dependency_in, known, owner_of, installed_in, universe_of, problem_of}
use Rattle.version_list.specs.Listings.{listing_refusal, package_number_of}
use Rattle.requirement_list.specs.RequirementLists.{requirement_refusal}
use Rattle.universe_model.specs.Limits.{limit_past}
use Rattle.laws_universe.proofs.Blocks.{length-map_from}

-- what refuses packages and versions, and then dependencies and targets
abbrev pub first_limits : ℕ → ℕ → Option ProblemEnd
first_limits packages versions = refusal Packages most_packages packages (refusal Versions most_versions versions None)

abbrev pub last_limits : ℕ → ℕ → Option ProblemEnd
last_limits dependencies targets = refusal Dependencies most_dependencies dependencies (refusal Targets most_targets targets None)

joined : (x y : Bool) (e f : ProblemEnd) (rest : Option ProblemEnd)
    → (if x then Some e else if y then Some f else rest) ≡ option_or (if x then Some e else if y then Some f else None) rest
joined true y e f rest = refl
joined false true e f rest = refl
joined false false e f rest = refl

pub limits-joined : (p : Problem) → limit_past p ≡ option_or (first_limits (package_count p) (version_count p)) (last_limits (dependency_count p) (target_count p))
limits-joined p =
    joined (nat_lt most_packages (package_count p)) (nat_lt most_versions (version_count p)) (end_past Packages most_packages) (end_past Versions most_versions)
    (last_limits (dependency_count p) (target_count p))

fold-targets : (n : ℕ) (rs : List Requirement) → fold (λ a (d : Dependency). a + length d.targets) n (map dependency_in rs) ≡ fold (λ a (r : Requirement). a + length r.dependency.targets) n rs
fold-targets n [] = refl
fold-targets n (r ∷ rs) = fold-targets (n + length r.dependency.targets) rs

pub targets-counted : (rs : List Requirement) → sum_by (λ (d : Dependency). length d.targets) (map dependency_in rs) ≡ sum_by (λ (r : Requirement). length r.dependency.targets) rs
targets-counted rs = fold-targets 0 rs

pub or-first : {A B : Type 0} (f : A → B) (a b : Option A) (end : B) → option_map f a ≡ Some end → option_map f (option_or a b) ≡ Some end
or-first f None b end e = absurd (cc)
or-first f (Some x) b end e = e

pub or-last : {A B : Type 0} (f : A → B) (a b : Option A) (end : B) → a ≡ None → option_map f b ≡ Some end → option_map f (option_or a b) ≡ Some end
or-last f a b end none e = ap (λ o. option_map f (option_or o b)) none ∙ e

pub owners-known : (vs : List Version) → map package_number_of vs ≡ map owner_of (map known vs)
owners-known [] = refl
owners-known (v ∷ vs) = ap (λ rest. v.package_number ∷ rest) (owners-known vs)

module _ (native : List ℕ) (stanzas : Stanzas) where
  pub names-counted : package_count (problem_of (universe_of native stanzas)) ≡ length (names stanzas)
  names-counted = length-map_from (installed_of (versions stanzas) stanzas.status) 0 (names stanzas)

  versions-counted : version_count (problem_of (universe_of native stanzas)) ≡ length (versions stanzas)
  versions-counted = sym (ap length (owners-known (versions stanzas))) ∙ length-map (versions stanzas) package_number_of

  -- the limits of the universe are those of its lists
  pub limits-of : limit_past (problem_of (universe_of native stanzas)) ≡ option_or (listing_refusal stanzas)
      (requirement_refusal (requirements (record { native = native; versions = versions stanzas; installed = installed_in stanzas (names stanzas) (versions stanzas) })))
  limits-of =
      limits-joined (problem_of (universe_of native stanzas))
      ∙ ap (λ n. option_or (first_limits n (version_count (problem_of (universe_of native stanzas)))) (last_limits (dependency_count (problem_of (universe_of native stanzas))) (target_count (problem_of (universe_of native stanzas))))) names-counted
      ∙ ap (λ n. option_or (first_limits (length (names stanzas)) n) (last_limits (dependency_count (problem_of (universe_of native stanzas))) (target_count (problem_of (universe_of native stanzas))))) versions-counted
      ∙ ap (λ n. option_or (listing_refusal stanzas) (last_limits n (target_count (problem_of (universe_of native stanzas))))) (length-map (requirements (record { native = native; versions = versions stanzas; installed = installed_in stanzas (names stanzas) (versions stanzas) })) dependency_in)
      ∙ ap (λ n. option_or (listing_refusal stanzas) (last_limits (length (requirements (record { native = native; versions = versions stanzas; installed = installed_in stanzas (names stanzas) (versions stanzas) }))) n)) (targets-counted (requirements (record { native = native; versions = versions stanzas; installed = installed_in stanzas (names stanzas) (versions stanzas) })))
