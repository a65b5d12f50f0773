-- A universe as the program keeps it.
use Rattle.std.specs.Prelude.{◌≡◌, ℕ, Bool, true, List, [], ◌∷◌, map, length, Option, None, Some, option_map, IsTrue}
use Rattle.std.specs.List.{AllPairs, list_all}
use Rattle.std.specs.Global.{Vec}
use Rattle.deb_version.specs.Versions.{is_version}
use Rattle.laws_universe.specs.Standing.{StandApart, StaysBefore}
use Rattle.problem.specs.Places.{IsOneOfEach}
use Rattle.resolver_model.specs.Problems.{Dependency, package_count, dependency_count}
use Rattle.universe_model.specs.Dependencies.{Requirement}
use Rattle.universe_model.specs.Universes as model
use Rattle.universe.specs.Order.{AreInOrder}
use Rattle.universe.specs.declared.known.KnownVersion.{KnownVersion}
use Rattle.universe.specs.declared.Universe.TheInside.{Inside}

-- what is known of a version
abbrev pub known_version : KnownVersion → model.Known
known_version v = record {
  package_number = v.package;
  text = option_map (λ (t : Vec ℕ). t.items) v.text;
  essential = v.essential;
}

-- dependencies with their groups and whether they are conflicts, in order
abbrev pub requirements_of : List Dependency → List ℕ → List Bool → List Requirement
requirements_of [] groups conflicts = []
requirements_of (d ∷ ds) [] conflicts = []
requirements_of (d ∷ ds) (g ∷ gs) [] = []
requirements_of (d ∷ ds) (g ∷ gs) (c ∷ cs) = record { dependency = d; group = g; conflict = c } ∷ requirements_of ds gs cs

abbrev pub universe_kept : Inside → model.Universe
universe_kept u = record {
  native = u.native.items;
  names = u.names;
  installed = u.problem.starts;
  candidates = u.candidates.items;
  held = u.held.items;
  versions = map known_version u.versions.items;
  requirements = requirements_of u.problem.dependencies u.groups.items u.conflicts.items;
}

-- a text, if there is one, is a version
abbrev pub is_text_sound : Option (List ℕ) → Bool
is_text_sound None = true
is_text_sound (Some text) = is_version text

-- whether a version that is kept has such a text
abbrev pub is_sound : model.Known → Bool
is_sound v = is_text_sound v.text

-- What holds of all universes that are kept.
pub record IsKept (u : Inside) : Type 0 where
  pub names : length u.names ≡ package_count u.problem
  pub held : length u.held.items ≡ package_count u.problem
  pub candidates : IsOneOfEach u.problem u.candidates.items
  pub owners : u.problem.owners ≡ map model.owner_of (map known_version u.versions.items)
  pub groups : length u.groups.items ≡ dependency_count u.problem
  pub conflicts : length u.conflicts.items ≡ dependency_count u.problem
  pub dependencies : AllPairs StaysBefore (requirements_of u.problem.dependencies u.groups.items u.conflicts.items)
  pub apart : AllPairs StandApart (map known_version u.versions.items)
  pub order : AreInOrder (map known_version u.versions.items) u.order.items
  pub texts : IsTrue (list_all is_sound (map known_version u.versions.items))
