-- The amounts of choices at cost names, apart from hints: 1 where a choice is of the kind that the name says, else 0.
use Rattle.std.specs.Prelude.{ℕ, Bool, true, false, not, ◌&&◌, ◌==◌, List, slice_index, slice_index_or, codes, if◌then◌else◌}
use Rattle.ascii.specs.Texts.{is_same}
use Rattle.problem.specs.Kinds.{kind_of}
use Rattle.problem.specs.Places.{absent_of}
use Rattle.problem.specs.declared.Kind.{Kind}
use Rattle.problem.specs.declared.Kind.TheVariants.{Install, Leave, NoChoice}
use Rattle.resolver_model.specs.Problems.{Problem, package_of}
use Rattle.universe.specs.TokenNumbers.{is_later_version}
use Rattle.universe_model.specs.Universes.{Universe, version_numbered}
use Rattle.wanted.specs.Wanting.{names_package}
use Rattle.wanted.specs.declared.Action.{Action}
use Rattle.hint_file.specs.declared.cost_names.CostKind.{CostKind}
use Rattle.hint_file.specs.declared.cost_names.CostKind.TheVariants.{Removals, RemovalsOfEssential, Installs, Upgrades, Downgrades, Canceled, BrokenHolds, NonCandidate, LeftRecommends, Other}

-- what is priced: the choices of a problem of a universe, with the actions that gave its start versions
pub record Scene : Type 0 where
  pub universe : Universe
  pub problem : Problem
  pub actions : List Action

abbrev pub scene : Universe → Problem → List Action → Scene
scene u p actions = record { universe = u; problem = p; actions = actions }

abbrev pub cost_kind : List ℕ → CostKind
cost_kind name =
    if is_same name (codes "removals") then Removals
    else if is_same name (codes "removals-of-essential") then RemovalsOfEssential
    else if is_same name (codes "installs") then Installs
    else if is_same name (codes "upgrades") then Upgrades
    else if is_same name (codes "downgrades") then Downgrades
    else if is_same name (codes "canceled") then Canceled
    else if is_same name (codes "broken-holds") then BrokenHolds
    else if is_same name (codes "non-candidate") then NonCandidate
    else if is_same name (codes "left-recommends") then LeftRecommends
    else Other

-- ---- a choice that installs the version v: its package, and that package's absent, installed and candidate version

abbrev pub own_package : Scene → ℕ → ℕ
own_package s v = package_of s.problem v

abbrev pub own_absent : Scene → ℕ → ℕ
own_absent s v = absent_of s.problem (own_package s v)

abbrev pub own_installed : Scene → ℕ → ℕ
own_installed s v = slice_index s.universe.installed (own_package s v)

abbrev pub own_candidate : Scene → ℕ → ℕ
own_candidate s v = slice_index s.universe.candidates (own_package s v)

abbrev pub is_absent : Scene → ℕ → Bool
is_absent s v = v == own_absent s v

abbrev pub is_installed : Scene → ℕ → Bool
is_installed s v = v == own_installed s v

abbrev pub is_candidate : Scene → ℕ → Bool
is_candidate s v = v == own_candidate s v

-- whether no version of its package is installed
abbrev pub is_none_installed : Scene → ℕ → Bool
is_none_installed s v = own_installed s v == own_absent s v

-- absent in place of an installed version
abbrev pub is_removal : Scene → ℕ → Bool
is_removal s v = is_absent s v && not (is_none_installed s v)

abbrev pub is_held : Scene → ℕ → Bool
is_held s v = slice_index_or s.universe.held (own_package s v) false

abbrev pub install_counts : Scene → CostKind → ℕ → Bool
install_counts s Removals v = is_removal s v
install_counts s RemovalsOfEssential v = is_removal s v && (version_numbered s.universe (own_installed s v)).essential
install_counts s Installs v = not (is_absent s v) && is_none_installed s v
install_counts s Upgrades v = is_later_version s.universe v (own_installed s v)
install_counts s Downgrades v = is_later_version s.universe (own_installed s v) v
install_counts s Canceled v = names_package s.actions (own_package s v)
install_counts s BrokenHolds v = is_held s v && not (is_installed s v)
install_counts s NonCandidate v = not (is_absent s v) && (not (is_installed s v) && not (is_candidate s v))
install_counts s LeftRecommends v = false
install_counts s Other v = false

-- a choice that leaves a group of Recommends
abbrev pub leave_counts : CostKind → Bool
leave_counts LeftRecommends = true
leave_counts _ = false

abbrev pub counts_by : Scene → CostKind → Kind → Bool
counts_by s kind (Install v) = install_counts s kind v
counts_by s kind (Leave d) = leave_counts kind
counts_by s kind NoChoice = false

-- whether the choice c is of the kind that a name says
abbrev pub counts : Scene → CostKind → ℕ → Bool
counts s kind c = counts_by s kind (kind_of s.problem c)
