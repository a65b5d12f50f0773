-- The actions of a command line, and the start versions that they give.
use Rattle.std.specs.Prelude.{◌≡◌, ◌<◌, ℕ, ◌-◌, Bool, true, false, cond, ◌==◌, List, [], length, take, slice_index, slice_index_or, Option, Some, None, All}
use Rattle.std.specs.List.{list_any, find, filter_map, before_first, after_first}
use Rattle.std.specs.Option.{option_map, option_and_then, unwrap_or}
use Rattle.lists.specs.Below.{below}
use Rattle.deb_version.specs.Versions.{is_version, parts}
use Rattle.universe_model.specs.Lists.{map_from}
use Rattle.universe_model.specs.Tokens.{is_equals}
use Rattle.universe_model.specs.Universes.{Universe, package_named, absent_in, version_in, version_numbered}
use Rattle.wanted.specs.declared.Action.{Action}

-- ---- words

abbrev pub start_from : ℕ → ℕ → Action
start_from q v = record { package_number = q; version = v }

-- the action on the package with this name, to start from what `version` gives for it
abbrev pub action_on : Universe → List ℕ → (ℕ → Option ℕ) → Option Action
action_on u name version = option_and_then (λ q. option_map (start_from q) (version q)) (package_named u name)

-- the version of a package that is equal to a text
abbrev pub version_of_text : Universe → List ℕ → ℕ → Option ℕ
version_of_text u text q = cond (is_version text) (version_in u q (parts text)) None

-- the version of a package that a mark asks for: 43 is '+', for its candidate, 45 '-', for absent, and 58 ':', for the
-- installed version
abbrev pub version_by : Universe → ℕ → ℕ → Option ℕ
version_by u mark q =
    cond (mark == 43) (Some (slice_index u.candidates q))
    (cond (mark == 45) (Some (absent_in u q)) (cond (mark == 58) (Some (slice_index u.installed q)) None))

-- The action that a word is, if it is one: a name before the first '=' and a version behind it, or else a name before the
-- last byte, which is a mark.
abbrev pub action_of : Universe → List ℕ → Option Action
action_of u word =
    let last = length word - 1 in
    cond (list_any is_equals word) (action_on u (before_first is_equals word) (version_of_text u (after_first is_equals word)))
    (action_on u (take last word) (version_by u (slice_index word last)))

-- ---- lists of words

abbrev pub is_on : ℕ → Action → Bool
is_on q action = action.package_number == q

-- whether one of the actions is on the package
abbrev pub names_package : List Action → ℕ → Bool
names_package actions q = list_any (is_on q) actions

-- the actions of words, in order
abbrev pub actions_of : Universe → List (List ℕ) → List Action
actions_of u words = filter_map (action_of u) words

-- whether a word with this action is bad: it has none, or an earlier action is on its package
abbrev pub is_bad_after : List Action → Option Action → Bool
is_bad_after earlier None = true
is_bad_after earlier (Some action) = names_package earlier action.package_number

abbrev pub is_bad_at : Universe → List (List ℕ) → ℕ → Bool
is_bad_at u words k = is_bad_after (actions_of u (take k words)) (action_of u (slice_index_or words k []))

-- the place of the first bad word, from 0
abbrev pub first_bad : Universe → List (List ℕ) → Option ℕ
first_bad u words = find (is_bad_at u words) (below (length words))

-- ---- start versions

-- the version of a package: that of the action on it, or else `installed`
abbrev pub start_with : List Action → ℕ → ℕ → ℕ
start_with actions q installed = unwrap_or (option_map (λ (action : Action). action.version) (find (is_on q) actions)) installed

-- the versions of the packages in order, of which the installed ones are these
abbrev pub with_actions : List Action → List ℕ → List ℕ
with_actions actions installed = map_from (start_with actions) 0 installed

abbrev pub starts_with : Universe → List Action → List ℕ
starts_with u actions = with_actions actions u.installed

-- ---- what holds of actions beside a universe

-- a version of the package
pub record IsVersionOf (u : Universe) (q v : ℕ) : Type 0 where
  pub within : v < length u.versions
  pub own : (version_numbered u v).package_number ≡ q

-- a package of the universe, and one of its versions
pub record IsActionOf (u : Universe) (action : Action) : Type 0 where
  pub named : action.package_number < length u.names
  pub version : IsVersionOf u action.package_number action.version

abbrev pub IsOf : Universe → List Action → Type 0
IsOf u actions = All (IsActionOf u) actions

-- a flag for each package, false past the end: whether one of the actions is on it
abbrev pub AreNamed : List Action → List Bool → Type 0
AreNamed actions named = (q : ℕ) → slice_index_or named q false ≡ names_package actions q
