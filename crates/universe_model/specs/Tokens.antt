-- Tokens, which name choices: `name=version`, `name-`, and `name=version/K` for the K-th group of Recommends.
use Rattle.std.specs.Prelude.{ℕ, ◌-◌, Bool, not, cond, ◌&&◌, ◌==◌, List, [], ◌∷◌, ◌++◌, length, take, nat_le, slice_index, Option, Some, None, Result, Ok, Err}
use Rattle.std.specs.List.{list_all, list_any, position, before_first, after_first}
use Rattle.std.specs.Option.{option_map}
use Rattle.std.specs.Char.{is_ascii_digit}
use Rattle.std.specs.Fmt.{decimal}
use Rattle.std.specs.Str.Parse.{digits_value}
use Rattle.deb_version.specs.Versions.{is_version, parts}
use Rattle.dep_fields.specs.Tokens.{is_name}
use Rattle.resolver_model.specs.Problems.{Problem, dependency, is_install, leave_of}
use Rattle.problem.specs.declared.Kind.{Kind}
use Rattle.problem.specs.declared.Kind.TheVariants as kind
use Rattle.problem.specs.Kinds.{kind_of}
use Rattle.universe_model.specs.Dependencies.{Requirement}
use Rattle.universe_model.specs.Universes.{Universe, package_named, name_of_package, absent_in, version_in, version_numbered, group_of}
use Rattle.universe_model.specs.declared.TokenFault.{TokenFault}
use Rattle.universe_model.specs.declared.TokenFault.TheVariants.{NotAToken, NoSuchPackage, NoSuchVersion, NotAChoice}

-- ---- writing

-- 45 is '-', 47 '/' and 61 '='.
abbrev pub version_token : List ℕ → Option (List ℕ) → List ℕ
version_token name None = name ++ 45 ∷ []
version_token name (Some text) = name ++ 61 ∷ text

-- the token of the choice that installs a version
abbrev pub install_token : Universe → ℕ → List ℕ
install_token u v = version_token (name_of_package u (version_numbered u v).package_number) (version_numbered u v).text

abbrev pub source_of : Problem → ℕ → ℕ
source_of p d = (dependency p d).source

-- the token of a choice: absent by the name and '-', and another version as it was first read
abbrev pub token_by_kind : Universe → Problem → Kind → List ℕ
token_by_kind u p (kind.Install v) = install_token u v
token_by_kind u p (kind.Leave d) = install_token u (source_of p d) ++ (47 ∷ decimal (group_of u d))
token_by_kind u p kind.NoChoice = []

abbrev pub token : Universe → Problem → ℕ → List ℕ
token u p c = token_by_kind u p (kind_of p c)

-- ---- reading

-- what a token says: a package's removal, one of its versions, or a group of the Recommends of one of its versions
pub data Token : Type 0 where
  Removal : (name : List ℕ) → Token
  Release : (name version : List ℕ) → Token
  Group : (name version : List ℕ) (place : ℕ) → Token

abbrev pub is_equals : ℕ → Bool
is_equals byte = byte == 61

abbrev pub is_slash : ℕ → Bool
is_slash byte = byte == 47

-- the place of a group, counted from 1: 1 to 9 digits, of which the first is not '0'
abbrev pub is_place : List ℕ → Bool
is_place digits = nat_le 1 (length digits) && nat_le (length digits) 9 && list_all is_ascii_digit digits && not (slice_index digits 0 == 48)

-- a name before the last byte, which is '-'
abbrev pub removal_token : List ℕ → Option Token
removal_token text =
    let name = take (length text - 1) text in
    cond ((slice_index text (length text - 1) == 45) && is_name name) (Some (Removal name)) None

-- a name, and behind the first '=' a version
abbrev pub release_token : List ℕ → List ℕ → Option Token
release_token name version = cond (is_name name && is_version version) (Some (Release name version)) None

-- the same, with a group behind the first '/'
abbrev pub group_token : List ℕ → List ℕ → List ℕ → Option Token
group_token name version place =
    cond (is_name name && is_version version && is_place place) (Some (Group name version (digits_value 10 place))) None

abbrev pub version_token_of : List ℕ → List ℕ → Option Token
version_token_of name rest =
    cond (list_any is_slash rest) (group_token name (before_first is_slash rest) (after_first is_slash rest)) (release_token name rest)

-- the token that a text is, if it is one
abbrev pub token_of : List ℕ → Option Token
token_of text =
    cond (list_any is_equals text) (version_token_of (before_first is_equals text) (after_first is_equals text)) (removal_token text)

-- ---- finding

abbrev pub name_in : Token → List ℕ
name_in (Removal name) = name
name_in (Release name version) = name
name_in (Group name version place) = name

-- the version of a package that a token names, by equality in the order of versions
abbrev pub version_named : Universe → ℕ → Token → Option ℕ
version_named u q (Removal name) = Some (absent_in u q)
version_named u q (Release name version) = version_in u q (parts version)
version_named u q (Group name version place) = version_in u q (parts version)

abbrev pub is_recommends_of : ℕ → ℕ → Requirement → Bool
is_recommends_of v place r = r.dependency.soft && (r.dependency.source == v) && (r.group == place)

-- the choice that a token with this version names; a start version is none, and neither is a group without a dependency
abbrev pub choice_named : Universe → Problem → ℕ → Token → Option ℕ
choice_named u p v (Removal name) = cond (is_install p v) (Some v) None
choice_named u p v (Release name version) = cond (is_install p v) (Some v) None
choice_named u p v (Group name version place) = option_map (leave_of p) (position (is_recommends_of v place) u.requirements)

-- what is there goes on, and what is missing is this fault
abbrev pub found_or : {A B : Type 0} → TokenFault → Option A → (A → Result B TokenFault) → Result B TokenFault
found_or fault None next = Err fault
found_or fault (Some found) next = next found

-- the choice of a text, or the first fault in the order of the faults
abbrev pub choice_of : Universe → Problem → List ℕ → Result ℕ TokenFault
choice_of u p text =
    found_or NotAToken (token_of text) (λ said.
    found_or NoSuchPackage (package_named u (name_in said)) (λ q.
    found_or NoSuchVersion (version_named u q said) (λ v.
    found_or NotAChoice (choice_named u p v said) Ok)))
