-- What a token names apart from any problem, and which version is later.
use Rattle.std.specs.Prelude.{ℕ, Bool, false, List, Option, Some, Result, Ok}
use Rattle.std.specs.List.{position}
use Rattle.std.specs.Option.{option_map}
use Rattle.deb_version.specs.Versions.{parts}
use Rattle.resolver_model.specs.Problems.{leave_of}
use Rattle.universe_model.specs.Tokens.{Token, Removal, Release, Group, token_of, name_in, version_named, is_recommends_of, found_or}
use Rattle.universe_model.specs.Universes.{Universe, problem_of, package_named, version_numbered}
use Rattle.universe_model.specs.Versions.{is_later}
use Rattle.universe_model.specs.declared.TokenFault.{TokenFault}
use Rattle.universe_model.specs.declared.TokenFault.TheVariants.{NotAToken, NoSuchPackage, NoSuchVersion}

-- The number of the choice that a token with this version names, in each problem where that number is a choice: the version
-- itself, or leaving a group of its Recommends; a group that is not there or gave no dependency has none.
abbrev pub number_named : Universe → ℕ → Token → Option ℕ
number_named u v (Removal name) = Some v
number_named u v (Release name version) = Some v
number_named u v (Group name version place) = option_map (leave_of (problem_of u)) (position (is_recommends_of v place) u.requirements)

-- the same of a text, or its first fault in the order of the faults
abbrev pub token_number : Universe → List ℕ → Result (Option ℕ) TokenFault
token_number u text =
    found_or NotAToken (token_of text) (λ said.
    found_or NoSuchPackage (package_named u (name_in said)) (λ q.
    found_or NoSuchVersion (version_named u q said) (λ v.
    Ok (number_named u v said))))

-- whether a version's text is later than another's in the order of versions; absent has no text
abbrev pub is_later_text : Option (List ℕ) → Option (List ℕ) → Bool
is_later_text (Some text) (Some other) = is_later (parts text) (parts other)
is_later_text _ _ = false

abbrev pub is_later_version : Universe → ℕ → ℕ → Bool
is_later_version u v other = is_later_text (version_numbered u v).text (version_numbered u other).text
