-- What the tokens of a universe rest on.
use Rattle.std.proofs.Common.{◌≡◌, ℕ, ◌<◌, ◌≤◌, true, false, List, length, All, AllPairs, Some, None, Option}
use Rattle.deb_version.specs.Versions.{is_version, parts}
use Rattle.dep_fields.specs.Tokens.{is_name}
use Rattle.ascii.specs.Texts.{is_same}
use Rattle.universe_model.specs.Dependencies.{Requirement}
use Rattle.universe_model.specs.Limits.{most_groups}
use Rattle.universe_model.specs.Universes.{Known, Universe, version_numbered}
use Rattle.universe_model.specs.Versions.{is_equal}

-- the text of a version, where it has one
abbrev pub IsTextWell : Option (List ℕ) → Type 0
IsTextWell None = Unit {0}
IsTextWell (Some text) = is_version text ≡ true

-- what holds of a version of one of `count` packages
pub record IsKnownWell (count : ℕ) (v : Known) : Type 0 where
  pub owner : v.package_number < count
  pub text : IsTextWell v.text

-- a later version's text, which it has, is not equal to an earlier one's
abbrev pub AreUnequal : Option (List ℕ) → Option (List ℕ) → Type 0
AreUnequal earlier None = ⊥
AreUnequal None (Some text) = Unit {0}
AreUnequal (Some earlier) (Some text) = is_equal (parts earlier) (parts text) ≡ false

-- two versions are of two packages, or are not equal
abbrev pub AreApart : Known → Known → Type 0
AreApart v w = v.package_number ≡ w.package_number → AreUnequal v.text w.text

-- the source of a soft requirement is a version with a text, and its group has a place of up to 9 digits
pub record IsPlaced (u : Universe) (r : Requirement) : Type 0 where
  pub within : r.dependency.source < length u.versions
  pub text : List ℕ
  pub has_text : (version_numbered u r.dependency.source).text ≡ Some text
  pub low : 1 ≤ r.group
  pub high : r.group ≤ most_groups

abbrev pub IsPlacedIfSoft : Universe → Requirement → Type 0
IsPlacedIfSoft u r = r.dependency.soft ≡ true → IsPlaced u r

-- two soft requirements are of two sources, or of two places
abbrev pub HaveOtherPlaces : Requirement → Requirement → Type 0
HaveOtherPlaces r s = r.dependency.soft ≡ true → s.dependency.soft ≡ true → r.dependency.source ≡ s.dependency.source → r.group ≡ s.group → ⊥

pub record IsSound (u : Universe) : Type 0 where
  pub names : All (λ name. is_name name ≡ true) u.names
  pub names_apart : AllPairs (λ a b. is_same a b ≡ false) u.names
  pub versions : All (IsKnownWell (length u.names)) u.versions
  pub versions_apart : AllPairs AreApart u.versions
  pub soft : All (IsPlacedIfSoft u) u.requirements
  pub soft_apart : AllPairs HaveOtherPlaces u.requirements
