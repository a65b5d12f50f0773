-- Packages and their versions (Debian Policy 5.6.7 and 5.6.12), and which are installed, candidates, held and essential.
use Rattle.std.specs.Prelude.{ℕ, Bool, true, false, not, ◌&&◌, ◌==◌, List, [], ◌∷◌, ◌++◌, map, Option, Some, None}
use Rattle.std.specs.List.{filter, find, list_any, position, position_or_len}
use Rattle.std.specs.Option.{unwrap_or}
use Rattle.std.specs.Ordering.{is_eq, is_gt}
use Rattle.lists.specs.Distinct.{distinct}
use Rattle.deb_version.specs.Versions.{Parts, parts}
use Rattle.deb_version.specs.VersionOrder.{version_order}
use Rattle.dep_fields.specs.Relationships.{Relationship}
use Rattle.dep_fields.specs.Fields.{field_of}
use Rattle.ascii.specs.Texts.{is_same}
use Rattle.universe_model.specs.Lists.{map_from}
use Rattle.universe_model.specs.Reading.{ReadStanza, Stanzas, all_of}

-- What is read of a version: its text and its parts, whether it is essential, its relationship fields in groups, and the
-- text of its paragraph.
pub record Release : Type 0 where
  pub text : List ℕ
  pub parts : Parts
  pub essential : Bool
  pub pre_depends : List (List Relationship)
  pub depends : List (List Relationship)
  pub recommends : List (List Relationship)
  pub conflicts : List (List Relationship)
  pub breaks : List (List Relationship)
  pub provides : List (List Relationship)
  pub paragraph : List ℕ

-- the groups of a field that may have alternatives, and of one that may not (Debian Policy 7.1)
abbrev pub groups_of : List ℕ → List (List Relationship)
groups_of value = (field_of true value).groups

abbrev pub single_groups_of : List ℕ → List (List Relationship)
single_groups_of value = (field_of false value).groups

-- a stanza's version
abbrev pub version_text : ReadStanza → List ℕ
version_text read = unwrap_or read.stanza.version []

abbrev pub release_of : ReadStanza → Release
release_of read = record {
  text = version_text read;
  parts = parts (version_text read);
  essential = read.stanza.essential;
  pre_depends = groups_of read.stanza.relations.pre_depends;
  depends = groups_of read.stanza.relations.depends;
  recommends = groups_of read.stanza.relations.recommends;
  conflicts = single_groups_of read.stanza.relations.conflicts;
  breaks = single_groups_of read.stanza.relations.breaks;
  provides = single_groups_of read.stanza.relations.provides;
  paragraph = read.paragraph;
}

-- whether two versions are equal in their order, and whether one is later
abbrev pub is_equal : Parts → Parts → Bool
is_equal a b = is_eq (version_order a b)

abbrev pub is_later : Parts → Parts → Bool
is_later a b = is_gt (version_order a b)

-- ---- packages: the distinct names, in order of their first stanza

abbrev pub name_of : ReadStanza → List ℕ
name_of read = read.stanza.name

abbrev pub is_named : List ℕ → ReadStanza → Bool
is_named name read = is_same (name_of read) name

abbrev pub names : Stanzas → List (List ℕ)
names stanzas = distinct is_same (map name_of (all_of stanzas))

-- ---- versions: of each package absent, and then those that are read

-- A version of a package with its number and its name. What is absent has no release.
pub record Version : Type 0 where
  pub package_number : ℕ
  pub name : List ℕ
  pub release : Option Release

-- whether a stanza gives a version of the package
abbrev pub gives_version : List ℕ → ReadStanza → Bool
gives_version name read = read.stanza.present && is_named name read

abbrev pub is_same_version : ReadStanza → ReadStanza → Bool
is_same_version a b = is_equal (parts (version_text a)) (parts (version_text b))

-- Of stanzas with equal versions the first gives the version and its relationships.
abbrev pub releases_of : List ReadStanza → List ℕ → List Release
releases_of stanzas name = map release_of (distinct is_same_version (filter (gives_version name) stanzas))

abbrev pub version_of : ℕ → List ℕ → Option Release → Version
version_of q name release = record { package_number = q; name = name; release = release }

abbrev pub package_versions : List ReadStanza → ℕ → List ℕ → List Version
package_versions stanzas q name = version_of q name None ∷ map (λ release. version_of q name (Some release)) (releases_of stanzas name)

abbrev pub concat : {A : Type 0} → List (List A) → List A
concat [] = []
concat (xs ∷ xss) = xs ++ concat xss

-- all versions, over the packages in order
abbrev pub versions : Stanzas → List Version
versions stanzas = concat (map_from (package_versions (all_of stanzas)) 0 (names stanzas))

-- ---- numbers: a version's number is its place among all versions

abbrev pub is_of : ℕ → Version → Bool
is_of q v = v.package_number == q

-- the number of absent, the package's first version
abbrev pub absent_of : List Version → ℕ → ℕ
absent_of vs q = position_or_len (is_of q) vs

abbrev pub is_release_with : (Release → Bool) → Option Release → Bool
is_release_with test None = false
is_release_with test (Some release) = test release

-- whether a version is that of these parts
abbrev pub is_version_of : Parts → Version → Bool
is_version_of ps v = is_release_with (λ release. is_equal release.parts ps) v.release

-- ---- installed, candidate, held

-- the number of the version that a stanza gives, or else of absent
abbrev pub version_given : List Version → ℕ → Option ReadStanza → ℕ
version_given vs q None = absent_of vs q
version_given vs q (Some read) = position_or_len (λ v. is_of q v && is_version_of (parts (version_text read)) v) vs

-- the installed version of a package: that of its first present status stanza, or else absent
abbrev pub installed_of : List Version → List ReadStanza → ℕ → List ℕ → ℕ
installed_of vs status q name = version_given vs q (find (gives_version name) status)

-- whether a version is read, and no other of its package is later
abbrev pub is_later_than : Release → Version → Bool
is_later_than release v = is_release_with (λ other. is_later other.parts release.parts) v.release

abbrev pub is_greatest : List Version → Version → Bool
is_greatest vs v =
    is_release_with (λ release. not (list_any (λ other. is_of v.package_number other && is_later_than release other) vs)) v.release

-- the candidate of a package: its greatest version that is read, or absent where none is
abbrev pub candidate_of : List Version → ℕ → ℕ
candidate_of vs q = unwrap_or (position (λ v. is_of q v && is_greatest vs v) vs) (absent_of vs q)

abbrev pub is_hold : Option ReadStanza → Bool
is_hold None = false
is_hold (Some read) = read.stanza.hold

-- a package is held if its first status stanza has the wish `hold`
abbrev pub is_held : List ReadStanza → List ℕ → Bool
is_held status name = is_hold (find (is_named name) status)
