-- What is kept of a package while the stanzas are read, and what it lists.
use Rattle.std.specs.Prelude.{◌≡◌, ℕ, ◌+◌, Bool, false, not, ◌||◌, List, [], ◌∷◌, ◌++◌, map, length, nat_lt, Option, Some, None, option_map, if◌then◌else◌}
use Rattle.std.specs.List.{filter, find, list_any, position_or_len}
use Rattle.std.specs.Option.{option_or}
use Rattle.lists.specs.Distinct.{distinct}
use Rattle.deb_version.specs.Versions.{parts}
use Rattle.ascii.specs.Texts.{is_same}
use Rattle.universe_model.specs.Reading.{ReadStanza, Stanzas, all_of}
use Rattle.universe_model.specs.Versions.{Version, names, is_named, gives_version, is_same_version, is_later, version_text, version_of, release_of}
use Rattle.version_list.specs.declared.rows.Row.{Row}
use Rattle.version_list.specs.Releases.{release_stanza}

-- The package's name, the wish of its first status stanza, whether a status stanza gives a version of it, and the stanzas
-- that give its versions.
pub record RowText : Type 0 where
  pub name : List ℕ
  pub hold : Option Bool
  pub installed : Bool
  pub releases : List ReadStanza

abbrev pub wish_of : ReadStanza → Bool
wish_of read = read.stanza.hold

-- what is kept of the package of a name
abbrev pub row_of : Stanzas → List ℕ → RowText
row_of stanzas name = record {
  name = name;
  hold = option_map wish_of (find (is_named name) stanzas.status);
  installed = list_any (gives_version name) stanzas.status;
  releases = distinct is_same_version (filter (gives_version name) (all_of stanzas));
}

-- of all packages, in order
abbrev pub rows_of : Stanzas → List RowText
rows_of stanzas = map (row_of stanzas) (names stanzas)

-- the stanzas of a status file, of which all are read before those of a packages file
abbrev pub of_status : List ReadStanza → Stanzas
of_status status = record { status = status; packages = [] }

-- ---- one more stanza

abbrev pub empty_row : List ℕ → RowText
empty_row name = record { name = name; hold = None; installed = false; releases = [] }

-- a stanza without a version, or whose version is there, adds none
abbrev pub with_release : List ReadStanza → ReadStanza → List ReadStanza
with_release releases read =
    if read.stanza.present then (if list_any (is_same_version read) releases then releases else releases ++ read ∷ []) else releases

abbrev pub with_package_stanza : RowText → ReadStanza → RowText
with_package_stanza row read =
    record { name = row.name; hold = row.hold; installed = row.installed; releases = with_release row.releases read }

abbrev pub with_status_stanza : RowText → ReadStanza → RowText
with_status_stanza row read = record {
  name = row.name;
  hold = option_or row.hold (Some (wish_of read));
  installed = row.installed || read.stanza.present;
  releases = with_release row.releases read;
}

-- the rows of names, with one for this name
abbrev pub with_named_row : List (List ℕ) → List RowText → List ℕ → List RowText
with_named_row ns rows name = if list_any (is_same name) ns then rows else rows ++ empty_row name ∷ []

-- ---- what a package lists

abbrev pub row_versions : ℕ → RowText → List Version
row_versions q row = version_of q row.name None ∷ map (λ read. version_of q row.name (Some (release_of read))) row.releases

abbrev pub is_later_version : ReadStanza → ReadStanza → Bool
is_later_version a b = is_later (parts (version_text a)) (parts (version_text b))

-- whether none of the versions is later
abbrev pub is_top : List ReadStanza → ReadStanza → Bool
is_top releases read = not (list_any (λ other. is_later_version other read) releases)

-- places among a package's versions, of which absent has the place 0: that of a version that is read, that of the candidate,
-- and that of the installed version
abbrev pub behind_absent : ℕ → ℕ → ℕ
behind_absent place size = if nat_lt place size then 1 + place else 0

abbrev pub candidate_place : List ReadStanza → ℕ
candidate_place releases = behind_absent (position_or_len (is_top releases) releases) (length releases)

abbrev pub installed_place : RowText → ℕ
installed_place row = if row.installed then 1 else 0

-- ---- what the program keeps

abbrev pub row_read : Row → RowText
row_read row = record {
  name = row.name.now;
  hold = row.hold;
  installed = row.installed;
  releases = map release_stanza row.releases.items;
}

-- the program keeps the names and the rows of these stanzas
pub record AreRows (stanzas : Stanzas) (ns : List (List ℕ)) (rows : List Row) : Type 0 where
  pub named : ns ≡ names stanzas
  pub kept : map row_read rows ≡ rows_of stanzas
