-- What holds of each version of stanzas: its package, and what is read of it.
use Rattle.std.proofs.Common.{◌≡◌, ℕ, ◌+◌, ◌<◌, ◌≤◌, true, List, length, get_or, map, refl, arith, All, Some, None, Option, filter}
use Rattle.std.proofs.lemmas.Bool.{and_parts}
use Rattle.std.proofs.lemmas.List.Elements.{All-cons, All-map, All-filter, All-weaker, filter_passes}
use Rattle.lists.specs.Distinct.{distinct}
use Rattle.deb_version.specs.Versions.{is_version, parts}
use Rattle.universe_model.specs.Reading.{ReadStanza, Stanzas, all_of}
use Rattle.universe_model.specs.Versions.{Release, Version, names, versions, release_of, gives_version, is_named, is_same_version, releases_of, version_of, package_versions}
use Rattle.laws_universe.proofs.Blocks.{All-blocks}
use Rattle.lists.proofs.Distinct.{All-distinct}
use Rattle.laws_universe.proofs.Groups.{groups_of-few}
use Rattle.laws_universe.proofs.Stanzas.{IsReadWell}

-- What holds of a release that was read from a text of n bytes.
pub record IsReleaseWell (n : ℕ) (release : Release) : Type 0 where
  pub version : is_version release.text ≡ true
  pub same : release.parts ≡ parts release.text
  pub few : length release.recommends ≤ n + 1

abbrev pub IsOptionWell : ℕ → Option Release → Type 0
IsOptionWell n None = Unit {0}
IsOptionWell n (Some release) = IsReleaseWell n release

-- What holds of a version of one of `count` packages.
pub record IsVersionWell (count n : ℕ) (v : Version) : Type 0 where
  pub owner : v.package_number < count
  pub release : IsOptionWell n v.release

release-well : (n : ℕ) (read : ReadStanza) → IsReadWell n read → read.stanza.present ≡ true → IsReleaseWell n (release_of read)
release-well n read well there = record {
  version = well.version there;
  same = refl;
  few = omega (arith, groups_of-few read.stanza.relations.recommends, well.recommends);
}

releases-well : (n : ℕ) (stanzas : List ReadStanza) (name : List ℕ) → All (IsReadWell n) stanzas → All (IsReleaseWell n) (releases_of stanzas name)
releases-well n stanzas name well =
    let given : List ReadStanza = filter (gives_version name) stanzas in
    let all : All (λ read. IsReleaseWell n (release_of read)) given = λ k d l.
    release-well n (get_or given k d) (All-filter (gives_version name) (IsReadWell n) stanzas well k d l)
    (and_parts (get_or given k d).stanza.present (is_named name (get_or given k d)) (filter_passes (gives_version name) stanzas k d l)).0
    in All-map (IsReleaseWell n) release_of (distinct is_same_version given) (All-distinct is_same_version (λ read. IsReleaseWell n (release_of read)) given all)

pub versions-well : (n : ℕ) (stanzas : Stanzas) → All (IsReadWell n) (all_of stanzas) → All (IsVersionWell (length (names stanzas)) n) (versions stanzas)
versions-well n stanzas well =
    let count : ℕ = length (names stanzas) in
    let P : Version → Type 0 = IsVersionWell count n in
    All-blocks (package_versions (all_of stanzas)) P 0 (names stanzas)
    (λ k d l.
    let name : List ℕ = get_or (names stanzas) k d in
    let inside : 0 + k < count = omega arith in
    let make : Release → Version = λ release. version_of (0 + k) name (Some release) in
    let releases : List Release = releases_of (all_of stanzas) name in
    All-cons P (version_of (0 + k) name None) (map make releases) (record { owner = inside; release = tt })
    (All-map P make releases (All-weaker (IsReleaseWell n) (λ release. P (make release)) (λ release h. record { owner = inside; release = h }) releases (releases-well n (all_of stanzas) name well))))
