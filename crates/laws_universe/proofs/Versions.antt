-- The names and the versions of stanzas are apart.
use Rattle.std.proofs.Common.{◌≡◌, ℕ, ◌<◌, false, List, get_or, map, refl, sym, ◌∙◌, arith, All, AllPairs, Some, None, Option, filter, option_map}
use Rattle.std.proofs.lemmas.List.Elements.{All-cons, All-map}
use Rattle.std.proofs.lemmas.List.Kept.{AllPairs-cons}
use Rattle.lists.specs.Distinct.{distinct}
use Rattle.deb_version.specs.Versions.{parts}
use Rattle.universe_model.specs.Reading.{ReadStanza, Stanzas, all_of}
use Rattle.universe_model.specs.Universes.{known}
use Rattle.universe_model.specs.Versions.{Release, Version, names, versions, is_equal, release_of, gives_version, is_same_version, releases_of, version_of, package_versions}
use Rattle.laws_universe.proofs.Blocks.{AllPairs-map, AllPairs-blocks, AllAcross}
use Rattle.lists.proofs.Distinct.{AllPairs-distinct}
use Rattle.laws_universe.proofs.Releases.{IsOptionWell, IsVersionWell}
use Rattle.laws_universe.proofs.Sound.{IsTextWell, IsKnownWell, AreApart}

-- ---- one package

-- two versions as they are known
abbrev AreKnownApart : Version → Version → Type 0
AreKnownApart v w = AreApart (known v) (known w)

abbrev AreReleasesApart : Release → Release → Type 0
AreReleasesApart r s = is_equal (parts r.text) (parts s.text) ≡ false

releases-apart : (stanzas : List ReadStanza) (name : List ℕ) → AllPairs AreReleasesApart (releases_of stanzas name)
releases-apart stanzas name =
    let given : List ReadStanza = filter (gives_version name) stanzas in
    AllPairs-map AreReleasesApart release_of (distinct is_same_version given) (AllPairs-distinct is_same_version given)

package-apart : (stanzas : List ReadStanza) (n : ℕ) (name : List ℕ) → AllPairs AreKnownApart (package_versions stanzas n name)
package-apart stanzas n name =
    let make : Release → Version = λ release. version_of n name (Some release) in
    let releases : List Release = releases_of stanzas name in
    AllPairs-cons AreKnownApart (version_of n name None) (map make releases)
    (All-map (AreKnownApart (version_of n name None)) make releases (λ k d l same. tt))
    (AllPairs-map AreKnownApart make releases (λ i j d less l same. releases-apart stanzas name i j d less l))

package-numbered : (stanzas : List ReadStanza) (n : ℕ) (name : List ℕ) → All (λ (v : Version). v.package_number ≡ n) (package_versions stanzas n name)
package-numbered stanzas n name =
    let P : Version → Type 0 = λ v. v.package_number ≡ n in
    let make : Release → Version = λ release. version_of n name (Some release) in
    let releases : List Release = releases_of stanzas name in
    All-cons P (version_of n name None) (map make releases) refl (All-map P make releases (λ k d l. refl))

-- ---- all packages

packages-apart : (stanzas : List ReadStanza) (m n : ℕ) (x y : List ℕ) → m < n → AllAcross AreKnownApart (package_versions stanzas m x) (package_versions stanzas n y)
packages-apart stanzas m n x y less i d k j e l same =
    let left : (get_or (package_versions stanzas m x) i d).package_number ≡ m = package-numbered stanzas m x i d k in
    let right : (get_or (package_versions stanzas n y) j e).package_number ≡ n = package-numbered stanzas n y j e l in
    let both : m ≡ n = sym left ∙ same ∙ right in
    absurd (omega arith)

pub versions-apart : (stanzas : Stanzas) → AllPairs AreApart (map known (versions stanzas))
versions-apart stanzas =
    AllPairs-map AreApart known (versions stanzas)
    (AllPairs-blocks (package_versions (all_of stanzas)) AreKnownApart (package-apart (all_of stanzas)) (packages-apart (all_of stanzas)) 0 (names stanzas))

-- ---- each version

text-well : (n : ℕ) (release : Option Release) → IsOptionWell n release → IsTextWell (option_map (λ (release : Release). release.text) release)
text-well n None h = tt
text-well n (Some release) h = h.version

pub versions-known : (n count : ℕ) (vs : List Version) → All (IsVersionWell count n) vs → All (IsKnownWell count) (map known vs)
versions-known n count vs h =
    All-map (IsKnownWell count) known vs (λ k d l. record { owner = (h k d l).owner; text = text-well n (get_or vs k d).release (h k d l).release })
