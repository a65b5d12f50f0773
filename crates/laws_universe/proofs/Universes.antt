-- The universe of two texts is sound.
use Rattle.std.proofs.Common.{◌≡◌, ℕ, ◌<◌, true, List, length, map, refl, arith, All}
use Rattle.std.proofs.lemmas.List.Elements.{All-map, All-weaker}
use Rattle.dep_fields.specs.Tokens.{is_name}
use Rattle.ascii.specs.Texts.{is_same}
use Rattle.universe_model.specs.Dependencies.{Setting}
use Rattle.universe_model.specs.Limits.{AreWithin, most_file_bytes, most_groups}
use Rattle.universe_model.specs.Reading.{Stanzas, Texts, all_of, stanzas_of}
use Rattle.universe_model.specs.Universes.{installed_in, universe_of, universe}
use Rattle.universe_model.specs.Versions.{Version, names, name_of, versions}
use Rattle.lists.proofs.Distinct.{All-distinct, AllPairs-distinct}
use Rattle.laws_universe.proofs.Releases.{IsVersionWell, versions-well}
use Rattle.laws_universe.proofs.Requirements.{requirements-placed, requirements-apart}
use Rattle.laws_universe.proofs.Sound.{IsSound}
use Rattle.laws_universe.proofs.Stanzas.{IsReadWell, stanzas_of-well}
use Rattle.laws_universe.proofs.Versions.{versions-apart, versions-known}

names-well : (n : ℕ) (stanzas : Stanzas) → All (IsReadWell n) (all_of stanzas) → All (λ name. is_name name ≡ true) (names stanzas)
names-well n stanzas well =
    let P : List ℕ → Type 0 = λ name. is_name name ≡ true in
    All-distinct is_same P (map name_of (all_of stanzas))
    (All-map P name_of (all_of stanzas) (All-weaker (IsReadWell n) (λ read. is_name (name_of read) ≡ true) (λ read h. h.name) (all_of stanzas) well))

-- where each stanza is read well from a text of so few bytes that all groups of Recommends have places
universe_of-sound : (native : List ℕ) (stanzas : Stanzas) (n : ℕ) → n < most_groups → All (IsReadWell n) (all_of stanzas) → IsSound (universe_of native stanzas)
universe_of-sound native stanzas n small well =
    let vs : List Version = versions stanzas in
    let count : ℕ = length (names stanzas) in
    let setting : Setting = record { native = native; versions = vs; installed = installed_in stanzas (names stanzas) vs } in
    let each : All (IsVersionWell count n) vs = versions-well n stanzas well in
    record {
      names = names-well n stanzas well;
      names_apart = AllPairs-distinct is_same (map name_of (all_of stanzas));
      versions = versions-known n count vs each;
      versions_apart = versions-apart stanzas;
      soft = requirements-placed (universe_of native stanzas) setting count n refl small each;
      soft_apart = requirements-apart setting;
    }

pub universe-sound : (texts : Texts) → AreWithin texts → IsSound (universe texts)
universe-sound texts within =
    universe_of-sound texts.native (stanzas_of texts) most_file_bytes (omega arith) (stanzas_of-well texts most_file_bytes within.status within.packages)
