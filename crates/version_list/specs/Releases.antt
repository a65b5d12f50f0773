-- The versions that stanzas give, and their order.
use Rattle.std.specs.Prelude.{◌≡◌, Bool, List, drop}
use Rattle.std.specs.List.{list_any}
use Rattle.std.specs.Ordering.{is_eq, on}
use Rattle.std.specs.declared.cmp.Ordering.{Ordering}
use Rattle.std.specs.BTreeSet.{BTreeSet, contains}
use Rattle.deb_version.specs.Versions.{Parts, parts}
use Rattle.deb_version.specs.VersionOrder.{version_order}
use Rattle.universe_model.specs.Reading.{ReadStanza}
use Rattle.universe_model.specs.Versions.{version_text}
use Rattle.universe_parts.specs.Listed.{stanza_read}
use Rattle.version_list.specs.declared.given.Release.{Release}

abbrev pub release_stanza : Release → ReadStanza
release_stanza release = stanza_read release.read.now

abbrev pub release_parts : Release → Parts
release_parts release = parts (version_text (release_stanza release))

abbrev pub release_order : Release → Release → Ordering
release_order = on release_parts version_order

-- whether one of the versions is equal to this one
abbrev pub has_equal : List Release → Release → Bool
has_equal releases release = list_any (λ other. is_eq (release_order release other)) releases

-- A set has all versions but the first.
pub record AreOthers (releases : List Release) (others : BTreeSet Release) : Type 0 where
  pub each : (release : Release) → contains release_order others release ≡ has_equal (drop 1 releases) release
