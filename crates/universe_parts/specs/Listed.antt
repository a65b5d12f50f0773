-- What stanzas and versions of the program say.
use Rattle.std.specs.Prelude.{option_map}
use Rattle.std.specs.Borrow.{Bor}
use Rattle.stanza.specs.Views.{meaning}
use Rattle.universe_model.specs.Reading as reading
use Rattle.universe_model.specs.Versions.{Release, Version, release_of}
use Rattle.universe_parts.specs.declared.listed.ReadStanza.{ReadStanza}
use Rattle.universe_parts.specs.declared.listed.ListedVersion.{ListedVersion}

-- a stanza, and the text of its paragraph
abbrev pub stanza_read : ReadStanza → reading.ReadStanza
stanza_read read = record { paragraph = read.paragraph.now; stanza = meaning read.stanza }

abbrev pub release_read : Bor ReadStanza → Release
release_read read = release_of (stanza_read read.now)

-- a version, with what is read of it
abbrev pub version_listed : ListedVersion → Version
version_listed v = record { package_number = v.package; name = v.name.now; release = option_map release_read v.read }
