-- Stanzas for the worked examples.
use Rattle.std.specs.Prelude.{ℕ, true, false, List, [], map, Some, codes}
use Rattle.stanza.specs.Stanzas.{StanzaText, no_relations}
use Rattle.universe_model.specs.Reading.{ReadStanza, Stanzas}

abbrev pub amd64 : List ℕ
amd64 = codes "amd64"

-- of a name, a version and the architecture `all`, with no other field, and installed if it stands in a status file
abbrev pub sample : List ℕ → List ℕ → StanzaText
sample name version = record {
  name = name;
  arch = Some (codes "all");
  line = 1;
  present = true;
  hold = false;
  essential = false;
  version = Some version;
  relations = no_relations;
}

abbrev pub alone : StanzaText → ReadStanza
alone stanza = record { paragraph = []; stanza = stanza }

-- the stanzas of a status file and of a packages file
abbrev pub stanzas : List StanzaText → List StanzaText → Stanzas
stanzas status packages = record { status = map alone status; packages = map alone packages }
