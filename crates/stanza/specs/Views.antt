-- What a stanza of the program says.
use Rattle.std.specs.Prelude.{◌≡◌, ℕ, Bool, List, Option, None, Some, Result, Ok, Err, option_map}
use Rattle.std.specs.Option.{option_copied}
use Rattle.control_file.specs.Text.{FieldText}
use Rattle.deb_version.specs.declared.Version.{Version}
use Rattle.dep_fields.specs.Checked.{alternatives_text, single_text, provides_text}
use Rattle.stanza.specs.Fields.{value_or_nothing}
use Rattle.stanza.specs.Stanzas.{RelationTexts, StanzaText, fault_of_any}
use Rattle.stanza.specs.Statuses.{StatusText}
use Rattle.stanza.specs.declared.statuses.Status.{Status}
use Rattle.stanza.specs.declared.relations.Relations.{Relations}
use Rattle.stanza.specs.declared.Stanza.{Stanza}
use Rattle.stanza.specs.declared.StanzaFault.{StanzaFault}
use Rattle.stanza.specs.declared.StanzaKind.TheVariants.{BadRelation}

abbrev pub relation_texts : Relations → RelationTexts
relation_texts relations = record {
  pre_depends = alternatives_text relations.pre_depends;
  depends = alternatives_text relations.depends;
  recommends = alternatives_text relations.recommends;
  conflicts = single_text relations.conflicts;
  breaks = single_text relations.breaks;
  provides = provides_text relations.provides;
}

abbrev pub version_text : Option Version → Option (List ℕ)
version_text version = option_map (λ (v : Version). v.text.now) version

abbrev pub meaning : Stanza → StanzaText
meaning s = record {
  name = s.name.now;
  arch = option_copied s.arch;
  line = s.line;
  present = s.present;
  hold = s.hold;
  essential = s.essential;
  version = version_text s.version;
  relations = relation_texts s.relations;
}

-- the stanza that was read, or the fault
abbrev pub outcome : Result Stanza StanzaFault → Result StanzaText StanzaFault
outcome (Ok stanza) = Ok (meaning stanza)
outcome (Err fault) = Err fault

-- what a status of the program says
abbrev pub status_text : Status → StatusText
status_text status = record { hold = status.hold; present = status.present }

-- what the program reads of a relationship field: its text, which is empty where the field is missing, or its fault
abbrev pub ReadsRelation : {A : Type 0} → (A → List ℕ) → (List ℕ → Bool) → Option FieldText → Result A StanzaFault → Type 0
ReadsRelation text test field (Ok value) =
    (fault_of_any BadRelation test field ≡ None) × (text value ≡ value_or_nothing (option_map (λ (f : FieldText). f.value) field))
ReadsRelation text test field (Err fault) = fault_of_any BadRelation test field ≡ Some fault
