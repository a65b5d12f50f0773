-- Stanzas (Debian Policy 5.3 and 7): what a paragraph of a packages file or of a status file says of a package, or its first fault.
use Rattle.std.specs.Prelude.{ℕ, Bool, true, false, cond, List, [], Option, Some, None, Result, Ok, Err, codes, is_some, unwrap_or}
use Rattle.std.specs.Option.{option_or}
use Rattle.control_file.specs.Text.{FieldText, ParagraphText}
use Rattle.deb_version.specs.Versions.{is_version}
use Rattle.dep_fields.specs.Tokens.{is_name}
use Rattle.dep_fields.specs.Provides.{is_relation, is_provides}
use Rattle.stanza.specs.Fields.{field_in, value_in, text_in}
use Rattle.stanza.specs.Statuses.{StatusText, status_of, is_same}
use Rattle.stanza.specs.declared.StanzaFault.{StanzaFault}
use Rattle.stanza.specs.declared.StanzaKind.{StanzaKind}
use Rattle.stanza.specs.declared.StanzaKind.TheVariants.{NoPackage, BadPackage, BadStatus, NoVersion, BadVersion, BadRelation}

-- The values of the relationship fields, empty where they are missing.
pub record RelationTexts : Type 0 where
  pub pre_depends : List ℕ
  pub depends : List ℕ
  pub recommends : List ℕ
  pub conflicts : List ℕ
  pub breaks : List ℕ
  pub provides : List ℕ

-- What a stanza says. The version is its text.
pub record StanzaText : Type 0 where
  pub name : List ℕ
  pub arch : Option (List ℕ)
  pub line : ℕ
  pub present : Bool
  pub hold : Bool
  pub essential : Bool
  pub version : Option (List ℕ)
  pub relations : RelationTexts

-- ---- faults: of a missing field at the paragraph's line, and of a faulty value at the field's line

abbrev pub fault_at : ℕ → StanzaKind → Option StanzaFault
fault_at line kind = Some (record { line = line; kind = kind })

-- the fault of a field that has to be there, and whose value has to pass a test
abbrev pub fault_of_needed : ℕ → StanzaKind → StanzaKind → (List ℕ → Bool) → Option FieldText → Option StanzaFault
fault_of_needed line missing faulty test None = fault_at line missing
fault_of_needed line missing faulty test (Some field) = cond (test field.value) None (fault_at field.line faulty)

-- the fault of a field that may be missing
abbrev pub fault_of_any : StanzaKind → (List ℕ → Bool) → Option FieldText → Option StanzaFault
fault_of_any faulty test None = None
fault_of_any faulty test (Some field) = cond (test field.value) None (fault_at field.line faulty)

abbrev pub package_fault : ParagraphText → Option StanzaFault
package_fault p = fault_of_needed p.line NoPackage BadPackage is_name (field_in p (codes "Package"))

abbrev pub is_status : List ℕ → Bool
is_status value = is_some (status_of value)

abbrev pub status_fault : ParagraphText → Option StanzaFault
status_fault p = fault_of_needed p.line BadStatus BadStatus is_status (field_in p (codes "Status"))

abbrev pub version_fault : ParagraphText → Option StanzaFault
version_fault p = fault_of_needed p.line NoVersion BadVersion is_version (field_in p (codes "Version"))

abbrev pub relation_fault_in : ParagraphText → (List ℕ → Bool) → List ℕ → Option StanzaFault
relation_fault_in p test name = fault_of_any BadRelation test (field_in p name)

-- the first faulty relationship field; Conflicts, Breaks and Provides have no alternatives (Debian Policy 7.1)
abbrev pub relation_fault : ParagraphText → Option StanzaFault
relation_fault p =
    option_or (relation_fault_in p (is_relation true) (codes "Pre-Depends"))
    (option_or (relation_fault_in p (is_relation true) (codes "Depends"))
    (option_or (relation_fault_in p (is_relation true) (codes "Recommends"))
    (option_or (relation_fault_in p (is_relation false) (codes "Conflicts"))
    (option_or (relation_fault_in p (is_relation false) (codes "Breaks")) (relation_fault_in p is_provides (codes "Provides"))))))

-- the first fault of the fields of a version that is there
abbrev pub content_fault : ParagraphText → Option StanzaFault
content_fault p = option_or (version_fault p) (relation_fault p)

-- ---- what is said

abbrev pub relations_in : ParagraphText → RelationTexts
relations_in p = record {
  pre_depends = text_in p (codes "Pre-Depends");
  depends = text_in p (codes "Depends");
  recommends = text_in p (codes "Recommends");
  conflicts = text_in p (codes "Conflicts");
  breaks = text_in p (codes "Breaks");
  provides = text_in p (codes "Provides");
}

abbrev pub no_relations : RelationTexts
no_relations = record { pre_depends = []; depends = []; recommends = []; conflicts = []; breaks = []; provides = [] }

abbrev pub stanza_with : ParagraphText → List ℕ → StatusText → Option (List ℕ) → RelationTexts → StanzaText
stanza_with p name status version relations = record {
  name = name;
  arch = value_in p (codes "Architecture");
  line = p.line;
  present = status.present;
  hold = status.hold;
  essential = is_same (text_in p (codes "Essential")) (codes "yes");
  version = version;
  relations = relations;
}

-- Of a package of which no version is there, neither the version nor the relationship fields are read.
abbrev pub stanza_text : ParagraphText → StatusText → StanzaText
stanza_text p status =
    let said : Option (List ℕ) → RelationTexts → StanzaText = stanza_with p (text_in p (codes "Package")) status in
    cond status.present (said (value_in p (codes "Version")) (relations_in p)) (said None no_relations)

-- a stanza, unless there is a fault
abbrev pub unless_fault : Option StanzaFault → StanzaText → Result StanzaText StanzaFault
unless_fault None stanza = Ok stanza
unless_fault (Some fault) stanza = Err fault

-- the stanza of a paragraph of a packages file
abbrev pub package_stanza : ParagraphText → Result StanzaText StanzaFault
package_stanza p = unless_fault (option_or (package_fault p) (content_fault p)) (stanza_text p (record { hold = false; present = true }))

-- the status of a paragraph of a status file; of one without a status nothing is there
abbrev pub status_in : ParagraphText → StatusText
status_in p = unwrap_or (status_of (text_in p (codes "Status"))) (record { hold = false; present = false })

-- the stanza of a paragraph of a status file
abbrev pub status_stanza : ParagraphText → Result StanzaText StanzaFault
status_stanza p =
    unless_fault (option_or (package_fault p) (option_or (status_fault p) (cond (status_in p).present (content_fault p) None)))
    (stanza_text p (status_in p))
