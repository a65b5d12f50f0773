-- What holds of each stanza of a text: its name and its version are such, and its values are no longer than the text.
use Rattle.std.proofs.Common.{◌≡◌, ℕ, ◌-◌, ◌≤◌, Bool, true, false, cond, List, [], ◌∷◌, length, drop, ap, sym, refl, ◌∙◌, subst, arith, length-take, length-drop, All, Some, None, Option, Result, Ok, Err, codes, option_map, filter, unwrap_or}
use Rattle.std.specs.List.{cons_option}
use Rattle.std.specs.Option.{option_or}
use Rattle.std.specs.Result.{result_ok}
use Rattle.std.specs.Str.{str_eq_ignore_ascii_case}
use Rattle.std.proofs.lemmas.List.Elements.{All-nil, All-cons, All-head, All-tail, All-append, All-filter, All-weaker}
use Rattle.std.proofs.lemmas.Bool.{cond-true}
use Rattle.control_file.specs.Laws.{IsPart, FieldsStandIn, ParagraphsStandIn}
use Rattle.control_file.specs.Text.{FieldText, ParagraphText, field_named, reading}
use Rattle.control_file.proofs.Parts.{reading_stands}
use Rattle.deb_version.specs.Versions.{is_version}
use Rattle.dep_fields.specs.Tokens.{is_name}
use Rattle.stanza.specs.Fields.{field_in, value_in, value_or_nothing, text_in}
use Rattle.stanza.specs.Statuses.{StatusText}
use Rattle.stanza.specs.Stanzas.{StanzaText, package_fault, status_fault, version_fault, relation_fault, content_fault, fault_of_needed, fault_at, stanza_text, unless_fault, package_stanza, status_in, status_stanza}
use Rattle.stanza.specs.declared.StanzaFault.{StanzaFault}
use Rattle.stanza.specs.declared.StanzaKind.{StanzaKind}
use Rattle.stanza.specs.declared.StanzaKind.TheVariants.{NoPackage, BadPackage, NoVersion, BadVersion}
use Rattle.universe_model.specs.Reading.{ReadStanza, Reader, Texts, beside, stanzas_in, is_counted, stanzas_of, all_of}
use Rattle.universe_model.specs.Versions.{version_text}
use Rattle.lists.proofs.Options.{option_or-none}

-- ---- lengths

pub part-short : (whole part : List ℕ) → IsPart whole part → length part ≤ length whole
part-short whole part p =
    omega (arith, ap length p.bytes, length-take (p.to - p.from) (drop p.from whole), length-drop p.from whole)

-- the value of a field of this name is no longer than n
abbrev HasShort : ℕ → List ℕ → List FieldText → Type 0
HasShort n name fields = length (value_or_nothing (option_map (λ (f : FieldText). f.value) (field_named name fields))) ≤ n

named-short : (text name : List ℕ) (fs : List FieldText) → FieldsStandIn text fs → HasShort (length text) name fs
named-short text name [] h = omega arith
named-short text name (f ∷ fs) h = by (str_eq_ignore_ascii_case f.name name) (part-short text f.value h.1) (named-short text name fs h.2)
  where
    by : (b : Bool) → length f.value ≤ length text → HasShort (length text) name fs
        → length (value_or_nothing (option_map (λ (f : FieldText). f.value) (cond b (Some f) (field_named name fs)))) ≤ length text
    by true here more = here
    by false here more = more

-- the values of a paragraph's fields are no longer than n
abbrev IsShort : ℕ → ParagraphText → Type 0
IsShort n p = (name : List ℕ) → length (text_in p name) ≤ n

all-short : (text : List ℕ) (ps : List ParagraphText) → ParagraphsStandIn text ps → All (IsShort (length text)) ps
all-short text [] h = All-nil (IsShort (length text))
all-short text (p ∷ ps) h =
    All-cons (IsShort (length text)) p ps
    (λ name. let inner = named-short p.text name p.fields h.1 in omega (arith, inner, part-short text p.text h.0))
    (all-short text ps h.2)

-- ---- tests

-- what a paragraph without the fault of a needed field has
pub needed-passes : (line : ℕ) (missing faulty : StanzaKind) (test : List ℕ → Bool) (field : Option FieldText) → fault_of_needed line missing faulty test field ≡ None
    → test (value_or_nothing (option_map (λ (f : FieldText). f.value) field)) ≡ true
needed-passes line missing faulty test None h = absurd (cc)
needed-passes line missing faulty test (Some field) h = by (test field.value) h
  where
    by : (b : Bool) → cond b None (fault_at field.line faulty) ≡ None → b ≡ true
    by true h = refl
    by false h = absurd (cc)

unwrap-value : (value : Option (List ℕ)) → unwrap_or value [] ≡ value_or_nothing value
unwrap-value None = refl
unwrap-value (Some value) = refl

-- What holds of a stanza of a text of n bytes.
pub record IsReadWell (n : ℕ) (read : ReadStanza) : Type 0 where
  pub name : is_name read.stanza.name ≡ true
  pub version : read.stanza.present ≡ true → is_version (version_text read) ≡ true
  pub recommends : length read.stanza.relations.recommends ≤ n

version-there : (p : ParagraphText) → version_fault p ≡ None → is_version (unwrap_or (value_in p (codes "Version")) []) ≡ true
version-there p h = ap is_version (unwrap-value (value_in p (codes "Version"))) ∙ needed-passes p.line NoVersion BadVersion is_version (field_in p (codes "Version")) h

-- a stanza whose paragraph has no fault
stanza-well : (n : ℕ) (p : ParagraphText) (status : StatusText) → IsShort n p → package_fault p ≡ None → (status.present ≡ true → content_fault p ≡ None)
    → IsReadWell n (beside p (stanza_text p status))
stanza-well n p status short named content = by status.present content
  where
    by : (b : Bool) → (b ≡ true → content_fault p ≡ None) → IsReadWell n (beside p (stanza_text p (record { hold = status.hold; present = b })))
    by true content = record {
      name = needed-passes p.line NoPackage BadPackage is_name (field_in p (codes "Package")) named;
      version = λ _. version-there p (option_or-none (version_fault p) (relation_fault p) (content refl)).0;
      recommends = short (codes "Recommends");
    }
    by false content = record {
      name = needed-passes p.line NoPackage BadPackage is_name (field_in p (codes "Package")) named;
      version = λ h. absurd (cc);
      recommends = omega arith;
    }

-- ---- readers

made : (fault : Option StanzaFault) (stanza read : StanzaText) → unless_fault fault stanza ≡ Ok read → (fault ≡ None) × (stanza ≡ read)
made None stanza read h = (refl, cc)
made (Some fault) stanza read h = absurd (cc)

abbrev ReadsWell : ℕ → Reader → Type 0
ReadsWell n read = (p : ParagraphText) (stanza : StanzaText) → IsShort n p → read p ≡ Ok stanza → IsReadWell n (beside p stanza)

package_stanza-well : (n : ℕ) → ReadsWell n package_stanza
package_stanza-well n p stanza short h =
    let m = made (option_or (package_fault p) (content_fault p)) (stanza_text p (record { hold = false; present = true })) stanza h in
    let none = option_or-none (package_fault p) (content_fault p) m.0 in
    subst (λ s. IsReadWell n (beside p s)) m.1 (stanza-well n p (record { hold = false; present = true }) short none.0 (λ _. none.1))

status_stanza-well : (n : ℕ) → ReadsWell n status_stanza
status_stanza-well n p stanza short h =
    let inner : Option StanzaFault = cond (status_in p).present (content_fault p) None in
    let m = made (option_or (package_fault p) (option_or (status_fault p) inner)) (stanza_text p (status_in p)) stanza h in
    let none = option_or-none (package_fault p) (option_or (status_fault p) inner) m.0 in
    let content = (option_or-none (status_fault p) inner none.1).1 in
    subst (λ s. IsReadWell n (beside p s)) m.1
    (stanza-well n p (status_in p) short none.0 (λ e. sym (cond-true (status_in p).present (content_fault p) None e) ∙ content))

stanzas-well : (n : ℕ) (read : Reader) → ReadsWell n read → (ps : List ParagraphText) → All (IsShort n) ps → All (IsReadWell n) (stanzas_in read ps)
stanzas-well n read well [] short = All-nil (IsReadWell n)
stanzas-well n read well (p ∷ ps) short = by (read p) refl (stanzas-well n read well ps (All-tail (IsShort n) p ps short))
  where
    by : (r : Result StanzaText StanzaFault) → read p ≡ r → All (IsReadWell n) (stanzas_in read ps) → All (IsReadWell n) (cons_option (option_map (beside p) (result_ok r)) (stanzas_in read ps))
    by (Ok stanza) e more = All-cons (IsReadWell n) (beside p stanza) (stanzas_in read ps) (well p stanza (All-head (IsShort n) p ps short) e) more
    by (Err fault) e more = more

text-well : (read : Reader) → ((n : ℕ) → ReadsWell n read) → (text : List ℕ) (n : ℕ) → length text ≤ n → All (IsReadWell n) (stanzas_in read (reading text).paragraphs)
text-well read well text n l =
    stanzas-well n read (well n) (reading text).paragraphs
    (All-weaker (IsShort (length text)) (IsShort n) (λ p short name. omega (arith, short name)) (reading text).paragraphs
    (all-short text (reading text).paragraphs (reading_stands text)))

-- the stanzas of two texts of which neither has more than n bytes
pub stanzas_of-well : (texts : Texts) (n : ℕ) → length texts.status ≤ n → length texts.packages ≤ n → All (IsReadWell n) (all_of (stanzas_of texts))
stanzas_of-well texts n status packages =
    let front : List ReadStanza = stanzas_in status_stanza (reading texts.status).paragraphs in
    let back : List ReadStanza = stanzas_in package_stanza (reading texts.packages).paragraphs in
    All-append (IsReadWell n) (filter (is_counted texts.native) front) (filter (is_counted texts.native) back)
    (All-filter (is_counted texts.native) (IsReadWell n) front (text-well status_stanza status_stanza-well texts.status n status))
    (All-filter (is_counted texts.native) (IsReadWell n) back (text-well package_stanza package_stanza-well texts.packages n packages))
