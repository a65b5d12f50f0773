-- What is read of a status file and a packages file: their stanzas, and their first fault (Debian Policy 5.1 and 5.3).
use Rattle.std.specs.Prelude.{ℕ, Bool, true, ◌||◌, List, [], ◌∷◌, ◌++◌, Option, Some, None, Result, codes, option_map}
use Rattle.std.specs.List.{filter, filter_map}
use Rattle.std.specs.Option.{option_or}
use Rattle.std.specs.Result.{result_ok, result_err}
use Rattle.control_file.specs.Text.{ParagraphText, Reading, reading}
use Rattle.stanza.specs.Stanzas.{StanzaText, package_stanza, status_stanza}
use Rattle.ascii.specs.Texts.{is_same}
use Rattle.stanza.specs.declared.StanzaFault.{StanzaFault}
use Rattle.universe_model.specs.Faults.{control_end, stanza_end}
use Rattle.universe_model.specs.declared.FileKind.{FileKind}
use Rattle.universe_model.specs.declared.FileKind.TheVariants.{Status, Packages}
use Rattle.universe_model.specs.declared.BuildEnd.{BuildEnd}

-- the two texts, and the native architecture
pub record Texts : Type 0 where
  pub status : List ℕ
  pub packages : List ℕ
  pub native : List ℕ

-- a stanza beside the text of its paragraph
pub record ReadStanza : Type 0 where
  pub paragraph : List ℕ
  pub stanza : StanzaText

-- the stanzas of the two texts
pub record Stanzas : Type 0 where
  pub status : List ReadStanza
  pub packages : List ReadStanza

-- all stanzas in order of reading, the status file's first
abbrev pub all_of : Stanzas → List ReadStanza
all_of stanzas = stanzas.status ++ stanzas.packages

-- how a paragraph of a text is read
abbrev pub Reader : Type 0
Reader = ParagraphText → Result StanzaText StanzaFault

abbrev pub beside : ParagraphText → StanzaText → ReadStanza
beside p stanza = record { paragraph = p.text; stanza = stanza }

-- the stanzas of paragraphs
abbrev pub stanzas_in : Reader → List ParagraphText → List ReadStanza
stanzas_in read paragraphs = filter_map (λ p. option_map (beside p) (result_ok (read p))) paragraphs

-- A stanza counts if its architecture is the native one or `all`, or is missing (Debian Policy 5.6.8).
abbrev pub is_counted_arch : List ℕ → Option (List ℕ) → Bool
is_counted_arch native None = true
is_counted_arch native (Some arch) = is_same arch native || is_same arch (codes "all")

abbrev pub is_counted : List ℕ → ReadStanza → Bool
is_counted native read = is_counted_arch native read.stanza.arch

-- the stanzas that count
abbrev pub counted : List ℕ → Stanzas → Stanzas
counted native stanzas = record {
  status = filter (is_counted native) stanzas.status;
  packages = filter (is_counted native) stanzas.packages;
}

-- the stanzas of both texts that count
abbrev pub stanzas_of : Texts → Stanzas
stanzas_of texts = counted texts.native (record {
  status = stanzas_in status_stanza (reading texts.status).paragraphs;
  packages = stanzas_in package_stanza (reading texts.packages).paragraphs;
})

-- the fault of the first paragraph that is no stanza; those that do not count are checked too
abbrev pub first_stanza_fault : Reader → List ParagraphText → Option StanzaFault
first_stanza_fault read [] = None
first_stanza_fault read (p ∷ ps) = option_or (result_err (read p)) (first_stanza_fault read ps)

-- The first fault of a text. Its paragraphs end before the one with the first faulty line.
abbrev pub text_fault : FileKind → Reader → Reading → Option BuildEnd
text_fault file read text =
    option_or (option_map (stanza_end file) (first_stanza_fault read text.paragraphs)) (option_map (control_end file) text.fault)

-- the first fault of both texts, the status file's before the other's
abbrev pub first_fault : Texts → Option BuildEnd
first_fault texts =
    option_or (text_fault Status status_stanza (reading texts.status)) (text_fault Packages package_stanza (reading texts.packages))
