-- Versions of Debian packages: [epoch:]upstream[-revision] (Debian Policy 5.6.12). Texts and parts are lists of bytes.
use Rattle.std.specs.Prelude.{ℕ, ◌≤◌, Bool, cond, not, ◌&&◌, ◌||◌, List, [], ◌++◌, length, take, ◌==◌, Option, Some, None, IsTrue}
use Rattle.std.specs.List.{list_any, before_first, after_first, before_last, after_last}
use Rattle.std.specs.Char.{is_ascii_digit, is_ascii_alphanumeric}
pub use Rattle.ascii.specs.Bytes.{is_colon, is_hyphen}
pub use Rattle.ascii.specs.Texts.{is_some_of}

-- the three parts; a missing epoch or revision has no bytes
pub record Parts : Type 0 where
  pub epoch : List ℕ
  pub upstream : List ℕ
  pub revision : List ℕ

-- whether a text has an epoch, and what stands before its first colon
abbrev pub has_epoch : List ℕ → Bool
has_epoch text = list_any is_colon text

abbrev pub epoch_of : List ℕ → List ℕ
epoch_of text = cond (has_epoch text) (before_first is_colon text) []

-- what stands behind the epoch and its colon
abbrev pub rest_of : List ℕ → List ℕ
rest_of text = cond (has_epoch text) (after_first is_colon text) text

-- whether there is a revision, which stands behind the last hyphen of the rest
abbrev pub has_revision : List ℕ → Bool
has_revision text = list_any is_hyphen (rest_of text)

abbrev pub upstream_of : List ℕ → List ℕ
upstream_of text = cond (has_revision text) (before_last is_hyphen (rest_of text)) (rest_of text)

abbrev pub revision_of : List ℕ → List ℕ
revision_of text = cond (has_revision text) (after_last is_hyphen (rest_of text)) []

-- the parts of any text
abbrev pub parts : List ℕ → Parts
parts text = record { epoch = epoch_of text; upstream = upstream_of text; revision = revision_of text }

-- the bytes of a revision: letters, digits, '+', '.' and '~'
abbrev pub is_revision_byte : ℕ → Bool
is_revision_byte byte = is_ascii_alphanumeric byte || (byte == 43 || (byte == 46 || byte == 126))

-- those of an upstream version: the same and '-', and ':' too where an epoch stands
abbrev pub is_upstream_byte : Bool → ℕ → Bool
is_upstream_byte epoch byte = is_revision_byte byte || (is_hyphen byte || (epoch && is_colon byte))

-- whether a text is a version
abbrev pub is_version : List ℕ → Bool
is_version text =
    (not (has_epoch text) || is_some_of is_ascii_digit (epoch_of text))
    && (is_some_of (is_upstream_byte (has_epoch text)) (upstream_of text)
    && (not (has_revision text) || is_some_of is_revision_byte (revision_of text)))

-- the parts of a version, and nothing of another text
abbrev pub read : List ℕ → Option Parts
read text = cond (is_version text) (Some (parts text)) None

-- some version begins with these bytes
abbrev pub BeginsVersion : List ℕ → Type 0
BeginsVersion bytes = (more : List ℕ) × IsTrue (is_version (bytes ++ more))

-- `at` bytes of the text begin a version, and no more than `at` do
pub record IsLongestBeginning (text : List ℕ) (at : ℕ) : Type 0 where
  pub within : at ≤ length text
  pub begins : BeginsVersion (take at text)
  pub longest : (n : ℕ) → n ≤ length text → BeginsVersion (take n text) → n ≤ at
