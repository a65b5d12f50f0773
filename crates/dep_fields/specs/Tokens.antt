-- The tokens of relationship fields (Debian Policy 7.1). Texts are lists of bytes. A reader gives the token at
-- the front of a text and what stands behind it, and nothing where no such token stands there.
use Rattle.std.specs.Prelude.{ℕ, Bool, not, ◌&&◌, ◌||◌, ◌==◌, List, [], ◌∷◌, take_while, Option, Some, None, option_map, if◌then◌else◌}
use Rattle.std.specs.List.{list_all}
use Rattle.std.specs.Char.{is_ascii_digit, is_ascii_lowercase, is_ascii_alphanumeric}
pub use Rattle.ascii.specs.Texts.{begins, begins as begins_with, behind}
use Rattle.deb_version.specs.Versions.{is_version}
use Rattle.dep_fields.specs.declared.Op.{Op}
use Rattle.dep_fields.specs.declared.Op.TheVariants as op

-- spaces, tabs, newlines and carriage returns, which are free between tokens
abbrev pub is_blank : ℕ → Bool
is_blank byte = byte == 32 || (byte == 9 || (byte == 10 || byte == 13))

abbrev pub is_name_byte : ℕ → Bool
is_name_byte byte = is_ascii_alphanumeric byte || (byte == 43 || (byte == 45 || (byte == 46 || byte == 95)))

-- a package name (5.6.1; names that Policy does not allow are read too): one byte or more, each a letter, a digit or one of '+', '-', '.', '_', and the first a letter or a digit
abbrev pub is_name : List ℕ → Bool
is_name text = begins is_ascii_alphanumeric text && list_all is_name_byte text

abbrev pub is_arch_byte : ℕ → Bool
is_arch_byte byte = is_ascii_lowercase byte || (is_ascii_digit byte || byte == 45)

-- an architecture: one byte or more, each of 'a' to 'z', a digit or '-'
abbrev pub is_arch : List ℕ → Bool
is_arch text = begins is_arch_byte text && list_all is_arch_byte text

-- a version ends before a blank and before ')'
abbrev pub is_in_version : ℕ → Bool
is_in_version byte = not (is_blank byte || byte == 41)

-- a token and what stands behind it
abbrev pub Read : Type 0 → Type 0
Read A = Option (A × List ℕ)

-- the longest front whose bytes pass, if it is such a token
abbrev pub run_at : (ℕ → Bool) → (List ℕ → Bool) → List ℕ → Read (List ℕ)
run_at test is_token text = if is_token (take_while test text) then Some (take_while test text, behind test text) else None

unfoldable pub name_at : List ℕ → Read (List ℕ)
name_at text = run_at is_name_byte (begins is_ascii_alphanumeric) text

unfoldable pub version_at : List ℕ → Read (List ℕ)
version_at text = run_at is_in_version is_version text

abbrev pub some_token : List ℕ × List ℕ → Option (List ℕ) × List ℕ
some_token read = (Some read.0, read.1)

-- ':' and an architecture, or no architecture
unfoldable pub arch_at : List ℕ → Read (Option (List ℕ))
arch_at [] = Some (None, [])
arch_at (byte ∷ text) = if byte == 58 then option_map some_token (run_at is_arch_byte (begins is_arch_byte) text) else Some (None, byte ∷ text)

-- behind '<', which alone is "at most"
abbrev pub less_at : List ℕ → Op × List ℕ
less_at [] = (op.AtMost, [])
less_at (byte ∷ text) = if byte == 60 then (op.Less, text) else (if byte == 61 then (op.AtMost, text) else (op.AtMost, byte ∷ text))

-- behind '>', which alone is "at least"
abbrev pub more_at : List ℕ → Op × List ℕ
more_at [] = (op.AtLeast, [])
more_at (byte ∷ text) = if byte == 62 then (op.More, text) else (if byte == 61 then (op.AtLeast, text) else (op.AtLeast, byte ∷ text))

-- "<<", "<=", "=", ">=", ">>", "<" or ">"
unfoldable pub op_at : List ℕ → Read Op
op_at [] = None
op_at (byte ∷ text) =
    if byte == 60 then Some (less_at text)
    else (if byte == 61 then Some (op.Equal, text)
    else (if byte == 62 then Some (more_at text)
    else None))

-- what stands behind ')'
unfoldable pub close_at : List ℕ → Option (List ℕ)
close_at [] = None
close_at (byte ∷ text) = if byte == 41 then Some text else None
