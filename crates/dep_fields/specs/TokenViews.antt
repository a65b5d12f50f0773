-- What the readers of tokens return, with the texts behind the references.
use Rattle.std.specs.Prelude.{ℕ, Bool, List, Option, option_copied}
use Rattle.std.specs.Borrow.{Bor}
use Rattle.deb_version.specs.declared.Version.{Version}
use Rattle.dep_fields.specs.declared.Op.{Op}
use Rattle.dep_fields.specs.declared.tokens.Class.{Class}
use Rattle.dep_fields.specs.declared.tokens.Class.TheVariants as class
use Rattle.dep_fields.specs.Tokens.{is_blank, is_name_byte, is_arch_byte, is_in_version}

-- the bytes of a class
abbrev pub has : Class → ℕ → Bool
has class.Blank = is_blank
has class.Name = is_name_byte
has class.Arch = is_arch_byte
has class.Version = is_in_version

abbrev pub name_view : Bor (List ℕ) × Bor (List ℕ) → List ℕ × List ℕ
name_view read = (read.0.now, read.1.now)

abbrev pub arch_view : Option (Bor (List ℕ)) × Bor (List ℕ) → Option (List ℕ) × List ℕ
arch_view read = (option_copied read.0, read.1.now)

abbrev pub version_view : Version × Bor (List ℕ) → List ℕ × List ℕ
version_view read = (read.0.text.now, read.1.now)

abbrev pub op_view : Op × Bor (List ℕ) → Op × List ℕ
op_view read = (read.0, read.1.now)
