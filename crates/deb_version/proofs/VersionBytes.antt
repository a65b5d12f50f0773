-- The bytes that a version is made of.
use Rattle.std.proofs.Common.{◌≡◌, ℕ, Bool, true, false, ◌||◌, List, [], ◌∷◌, refl, ap, sym, ◌∙◌}
use Rattle.std.specs.List.{list_all}
use Rattle.std.specs.Char.{is_ascii_digit}
use Rattle.std.proofs.lemmas.Bool.{and_parts}
use Rattle.deb_version.specs.Versions.{is_colon, is_hyphen, has_epoch, is_some_of, is_revision_byte, is_upstream_byte, is_version}
use Rattle.lists.proofs.Tests.{list_all_weaker, list_all-join}
use Rattle.deb_version.proofs.Epochs.{split, is_rest, all_upstream, whole_plain, whole_epoch}

-- the bytes of any version
abbrev pub is_version_byte : ℕ → Bool
is_version_byte byte = is_upstream_byte true byte

from_digit : (x : ℕ) → is_ascii_digit x ≡ true → is_version_byte x ≡ true
from_digit x h = rw h refl

or_same : (a b c : Bool) → (a || (b || false)) ≡ true → (a || (b || c)) ≡ true
or_same true b c h = refl
or_same false true c h = refl
or_same false false c h = cc

from_plain : (x : ℕ) → is_upstream_byte false x ≡ true → is_version_byte x ≡ true
from_plain x h = or_same (is_revision_byte x) (is_hyphen x) (is_colon x) h

-- each byte of a version is one
pub version-bytes : (v : List ℕ) → is_version v ≡ true → list_all is_version_byte v ≡ true
version-bytes v h =
    elim (has_epoch v) as (λ b. has_epoch v ≡ b → list_all is_version_byte v ≡ true) [
      | true ↦ λ t.
          let at = split v t in
          let whole = sym (ap is_version at.2 ∙ whole_epoch at.0 at.1 at.3) ∙ h in
          let parts = and_parts (is_some_of is_ascii_digit at.0) (is_rest true at.1) whole in
          let digits = (and_parts _ (list_all is_ascii_digit at.0) parts.0).1 in
          let front = list_all_weaker is_ascii_digit is_version_byte from_digit at.0 digits in
          ap (list_all is_version_byte) at.2 ∙ list_all-join is_version_byte at.0 (58 ∷ at.1) front (all_upstream true at.1 parts.1)
      | false ↦ λ t. list_all_weaker (is_upstream_byte false) is_version_byte from_plain v (all_upstream false v (sym (whole_plain v t) ∙ h))
    ] refl

-- a version has a byte
pub version-some : is_version [] ≡ false
version-some = refl
