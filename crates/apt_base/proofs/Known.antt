-- Bytes that are told or not, over several calls.
use Rattle.std.proofs.Common.{◌≡◌, List, ℕ, [], ◌++◌, Option, Some, None, refl, sym, ap, append_assoc, append-nil}
use Rattle.std.specs.Io.KnownBytes.{prepend_known, append_known}

pub append_known-nil : (known : Option (List ℕ)) → append_known known [] ≡ known
append_known-nil None = refl
append_known-nil (Some bytes) = ap Some (append-nil bytes)

pub append_known-append : (known : Option (List ℕ)) (front back : List ℕ) → append_known (append_known known front) back ≡ append_known known (front ++ back)
append_known-append None front back = refl
append_known-append (Some bytes) front back = ap Some (append_assoc bytes front back)

pub prepend_known-nil : (known : Option (List ℕ)) → prepend_known [] known ≡ known
prepend_known-nil None = refl
prepend_known-nil (Some bytes) = refl

pub prepend_known-append : (front back : List ℕ) (known : Option (List ℕ)) → prepend_known front (prepend_known back known) ≡ prepend_known (front ++ back) known
prepend_known-append front back None = refl
prepend_known-append front back (Some bytes) = ap Some (sym (append_assoc front back bytes))
