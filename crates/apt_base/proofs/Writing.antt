-- Bytes that are written piece by piece.
use Rattle.std.proofs.Common.{◌≡◌, ℕ, ◌+◌, ◌<◌, ◌≤◌, List, [], ◌++◌, length, take, drop, Option, Some, None, Ok, Err, IfSome, refl, sym, ap, subst, ◌∙◌, arith, append_assoc, length-append, take-append-drop}
use Rattle.std.specs.Option.{IsSomeAnd}
use Rattle.std.proofs.Math.Seq.{take-append_seam}
use Rattle.std.specs.Io.KnownBytes.{append_known}
use Rattle.apt_base.specs.Faults.{Rose, IsLater}
use Rattle.apt_base.specs.Bytes.{SinkState, IsSinkState, IsWrite, HasRoom, WritesPrefix}
use Rattle.apt_base.specs.declared.calls.Failed.{Failed}
use Rattle.apt_base.proofs.Counts.{IsLater-refl, IsLater-trans, Rose-before, not_zero}
use Rattle.apt_base.proofs.Known.{append_known-nil, append_known-append}

-- the sink took the front of these bytes, and this is the rest of them
pub record HasWritten (old : SinkState) (bytes rest : List ℕ) (new : SinkState) : Type 0 where
  pub room : new.room ≡ old.room
  pub later : IsLater old.faults new.faults
  pub front : List ℕ
  pub whole : bytes ≡ front ++ rest
  pub written : new.written ≡ append_known old.written front

pub has_written_nothing : (sink : SinkState) (bytes : List ℕ) → HasWritten sink bytes bytes sink
has_written_nothing sink bytes = record {
  room = refl;
  later = IsLater-refl sink.faults;
  front = [];
  whole = refl;
  written = sym (append_known-nil sink.written);
}

pub has_written_more : (old mid new : SinkState) (bytes rest : List ℕ) (count : ℕ) → HasWritten old bytes rest mid → IsWrite mid rest (Ok count) new → HasWritten old bytes (drop count rest) new
has_written_more old mid new bytes rest count before call = record {
  room = call.room ∙ before.room;
  later = IsLater-trans _ _ _ before.later call.cause.later;
  front = before.front ++ take count rest;
  whole = before.whole ∙ ap (λ r. before.front ++ r) (sym (take-append-drop count rest)) ∙ sym (append_assoc before.front (take count rest) (drop count rest));
  written = call.front ∙ ap (λ w. append_known w (take count rest)) before.written ∙ append_known-append old.written before.front (take count rest);
}

pub written_prefix : (old mid new : SinkState) (bytes rest : List ℕ) (e : Failed) → HasWritten old bytes rest mid → 0 < length rest → IsWrite mid rest (Err e) new → WritesPrefix old.written bytes new.written
written_prefix old mid new bytes rest e before some call =
    let same : take (length before.front) bytes ≡ before.front = ap (take (length before.front)) before.whole ∙ take-append_seam before.front rest in
    let shorter : length before.front < length bytes = omega (arith, ap length before.whole, length-append before.front rest) in
    let kept : new.written ≡ append_known old.written before.front = call.front ∙ append_known-nil mid.written ∙ before.written in
    (length before.front, shorter, kept ∙ ap (append_known old.written) (sym same))

pub write_cause : (old mid new : SinkState) (bytes rest : List ℕ) (e : Failed) → HasWritten old bytes rest mid → IsWrite mid rest (Err e) new → Rose old.faults new.faults
write_cause old mid new bytes rest e before call = Rose-before _ _ _ before.later call.cause.failed

-- what is written so far is less than the room
roomy : (room written : Option _) (bytes front rest : List ℕ) (now : Option (List ℕ)) → IsSomeAnd room (λ r. IsSomeAnd written (λ w. length w + length bytes ≤ r)) → bytes ≡ front ++ rest → now ≡ append_known written front → 0 < length rest → IsSomeAnd room (λ r. IsSomeAnd now (λ w. length w < r))
roomy None written bytes front rest now has whole is some = absurd has
roomy (Some r) None bytes front rest now has whole is some = absurd has
roomy (Some r) (Some w) bytes front rest now has whole is some =
    let P : Option (List ℕ) → Type 0 = λ n. IsSomeAnd n (λ x. length x < r) in
    let fits : length (w ++ front) < r = omega (arith, has, some, ap length whole, length-append front rest, length-append w front) in
    subst P (sym is) fits

no_fault : (room : Option ℕ) (now : Option (List ℕ)) (faults : ℕ) → IsSomeAnd room (λ r. IsSomeAnd now (λ w. length w < r)) → IfSome room (λ r. IsSomeAnd now (λ w. length w < r → faults ≡ 0)) → faults ≡ 0
no_fault None now faults fits law = absurd fits
no_fault (Some r) None faults fits law = absurd fits
no_fault (Some r) (Some w) faults fits law = law fits

-- a sure sink with room doesn't fail
pub never_fails : (old mid new : SinkState) (bytes rest : List ℕ) (e : Failed) → HasWritten old bytes rest mid → 0 < length rest → IsWrite mid rest (Err e) new → IsSinkState new → HasRoom old bytes → ⊥
never_fails old mid new bytes rest e before some call law has =
    let kept : new.written ≡ append_known old.written before.front = call.front ∙ append_known-nil mid.written ∙ before.written in
    let same : new.room ≡ old.room = call.room ∙ before.room in
    let fits = roomy old.room old.written bytes before.front rest new.written has before.whole kept some in
    let P : Option ℕ → Type 0 = λ room. IsSomeAnd room (λ r. IsSomeAnd new.written (λ w. length w < r)) in
    not_zero mid.faults new.faults call.cause.failed (no_fault new.room new.written new.faults (subst P (sym same) fits) law)
