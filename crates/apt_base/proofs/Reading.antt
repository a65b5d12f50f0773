-- A file that is read piece by piece.
use Rattle.std.proofs.Common.{◌≡◌, ℕ, ◌+◌, ◌<◌, ◌≤◌, List, [], ◌++◌, length, take, Option, Some, None, Result, Err, IfSome, OnErr, refl, sym, ap, subst, ◌∙◌, arith, append-nil, length-append, length-take}
use Rattle.std.specs.Io.KnownBytes.{prepend_known, IsAtEnd}
use Rattle.apt_base.specs.Faults.{Rose, CountsOnly, ByName, faults_of}
use Rattle.apt_base.specs.Bytes.{TakesAtMost, moved}
use Rattle.apt_base.specs.Files.{ShelfState, KeepsFiles, IsFileRead}
use Rattle.apt_base.specs.declared.calls.Failed.{Failed}
use Rattle.apt_base.proofs.Counts.{CountsOnly-refl, CountsOnly-trans, Rose-before}
use Rattle.apt_base.proofs.Known.{prepend_known-nil, prepend_known-append}

-- no call changed the files, and each was on the open file
pub record HasRead (old : ShelfState) (bytes : List ℕ) (new : ShelfState) : Type 0 where
  pub kept : KeepsFiles old new
  pub opened : new.opened ≡ old.opened
  pub counts : IfSome old.opened (λ name. CountsOnly name old.asked new.asked)
  -- these bytes were taken
  pub taken : old.rest ≡ prepend_known bytes new.rest

same_counts : (opened : Option (List ℕ)) (asked : ByName ℕ) → IfSome opened (λ name. CountsOnly name asked asked)
same_counts None asked = tt
same_counts (Some name) asked = CountsOnly-refl name asked

more_counts : (opened : Option (List ℕ)) (a b c : ByName ℕ) (Q : List ℕ → Type 0) → IfSome opened (λ name. CountsOnly name a b) → IfSome opened (λ name. CountsOnly name b c × Q name) → IfSome opened (λ name. CountsOnly name a c)
more_counts None a b c Q first second = tt
more_counts (Some name) a b c Q first second = CountsOnly-trans name a b c first second.0

pub has_read_nothing : (shelf : ShelfState) → HasRead shelf [] shelf
has_read_nothing shelf = record {
  kept = record { sure = refl; files = refl };
  opened = refl;
  counts = same_counts shelf.opened shelf.asked;
  taken = sym (prepend_known-nil shelf.rest);
}

-- one more call, which may have failed
pub has_read_more : (old mid new : ShelfState) (bytes buffer : List ℕ) (result : Result ℕ Failed) → HasRead old bytes mid → IsFileRead mid result buffer new → HasRead old (bytes ++ moved result buffer) new
has_read_more old mid new bytes buffer result before call = record {
  kept = record { sure = call.kept.sure ∙ before.kept.sure; files = call.kept.files ∙ before.kept.files };
  opened = call.opened ∙ before.opened;
  counts = let P : Option (List ℕ) → Type 0 = λ opened. IfSome opened (λ name. CountsOnly name mid.asked new.asked × OnErr result (Rose (faults_of mid.asked name) (faults_of new.asked name))) in
      more_counts old.opened old.asked mid.asked new.asked (λ name. OnErr result (Rose (faults_of mid.asked name) (faults_of new.asked name))) before.counts (subst P before.opened call.cause);
  taken = before.taken ∙ ap (prepend_known bytes) call.bytes.front ∙ prepend_known-append bytes (moved result buffer) new.rest;
}

rose_cause : (opened : Option (List ℕ)) (a b c : ByName ℕ) → IfSome opened (λ name. CountsOnly name a b) → IfSome opened (λ name. CountsOnly name b c × Rose (faults_of b name) (faults_of c name)) → IfSome opened (λ name. Rose (faults_of a name) (faults_of c name))
rose_cause None a b c first second = tt
rose_cause (Some name) a b c first second = Rose-before _ _ _ first.later second.1

-- a read that fails is the cause of `ReadFault`
pub read_cause : (old mid new : ShelfState) (bytes buffer : List ℕ) (e : Failed) → HasRead old bytes mid → IsFileRead mid (Err e) buffer new → IfSome old.opened (λ name. Rose (faults_of old.asked name) (faults_of new.asked name))
read_cause old mid new bytes buffer e before call =
    let P : Option (List ℕ) → Type 0 = λ opened. IfSome opened (λ name. CountsOnly name mid.asked new.asked × Rose (faults_of mid.asked name) (faults_of new.asked name)) in
    rose_cause old.opened old.asked mid.asked new.asked before.counts (subst P before.opened call.cause)

pub if_some : {X : Type 0} (o : Option X) {P : X → Type 0} → ((x : X) → P x) → IfSome o P
if_some None all = tt
if_some (Some x) all = all x

all_taken : (rest left : Option (List ℕ)) (bytes : List ℕ) → rest ≡ prepend_known bytes left → IsAtEnd left → IfSome rest (λ r. Some r ≡ Some bytes)
all_taken None left bytes taken at_end = tt
all_taken (Some r) None bytes taken at_end = cc
all_taken (Some r) (Some l) bytes taken at_end = taken ∙ ap (λ x. Some (bytes ++ x)) at_end ∙ ap Some (append-nil bytes)

-- at the end, what was taken is all
pub read_all : (old new : ShelfState) (bytes : List ℕ) → HasRead old bytes new → IsAtEnd new.rest → IfSome old.rest (λ rest. Some rest ≡ Some bytes)
read_all old new bytes so_far at_end = all_taken old.rest new.rest bytes so_far.taken at_end

longer : (rest left : Option (List ℕ)) (bytes : List ℕ) (limit : ℕ) → rest ≡ prepend_known bytes left → limit < length bytes → IfSome rest (λ r. limit < length r)
longer None left bytes limit taken past = tt
longer (Some r) None bytes limit taken past = cc
longer (Some r) (Some l) bytes limit taken past =
    let whole : r ≡ bytes ++ l = cc in
    omega (arith, past, ap length whole, length-append bytes l)

-- what was taken is more than the limit
pub read_past : (old new : ShelfState) (bytes : List ℕ) (limit : ℕ) → HasRead old bytes new → limit < length bytes → IfSome old.rest (λ rest. limit < length rest)
read_past old new bytes limit so_far past = longer old.rest new.rest bytes limit so_far.taken past

pub took_at_most : (old new : ShelfState) (bytes : List ℕ) (most : ℕ) → HasRead old bytes new → length bytes ≤ most → TakesAtMost most old.rest new.rest
took_at_most old new bytes most so_far fits = (bytes, fits, so_far.taken)

pub length-more : (bytes buffer : List ℕ) (count : ℕ) → count ≤ length buffer → length (bytes ++ take count buffer) ≡ length bytes + count
length-more bytes buffer count within = grind (arith, length-append, length-take)
