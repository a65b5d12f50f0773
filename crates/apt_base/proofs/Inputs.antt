-- A line that is read part by part from an input.
use Rattle.std.proofs.Common.{inl, inr, ◌⊎◌, ◌≡◌, ℕ, ◌+◌, ◌<◌, ◌≤◌, Bool, true, false, not, eqb, List, [], ◌∷◌, ◌++◌, length, Option, Some, None, Ok, Err, refl, sym, ap, subst, ◌∙◌, arith, append_assoc, append-nil, length-append, IsTrue}
use Rattle.std.specs.Io.KnownBytes.{prepend_known, IsAtEnd}
use Rattle.apt_base.specs.Faults.{Rose, IsLater}
use Rattle.apt_base.specs.Bytes.{SourceState, IsSourceState, TakesBeside}
use Rattle.apt_base.specs.Lines.{lines_of, before_newline, without_return, HasNoNewline, ReadsLine, InputReadsLine, TakesPart}
use Rattle.apt_base.specs.declared.lines.LineEnd.TheVariants as line_end
use Rattle.std.proofs.lemmas.Bool.Decides.{nat_tests}
use Rattle.apt_base.proofs.Counts.{IsLater-refl, IsLater-trans, not_zero}
use Rattle.apt_base.proofs.Known.{prepend_known-nil, prepend_known-append}
use Rattle.apt_base.proofs.Cuts.{no_newline-append, lines_of-line, lines_of-last, before_newline-line, behind_newline-line, before_newline-front, before_newline-clean, behind_newline-clean, length-without_return}

-- The line so far, and what the reader holds: with what was held at first, and what has come since, these are the same bytes.
pub record HasPart (old : SourceState) (first line held : List ℕ) (new : SourceState) : Type 0 where
  pub sure : new.sure ≡ old.sure
  pub later : IsLater old.faults new.faults
  pub more : List ℕ
  pub taken : old.left ≡ prepend_known more new.left
  pub whole : first ++ more ≡ line ++ held
  pub clean : HasNoNewline line
  pub fits : length line + length held ≤ 4097
  -- where a newline was held, nothing was taken yet
  pub lazy : HasNoNewline first ⊎ ((new ≡ old) × (line ++ held ≡ first))

pub part_of_nothing : (source : SourceState) (first : List ℕ) → length first ≤ 4097 → HasPart source first [] first source
part_of_nothing source first fits = record {
  sure = refl;
  later = IsLater-refl source.faults;
  more = [];
  taken = sym (prepend_known-nil source.left);
  whole = append-nil first;
  clean = tt;
  fits = omega (arith, fits);
  lazy = inr (refl, refl);
}

-- where no newline is held now, none was held at first
clean_first : (old new : SourceState) (first line held : List ℕ) → HasPart old first line held new → HasNoNewline held → HasNoNewline first
clean_first old new first line held part clean =
    elim part.lazy as (λ _. HasNoNewline first) [
      | inl before ↦ before
      | inr untouched ↦ subst HasNoNewline untouched.1 (no_newline-append line held part.clean clean)
    ]

-- the answer of a move is known
pub as_answered : (answer known : Bool) (held rest line longer : List ℕ) → answer ≡ known → TakesPart answer held rest line longer → TakesPart known held rest line longer
as_answered answer known held rest line longer is move =
    let P : Bool → Type 0 = λ b. TakesPart b held rest line longer in
    subst P is move

-- what was held went to the line
pub part_moved : (old new : SourceState) (first line held rest longer : List ℕ) → HasPart old first line held new → TakesPart false held rest line longer → HasPart old first longer rest new
part_moved old new first line held rest longer part move = record {
  sure = part.sure;
  later = part.later;
  more = part.more;
  taken = part.taken;
  whole = part.whole ∙ sym move.2 ∙ sym (append-nil longer) ∙ ap (λ r. longer ++ r) (sym move.1);
  clean = subst HasNoNewline (sym move.2) (no_newline-append line held part.clean move.0);
  fits = omega (arith, part.fits, ap length move.2, ap length move.1, length-append line held);
  lazy = inl (clean_first old new first line held part move.0);
}

-- more bytes came
pub part_more : (old mid new : SourceState) (first line held bytes : List ℕ) → HasPart old first line held mid → held ≡ [] → new.sure ≡ mid.sure → IsLater mid.faults new.faults → mid.left ≡ prepend_known bytes new.left → length line + length bytes ≤ 4097 → HasPart old first line bytes new
part_more old mid new first line held bytes part none sure later taken fits = record {
  sure = sure ∙ part.sure;
  later = IsLater-trans _ _ _ part.later later;
  more = part.more ++ bytes;
  taken = part.taken ∙ ap (prepend_known part.more) taken ∙ prepend_known-append part.more bytes new.left;
  whole = sym (append_assoc first part.more bytes) ∙ ap (λ l. l ++ bytes) (part.whole ∙ ap (λ h. line ++ h) none ∙ append-nil line);
  clean = part.clean;
  fits = fits;
  lazy = inl (clean_first old mid first line held part (subst HasNoNewline (sym none) tt));
}

-- the input is the line so far, what is held and what is left
input_is : (old left : Option (List ℕ)) (first more line held : List ℕ) → old ≡ prepend_known more left → first ++ more ≡ line ++ held → prepend_known first old ≡ prepend_known (line ++ held) left
input_is old left first more line held taken whole = ap (prepend_known first) taken ∙ prepend_known-append first more left ∙ ap (λ l. prepend_known l left) whole

pub input_of : (old new : SourceState) (first line held : List ℕ) → HasPart old first line held new → prepend_known first old.left ≡ prepend_known (line ++ held) new.left
input_of old new first line held part = input_is old.left new.left first part.more line held part.taken part.whole

-- a whole line stands at the front of the input
line_at_front : (left : Option (List ℕ)) (line rest : List ℕ) → HasNoNewline line → length line ≤ 4096 → InputReadsLine (prepend_known (line ++ 10 ∷ rest) left) (Ok true) (without_return line) (prepend_known rest left)
line_at_front None line rest clean short = refl
line_at_front (Some left) line rest clean short =
    let e : (line ++ 10 ∷ rest) ++ left ≡ line ++ 10 ∷ (rest ++ left) = append_assoc line (10 ∷ rest) left in
    let P : List ℕ → Type 0 = λ input. ReadsLine input (Ok true) (without_return line) (rest ++ left) in
    subst P (sym e) (lines_of-line line (rest ++ left) clean, sym (behind_newline-line line (rest ++ left) clean), omega (arith, short, ap length (before_newline-line line (rest ++ left) clean)))

found_parts : (old new : SourceState) (first line held rest longer : List ℕ) → HasPart old first line held new → TakesPart true held rest line longer → line ++ held ≡ longer ++ 10 ∷ rest
found_parts old new first line held rest longer part move =
    ap (λ h. line ++ h) move.2 ∙ sym (append_assoc line move.0 (10 ∷ rest)) ∙ ap (λ l. l ++ 10 ∷ rest) (sym move.3)

pub found_length : (old new : SourceState) (first line held rest longer : List ℕ) → HasPart old first line held new → TakesPart true held rest line longer → length longer ≤ 4096
found_length old new first line held rest longer part move =
    omega (arith, part.fits, ap length (found_parts old new first line held rest longer part move), length-append line held, length-append longer (10 ∷ rest))

pub found_line : (old new : SourceState) (first line held rest longer : List ℕ) → HasPart old first line held new → TakesPart true held rest line longer → InputReadsLine (prepend_known first old.left) (Ok true) (without_return longer) (prepend_known rest new.left)
found_line old new first line held rest longer part move =
    let clean = subst HasNoNewline (sym move.3) (no_newline-append line move.0 part.clean move.1) in
    let e = input_of old new first line held part ∙ ap (λ l. prepend_known l new.left) (found_parts old new first line held rest longer part move) in
    let P : Option (List ℕ) → Type 0 = λ input. InputReadsLine input (Ok true) (without_return longer) (prepend_known rest new.left) in
    subst P (sym e) (line_at_front new.left longer rest clean (found_length old new first line held rest longer part move))

pub short_line : (old new : SourceState) (first line held rest longer shorter : List ℕ) → HasPart old first line held new → TakesPart true held rest line longer → shorter ≡ without_return longer → length shorter ≤ 4096
short_line old new first line held rest longer shorter part move is =
    omega (arith, found_length old new first line held rest longer part move, length-without_return longer, ap length is)

-- the line so far is too long
long_at_front : (left : Option (List ℕ)) (line given : List ℕ) → HasNoNewline line → 4096 < length line → InputReadsLine (prepend_known (line ++ []) left) (Err line_end.TooLong) given (prepend_known [] left)
long_at_front None line given clean long = refl
long_at_front (Some left) line given clean long =
    let e : (line ++ []) ++ left ≡ line ++ left = ap (λ l. l ++ left) (append-nil line) in
    let P : List ℕ → Type 0 = λ input. 4096 < length (before_newline input) in
    let front = before_newline-front line left clean in
    subst P (sym e) (omega (arith, long, front))

pub long_line : (old new : SourceState) (first line held given : List ℕ) → HasPart old first line held new → held ≡ [] → 4096 < length line → InputReadsLine (prepend_known first old.left) (Err line_end.TooLong) given (prepend_known held new.left)
long_line old new first line held given part none long =
    let P : Option (List ℕ) → Type 0 = λ input. InputReadsLine input (Err line_end.TooLong) given (prepend_known held new.left) in
    let Q : List ℕ → Type 0 = λ h. InputReadsLine (prepend_known (line ++ h) new.left) (Err line_end.TooLong) given (prepend_known h new.left) in
    subst P (sym (input_of old new first line held part)) (subst Q (sym none) (long_at_front new.left line given part.clean long))

-- the input ended
empty : (line : List ℕ) → length line ≡ 0 → line ≡ []
empty [] none = refl
empty (x ∷ line) none = absurd (omega (arith, none))

end_at_front : (left : Option (List ℕ)) (line : List ℕ) (is_empty : Bool) → HasNoNewline line → IsAtEnd left → (is_empty ≡ false → 0 < length line) → (is_empty ≡ true → length line ≡ 0) → length line ≤ 4096 → InputReadsLine (prepend_known (line ++ []) left) (Ok (not is_empty)) line (prepend_known [] left)
end_at_front None line is_empty clean at_end some none short = refl
end_at_front (Some left) line false clean at_end some none short =
    let e : (line ++ []) ++ left ≡ line = ap (λ l. (line ++ []) ++ l) at_end ∙ append-nil (line ++ []) ∙ append-nil line in
    let P : List ℕ → Type 0 = λ input. ReadsLine input (Ok true) line left in
    subst P (sym e) (lines_of-last line clean (some refl) ∙ ap (λ l. line ∷ lines_of l) (sym at_end), at_end ∙ sym (behind_newline-clean line clean), omega (arith, short, ap length (before_newline-clean line clean)))
end_at_front (Some left) line true clean at_end some none short =
    let is : line ≡ [] = empty line (none refl) in
    (ap (λ l. (line ++ []) ++ l) at_end ∙ append-nil (line ++ []) ∙ append-nil line ∙ is, is, at_end)

pub last_line : (old new : SourceState) (first line held : List ℕ) (size : ℕ) (is_empty : Bool) → HasPart old first line held new → length held ≡ 0 → IsAtEnd new.left → size ≡ length line → is_empty ≡ eqb size 0 → length line ≤ 4096 → InputReadsLine (prepend_known first old.left) (Ok (not is_empty)) line (prepend_known held new.left)
last_line old new first line held size is_empty part nothing at_end sized is short =
    let none : held ≡ [] = empty held nothing in
    let P : Option (List ℕ) → Type 0 = λ input. InputReadsLine input (Ok (not is_empty)) line (prepend_known held new.left) in
    let Q : List ℕ → Type 0 = λ h. InputReadsLine (prepend_known (line ++ h) new.left) (Ok (not is_empty)) line (prepend_known h new.left) in
    subst P (sym (input_of old new first line held part)) (subst Q (sym none) (end_at_front new.left line is_empty part.clean at_end (λ f. grind (arith, nat_tests)) (λ t. grind (arith, nat_tests)) short))

-- an error that says nothing of the input
fault_is_told : (left : Option (List ℕ)) (input rest given : List ℕ) → InputReadsLine (prepend_known input left) (Err line_end.ReadFault) given (prepend_known rest left)
fault_is_told None input rest given = refl
fault_is_told (Some left) input rest given = tt

memory_is_told : (left : Option (List ℕ)) (input rest given : List ℕ) → InputReadsLine (prepend_known input left) (Err line_end.NoMemory) given (prepend_known rest left)
memory_is_told None input rest given = refl
memory_is_told (Some left) input rest given = tt

pub fault_told : (old new : SourceState) (first line held rest given : List ℕ) → HasPart old first line held new → InputReadsLine (prepend_known first old.left) (Err line_end.ReadFault) given (prepend_known rest new.left)
fault_told old new first line held rest given part =
    let P : Option (List ℕ) → Type 0 = λ input. InputReadsLine input (Err line_end.ReadFault) given (prepend_known rest new.left) in
    subst P (sym (input_of old new first line held part)) (fault_is_told new.left (line ++ held) rest given)

pub memory_told : (old new : SourceState) (first line held rest given : List ℕ) → HasPart old first line held new → InputReadsLine (prepend_known first old.left) (Err line_end.NoMemory) given (prepend_known rest new.left)
memory_told old new first line held rest given part =
    let P : Option (List ℕ) → Type 0 = λ input. InputReadsLine input (Err line_end.NoMemory) given (prepend_known rest new.left) in
    subst P (sym (input_of old new first line held part)) (memory_is_told new.left (line ++ held) rest given)

pub part_budget : (old new : SourceState) (first line held : List ℕ) → HasPart old first line held new → TakesBeside 4097 first old.left new.left
part_budget old new first line held part =
    (part.more, omega (arith, part.fits, ap length part.whole, length-append first part.more, length-append line held), part.taken)

pub part_lazy : (old new : SourceState) (first line held : List ℕ) → HasPart old first line held new → HasNoNewline first ⊎ (new ≡ old)
part_lazy old new first line held part =
    elim part.lazy as (λ _. HasNoNewline first ⊎ (new ≡ old)) [
      | inl before ↦ inl before
      | inr untouched ↦ inr untouched.0
    ]

pub part_held : (old new : SourceState) (first line held : List ℕ) → HasPart old first line held new → length held ≤ 4097
part_held old new first line held part = omega (arith, part.fits)

-- what is held behind a line that was found
pub found_held : (old new : SourceState) (first line held rest longer : List ℕ) → HasPart old first line held new → TakesPart true held rest line longer → length rest ≤ 4097
found_held old new first line held rest longer part move =
    omega (arith, part.fits, ap length (found_parts old new first line held rest longer part move), length-append line held, length-append longer (10 ∷ rest))

-- a sure source doesn't fail
pub sure_source : (old mid new : SourceState) → mid.sure ≡ old.sure → new.sure ≡ mid.sure → Rose mid.faults new.faults → IsSourceState new → IsTrue old.sure → ⊥
sure_source old mid new first second rose law sure =
    let P : Bool → Type 0 = IsTrue in
    not_zero _ _ rose (law (subst P (sym (second ∙ first)) sure))
