-- What is left of the input behind some lines.
use Rattle.std.proofs.Common.{inl, inr, ◌≡◌, ◌⊎◌, ◌≤◌, ◌<◌, ℕ, zero, suc, List, [], ◌∷◌, ◌++◌, Option, Some, None, Ok, IfSome, true, length, map, take, refl, ap, sym, subst, ◌∙◌, arith, append_assoc, append-nil, length-append}
use Rattle.std.specs.Io.KnownBytes.{prepend_known}
use Rattle.std.proofs.lemmas.List.{map-append, length-map}
use Rattle.std.proofs.Math.Seq.{take-append_seam}
use Rattle.apt_base.specs.Bytes.{TakesBeside}
use Rattle.apt_base.specs.Lines.{lines_of, before_newline, behind_newline, most_line_bytes, InputReadsLine}
use Rattle.resolver_model.specs.declared.history.Command.{Command}
use Rattle.dialogue.specs.Lines.{command_of}
use Rattle.talk.specs.Transcripts.{Script}
use Rattle.talk.specs.Ends.{behind_lines}
use Rattle.talk.specs.Runs.{AreShort, AreOfLines, IsLeftBehind}
use Rattle.talk.specs.Turns.{AreTaken, IsLeft}

pub left_start : (s : Script) (input : Option (List ℕ)) → IsLeft s [] input input
left_start s None = refl
left_start s (Some bytes) = record { behind = refl; taken = []; lines = refl; read = refl; short = λ k lt. absurd (omega (arith, lt)) }

length_more : {X : Type 0} (xs : List X) (x : X) → length (xs ++ x ∷ []) ≡ suc (length xs)
length_more xs x = omega (arith, length-append xs (x ∷ []))

last_or : (k n : ℕ) → k < suc n → (k ≡ n) ⊎ (k < n)
last_or zero zero lt = inl refl
last_or zero (suc n) lt = inr (omega arith)
last_or (suc k) zero lt = absurd (omega (arith, lt))
last_or (suc k) (suc n) lt =
    elim (last_or k n (omega (arith, lt))) as (λ _. (suc k ≡ suc n) ⊎ (suc k < suc n)) [
      | inl e ↦ inl (ap suc e)
      | inr less ↦ inr (omega (arith, less))
    ]

short_more : (n count : ℕ) (input rest : List ℕ) → count ≡ suc n → AreShort n input → rest ≡ behind_lines n input → length (before_newline rest) ≤ most_line_bytes → AreShort count input
short_more n count input rest size short is here k lt =
    elim (last_or k n (omega (arith, lt, size))) as (λ _. length (before_newline (behind_lines k input)) ≤ most_line_bytes) [
      | inl same ↦
          let P : List ℕ → Type 0 = λ r. length (before_newline r) ≤ most_line_bytes in
          subst P (is ∙ ap (λ j. behind_lines j input) (sym same)) here
      | inr less ↦ short k less
    ]

-- one more line was taken
pub left_more : (s : Script) (commands : List Command) (input now next : Option (List ℕ)) (line : List ℕ) (command : Command)
    → IsLeft s commands input now → InputReadsLine now (Ok true) line next → command ≡ command_of s.universe s.problem line → IsLeft s (commands ++ command ∷ []) input next
left_more s commands None now next line command h t is = let P : Option (List ℕ) → Type 0 = λ n. InputReadsLine n (Ok true) line next in subst P h t
left_more s commands (Some bytes) None next line command h t is = absurd h
left_more s commands (Some bytes) (Some rest) None line command h t is = absurd t
left_more s commands (Some bytes) (Some rest) (Some more) line command h t is =
    let f = command_of s.universe s.problem in
    let size = length_more commands command in
    record {
      behind = t.1 ∙ ap behind_newline h.behind ∙ ap (λ n. behind_lines n bytes) (sym size);
      taken = h.taken ++ line ∷ [];
      lines = h.lines ∙ ap (λ ls. h.taken ++ ls) t.0 ∙ sym (append_assoc h.taken (line ∷ []) (lines_of more));
      read = ap (λ cs. cs ++ command ∷ []) h.read ∙ ap (λ c. map f h.taken ++ c ∷ []) is ∙ sym (map-append f h.taken (line ∷ []));
      short = short_more (length commands) (length (commands ++ command ∷ [])) bytes rest size h.short h.behind t.2;
    }

take_front : {X : Type 0} (xs ys : List X) (n : ℕ) → n ≡ length xs → take n (xs ++ ys) ≡ xs
take_front xs ys n e = ap (λ k. take k (xs ++ ys)) e ∙ take-append_seam xs ys

count_taken : (s : Script) (commands : List Command) (input rest : List ℕ) (h : AreTaken s commands input rest) → length commands ≡ length h.taken
count_taken s commands input rest h = ap length h.read ∙ length-map h.taken (command_of s.universe s.problem)

-- the commands so far are those of the first lines
pub of_lines : (s : Script) (commands : List Command) (input now : Option (List ℕ)) → IsLeft s commands input now → IfSome input (AreOfLines s commands)
of_lines s commands None now h = tt
of_lines s commands (Some bytes) None h = absurd h
of_lines s commands (Some bytes) (Some rest) h =
    let whole : length (lines_of bytes) ≡ length (h.taken ++ lines_of rest) = ap length h.lines in
    let count = count_taken s commands bytes rest h in
    let front : take (length commands) (lines_of bytes) ≡ h.taken = ap (take (length commands)) h.lines ∙ take_front h.taken (lines_of rest) (length commands) count in
    record {
      enough = omega (arith, whole, count, length-append h.taken (lines_of rest));
      read = h.read ∙ ap (map (command_of s.universe s.problem)) (sym front);
      short = h.short;
    }

-- where the last call took no more than a buffer's bytes
pub left_behind : (s : Script) (commands : List Command) (held : List ℕ) (input now next : Option (List ℕ)) → IsLeft s commands input (prepend_known held now) → TakesBeside 4097 held now next
    → IfSome input (λ bytes. IsLeftBehind (length commands) bytes next)
left_behind s commands held None now next h t = tt
left_behind s commands held (Some bytes) None next h t = absurd h
left_behind s commands held (Some bytes) (Some rest) None h t = absurd (cc (t.2))
left_behind s commands held (Some bytes) (Some rest) (Some more) h t =
    let is : rest ≡ t.0 ++ more = cc (t.2) in (
      held ++ t.0,
      omega (arith, t.1, length-append held t.0),
      ap Some (sym h.behind ∙ ap (λ r. held ++ r) is ∙ sym (append_assoc held t.0 more)),
    )

-- where no line was read since
pub takes_nothing : (held : List ℕ) (now : Option (List ℕ)) → length held ≤ 4097 → TakesBeside 4097 held now now
takes_nothing held None few = ([], omega (arith, few), refl)
takes_nothing held (Some rest) few = ([], omega (arith, few), refl)

-- the input ended
pub all_read : (s : Script) (commands : List Command) (input now : Option (List ℕ)) → IsLeft s commands input now → IfSome now (λ b. b ≡ []) → IfSome input (λ bytes. length (lines_of bytes) ≡ length commands)
all_read s commands None now h none = tt
all_read s commands (Some bytes) None h none = absurd h
all_read s commands (Some bytes) (Some rest) h none =
    let all : lines_of bytes ≡ h.taken = h.lines ∙ ap (λ r. h.taken ++ lines_of r) none ∙ append-nil h.taken in
    ap length all ∙ sym (count_taken s commands bytes rest h)

-- the next line is too long
pub next_long : (s : Script) (commands : List Command) (input now : Option (List ℕ)) → IsLeft s commands input now → IfSome now (λ b. most_line_bytes < length (before_newline b))
    → IfSome input (λ bytes. most_line_bytes < length (before_newline (behind_lines (length commands) bytes)))
next_long s commands None now h long = tt
next_long s commands (Some bytes) None h long = absurd h
next_long s commands (Some bytes) (Some rest) h long =
    let P : List ℕ → Type 0 = λ r. most_line_bytes < length (before_newline r) in
    subst P h.behind long

-- there is a further line
pub one_further : (s : Script) (commands : List Command) (input now next : Option (List ℕ)) (line : List ℕ) → IsLeft s commands input now → InputReadsLine now (Ok true) line next
    → IfSome input (λ bytes. length commands < length (lines_of bytes))
one_further s commands None now next line h t = tt
one_further s commands (Some bytes) None next line h t = absurd h
one_further s commands (Some bytes) (Some rest) None line h t = absurd t
one_further s commands (Some bytes) (Some rest) (Some more) line h t =
    let whole : length (lines_of bytes) ≡ length (h.taken ++ lines_of rest) = ap length h.lines in
    let one : length (lines_of rest) ≡ length (line ∷ lines_of more) = ap length t.0 in
    omega (arith, whole, one, count_taken s commands bytes rest h, length-append h.taken (lines_of rest))
