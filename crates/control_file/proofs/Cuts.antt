-- A text cut at its newlines, one line after the other.
use Rattle.std.proofs.Common.{◌≡◌, ℕ, zero, suc, ◌+◌, ◌^◌, ◌<◌, true, false, cond, List, [], ◌∷◌, ◌++◌, length, get_or, take, drop, refl, ap, sym, ◌∙◌, arith, eqb, append_assoc, length-append}
use Rattle.std.specs.List.{onto_first}
use Rattle.std.proofs.lemmas.List.{append-nil, take-append-drop, length-drop}
use Rattle.control_file.specs.Text.{Line, cut, numbered, lines_from, bytes_of}
use Rattle.control_file.specs.Passes.{Passed, IsFirstLine}

-- up to the first newline stands one line, whatever follows
pub cut_at : (xs : List ℕ) (k : ℕ) → k < length xs → ((j : ℕ) → j < k → eqb (get_or xs j 0) 10 ≡ false) → eqb (get_or xs k 0) 10 ≡ true → (more : List ℕ) → cut (take (suc k) xs ++ more) ≡ take (suc k) xs ∷ cut more
cut_at [] k lt before at more = absurd (omega arith)
cut_at (x ∷ xs) zero lt before at more = rw at refl
cut_at (x ∷ xs) (suc k) lt before at more =
    let no : eqb x 10 ≡ false = before 0 (omega arith) in
    rw no (ap (onto_first x) (cut_at xs k (omega arith) (λ j h. before (suc j) (omega arith)) at more))

-- without a newline a text is one line
pub cut_none : (xs : List ℕ) → 0 < length xs → ((j : ℕ) → j < length xs → eqb (get_or xs j 0) 10 ≡ false) → cut xs ≡ xs ∷ []
cut_none [] lt none = absurd (omega arith)
cut_none (x ∷ []) lt none =
    let no : eqb x 10 ≡ false = none 0 (omega arith) in
    rw no refl
cut_none (x ∷ y ∷ ys) lt none =
    let no : eqb x 10 ≡ false = none 0 (omega arith) in
    rw no (ap (onto_first x) (cut_none (y ∷ ys) (omega arith) (λ j h. none (suc j) (omega arith))))

pub first_line_at : (xs : List ℕ) (k : ℕ) → k < length xs → ((j : ℕ) → j < k → eqb (get_or xs j 0) 10 ≡ false) → eqb (get_or xs k 0) 10 ≡ true → IsFirstLine xs (take (suc k) xs) (drop (suc k) xs)
first_line_at xs k lt before at =
    let joins = cut_at xs k lt before at in
    let whole : take (suc k) xs ++ drop (suc k) xs ≡ xs = take-append-drop (suc k) xs in
    record {
      text = sym whole;
      some = omega (arith, length-append (take (suc k) xs) (drop (suc k) xs), ap length whole, length-drop (suc k) xs);
      lines = ap cut (sym whole) ∙ joins (drop (suc k) xs);
      alone = ap cut (sym (append-nil (take (suc k) xs))) ∙ joins [];
      ends_line = λ _ more. joins more;
    }

pub first_line_alone : (xs : List ℕ) → 0 < length xs → ((j : ℕ) → j < length xs → eqb (get_or xs j 0) 10 ≡ false) → IsFirstLine xs xs []
first_line_alone xs lt none = record {
  text = sym (append-nil xs);
  some = lt;
  lines = cut_none xs lt none;
  alone = cut_none xs lt none;
  ends_line = λ h. absurd (omega arith);
}

pub numbered-append : (n : ℕ) (xs ys : List (List ℕ)) → numbered n (xs ++ ys) ≡ numbered n xs ++ numbered (n + length xs) ys
numbered-append n [] ys = let e : n + 0 ≡ n = omega arith in rw e refl
numbered-append n (x ∷ xs) ys =
    let e : (n + 1) + length xs ≡ n + suc (length xs) = omega arith in
    ap (λ (ls : List Line). record { number = n; bytes = x } ∷ ls) (numbered-append (n + 1) xs ys ∙ ap (λ m. numbered (n + 1) xs ++ numbered m ys) e)

pub passed_none : (n : ℕ) (old : List ℕ) → n + length old < 2 ^ 64 → Passed n old n old []
passed_none n old h = record {
  front = [];
  text = refl;
  front_lines = refl;
  text_lines = refl;
  number = omega arith;
  ends_line = λ _ more. refl;
  bound = h;
}

pub passed_more : (n : ℕ) (old : List ℕ) (m : ℕ) (rest : List ℕ) (lines : List (List ℕ)) (first after : List ℕ) → Passed n old m rest lines → IsFirstLine rest first after → Passed n old (m + 1) after (lines ++ first ∷ [])
passed_more n old m rest lines first after p f =
    let long : length rest ≡ length first + length after = ap length f.text ∙ length-append first after in
    let joins = p.ends_line (omega (arith, f.some)) in
    record {
      front = p.front ++ first;
      text = p.text ∙ ap (λ r. p.front ++ r) f.text ∙ sym (append_assoc p.front first after);
      front_lines = joins first ∙ ap (λ r. lines ++ r) f.alone;
      text_lines = p.text_lines ∙ ap (λ r. lines ++ r) f.lines ∙ sym (append_assoc lines (first ∷ []) (cut after));
      number = omega (arith, p.number, length-append lines (first ∷ []));
      ends_line = λ h more. ap cut (append_assoc p.front first more) ∙ joins (first ++ more) ∙ ap (λ r. lines ++ r) (f.ends_line h more) ∙ sym (append_assoc lines (first ∷ []) (cut more));
      bound = omega (arith, p.bound, f.some);
    }

-- a first line was passed, and then the lines behind it
pub passed_first : (m : ℕ) (rest first after : List ℕ) (k : ℕ) (left : List ℕ) (more : List (List ℕ)) → IsFirstLine rest first after → Passed (m + 1) after k left more → Passed m rest k left (first ∷ more)
passed_first m rest first after k left more f q = record {
  front = first ++ q.front;
  text = f.text ∙ ap (λ r. first ++ r) q.text ∙ sym (append_assoc first q.front left);
  front_lines = joined q.front q.text ∙ ap (λ ls. first ∷ ls) q.front_lines;
  text_lines = f.lines ∙ ap (λ ls. first ∷ ls) q.text_lines;
  number = omega (arith, q.number);
  ends_line = λ h later. ap cut (append_assoc first q.front later) ∙ f.ends_line (omega (arith, h, ap length q.text, length-append q.front left)) (q.front ++ later) ∙ ap (λ ls. first ∷ ls) (q.ends_line h later);
  bound = q.bound;
}
  where
    joined : (front : List ℕ) → after ≡ front ++ left → cut (first ++ front) ≡ first ∷ cut front
    joined [] e = ap cut (append-nil first) ∙ f.alone
    joined (b ∷ bs) e = f.ends_line (omega (arith, ap length e)) (b ∷ bs)

-- lines were passed, and then others
pub passed_both : (n : ℕ) (old : List ℕ) (m : ℕ) (rest : List ℕ) (lines : List (List ℕ)) (k : ℕ) (left : List ℕ) (more : List (List ℕ)) → 0 < length rest → Passed n old m rest lines → Passed m rest k left more → Passed n old k left (lines ++ more)
passed_both n old m rest lines k left more some p q =
    let joins = p.ends_line some in
    record {
      front = p.front ++ q.front;
      text = p.text ∙ ap (λ r. p.front ++ r) q.text ∙ sym (append_assoc p.front q.front left);
      front_lines = joins q.front ∙ ap (λ r. lines ++ r) q.front_lines;
      text_lines = p.text_lines ∙ ap (λ r. lines ++ r) q.text_lines ∙ sym (append_assoc lines more (cut left));
      number = omega (arith, p.number, q.number, length-append lines more);
      ends_line = λ h after. ap cut (append_assoc p.front q.front after) ∙ joins (q.front ++ after) ∙ ap (λ r. lines ++ r) (q.ends_line h after) ∙ sym (append_assoc lines more (cut after));
      bound = q.bound;
    }

-- lines in numbers, as far as they were passed
pub passed_lines : (n : ℕ) (old : List ℕ) (m : ℕ) (rest : List ℕ) (lines : List (List ℕ)) → Passed n old m rest lines → lines_from n old ≡ numbered n lines ++ lines_from m rest
passed_lines n old m rest lines p =
    ap (numbered n) p.text_lines ∙ numbered-append n lines (cut rest) ∙ ap (λ k. numbered n lines ++ numbered k (cut rest)) (sym p.number)

bytes_of_onto : (n : ℕ) (x : ℕ) (ls : List (List ℕ)) → bytes_of (numbered n (onto_first x ls)) ≡ x ∷ bytes_of (numbered n ls)
bytes_of_onto n x [] = refl
bytes_of_onto n x (l ∷ ls) = refl

-- a text is its lines, one behind the other
pub bytes_of-lines : (n : ℕ) (xs : List ℕ) → bytes_of (lines_from n xs) ≡ xs
bytes_of-lines n [] = refl
bytes_of-lines n (x ∷ xs) =
    elim (eqb x 10) as (λ b. bytes_of (numbered n (cond b ((x ∷ []) ∷ cut xs) (onto_first x (cut xs)))) ≡ x ∷ xs) [
      | true ↦ ap (λ r. x ∷ r) (bytes_of-lines (n + 1) xs)
      | false ↦ bytes_of_onto n x (cut xs) ∙ ap (λ r. x ∷ r) (bytes_of-lines n xs)
    ]
