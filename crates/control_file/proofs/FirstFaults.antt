-- The fault of a paragraph is that of its first faulty line.
use Rattle.std.proofs.Common.{◌≡◌, List, [], ◌∷◌, ◌++◌, length, refl, ap, sym, ◌∙◌, subst, arith, append_assoc, length-append, Option, Some, None, MatchOption, ◌⊎◌, inl, inr}
use Rattle.std.proofs.lemmas.List.{append-nil}
use Rattle.control_file.specs.declared.CtlFault.{CtlFault}
use Rattle.control_file.specs.declared.CtlKind.{CtlKind}
use Rattle.control_file.specs.Text.{Line, fault_of, at_line_or, fault_behind}
use Rattle.control_file.specs.Laws.{HasNoFault, IsFirstFaulty, FirstFaultIsFirst}

-- a place in a list with one more at its end: the end, or a place before it
place_in_push : {X : Type 0} (xs : List X) (x : X) (b : List X) (y : X) (a : List X) → xs ++ x ∷ [] ≡ b ++ y ∷ a → ((xs ≡ b) × (x ≡ y)) ⊎ ((c : List X) × (xs ≡ b ++ y ∷ c))
place_in_push [] x [] y a e = let same : x ≡ y = cc in inl (refl, same)
place_in_push [] x (c ∷ b) y a e = absurd (omega (arith, ap length e, length-append b (y ∷ a)))
place_in_push (z ∷ xs) x [] y a e = let same : z ≡ y = cc in inr (xs, ap (λ w. w ∷ xs) same)
place_in_push (z ∷ xs) x (c ∷ b) y a e =
    let same : z ≡ c = cc in
    let rest : xs ++ x ∷ [] ≡ b ++ y ∷ a = cc in
    longer xs x b y a z c same (place_in_push xs x b y a rest)
  where
    longer : {X : Type 0} (xs : List X) (x : X) (b : List X) (y : X) (a : List X) (z c : X) → z ≡ c → ((xs ≡ b) × (x ≡ y)) ⊎ ((d : List X) × (xs ≡ b ++ y ∷ d)) → ((z ∷ xs ≡ c ∷ b) × (x ≡ y)) ⊎ ((d : List X) × (z ∷ xs ≡ c ∷ (b ++ y ∷ d)))
    longer xs x b y a z c same (inl p) = inl (ap (λ w. w ∷ xs) same ∙ ap (λ l. c ∷ l) p.0, p.1)
    longer xs x b y a z c same (inr p) = inr (p.0, ap (λ w. w ∷ xs) same ∙ ap (λ l. c ∷ l) p.1)

no_fault_push : (front : List Line) (l : Line) → HasNoFault front → fault_of front l ≡ None → HasNoFault (front ++ l ∷ [])
no_fault_push front l none here before line after e = by_place before line (place_in_push front l before line after e)
  where
    by_place : (before : List Line) (line : Line) → ((front ≡ before) × (l ≡ line)) ⊎ ((c : List Line) × (front ≡ before ++ line ∷ c)) → fault_of before line ≡ None
    by_place before line (inl p) = ap (λ b. fault_of b line) (sym p.0) ∙ ap (λ k. fault_of front k) (sym p.1) ∙ here
    by_place before line (inr p) = none before line p.0 p.1

abbrev FirstBehind : List Line → List Line → Option CtlFault → Type 0
FirstBehind front ls fault = MatchOption fault (HasNoFault (front ++ ls)) (λ f. IsFirstFaulty (front ++ ls) f)

first_behind : (ls front : List Line) → HasNoFault front → FirstBehind front ls (fault_behind front ls)
first_behind [] front none = λ before line after e. none before line after (sym (append-nil front) ∙ e)
first_behind (l ∷ ls) front none = by_fault (λ further clear. first_behind ls further clear) (fault_of front l) refl
  where
    by_fault : ((further : List Line) → HasNoFault further → FirstBehind further ls (fault_behind further ls)) → (o : Option CtlKind) → fault_of front l ≡ o → FirstBehind front (l ∷ ls) (at_line_or o l.number (fault_behind (front ++ l ∷ []) ls))
    by_fault below (Some kind) is = record {
      before = front;
      at = l;
      after = ls;
      lines = refl;
      number = refl;
      kind = is;
      none = none;
    }
    by_fault below None is =
        let later = below (front ++ l ∷ []) (no_fault_push front l none is) in
        let P : List Line → Type 0 = λ whole. MatchOption (fault_behind (front ++ l ∷ []) ls) (HasNoFault whole) (λ f. IsFirstFaulty whole f) in
        subst P (append_assoc front (l ∷ []) ls) later

pub first_fault_is_first : (ls : List Line) → FirstFaultIsFirst ls
first_fault_is_first ls = first_behind ls [] (λ before line after e. absurd (omega (arith, ap length e, length-append before (line ∷ after))))
