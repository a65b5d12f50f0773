-- Lines are, in order, blank lines and the lines of their paragraphs.
use Rattle.std.proofs.Common.{◌≡◌, Bool, true, false, not, cond, List, [], ◌∷◌, ◌++◌, refl, ap, sym, subst, arith}
use Rattle.std.specs.List.{filter, list_all, onto_first, slice_split}
use Rattle.std.proofs.lemmas.Bool.{and_from}
use Rattle.control_file.specs.Text.{Line, is_blank_line, has_line, paragraphs_of}
use Rattle.control_file.specs.Laws.{is_run_next, AreRunsOf}

-- one more blank line at the front
blank_before : (l : Line) (ps : List (List Line)) (ls : List Line) → is_blank_line l ≡ true → AreRunsOf ps ls → AreRunsOf ps (l ∷ ls)
blank_before l [] ls is h = and_from (is_blank_line l) (list_all is_blank_line ls) is h
blank_before l (p ∷ ps) ls is h = (l ∷ h.0, h.1, ap (λ r. l ∷ r) h.2, and_from (is_blank_line l) (list_all is_blank_line h.0) is h.3, h.4, h.5, h.6, h.7)

-- lines in parts: the lines of the first part are not blank, and stand at the front of all
record Front (ls : List Line) (parts : List (List Line)) : Type 0 where
  first : List Line
  later : List (List Line)
  rest : List Line
  are : parts ≡ first ∷ later
  lines : ls ≡ first ++ rest
  full : list_all (λ l. not (is_blank_line l)) first ≡ true
  stops : is_run_next rest ≡ false
  runs : AreRunsOf (filter has_line later) rest

-- the first part is a run, if it has lines
runs_from : (l : Line) (first : List Line) (later : List (List Line)) (rest ls : List Line) → is_blank_line l ≡ true → ls ≡ first ++ rest → list_all (λ l. not (is_blank_line l)) first ≡ true → is_run_next rest ≡ false → AreRunsOf (filter has_line later) rest → AreRunsOf (filter has_line (first ∷ later)) (l ∷ ls)
runs_from l [] later rest ls is lines full stops runs =
    let P : List Line → Type 0 = λ r. AreRunsOf (filter has_line later) (l ∷ r) in
    subst P (sym lines) (blank_before l (filter has_line later) rest is runs)
runs_from l (k ∷ first) later rest ls is lines full stops runs =
    (l ∷ [], rest, ap (λ r. l ∷ r) lines, and_from (is_blank_line l) true is refl, omega arith, full, stops, runs)

front_of : (ls : List Line) → Front ls (slice_split is_blank_line ls)
front_of [] = record { first = []; later = []; rest = []; are = refl; lines = refl; full = refl; stops = refl; runs = refl }
front_of (l ∷ ls) = by_kind (front_of ls) (is_blank_line l) refl
  where
    by_kind : Front ls (slice_split is_blank_line ls) → (b : Bool) → is_blank_line l ≡ b → Front (l ∷ ls) (cond b ([] ∷ slice_split is_blank_line ls) (onto_first l (slice_split is_blank_line ls)))
    by_kind f true is =
        record {
          first = [];
          later = f.first ∷ f.later;
          rest = l ∷ ls;
          are = ap (λ ps. [] ∷ ps) f.are;
          lines = refl;
          full = refl;
          stops = ap not is;
          runs = runs_from l f.first f.later f.rest ls is f.lines f.full f.stops f.runs;
        }
    by_kind f false is =
        record {
          first = l ∷ f.first;
          later = f.later;
          rest = f.rest;
          are = ap (onto_first l) f.are;
          lines = ap (λ r. l ∷ r) f.lines;
          full = and_from (not (is_blank_line l)) (list_all (λ k. not (is_blank_line k)) f.first) (ap not is) f.full;
          stops = f.stops;
          runs = f.runs;
        }

whole_runs : (first : List Line) (later : List (List Line)) (rest ls : List Line) → ls ≡ first ++ rest → list_all (λ l. not (is_blank_line l)) first ≡ true → is_run_next rest ≡ false → AreRunsOf (filter has_line later) rest → AreRunsOf (filter has_line (first ∷ later)) ls
whole_runs [] later rest ls lines full stops runs =
    let P : List Line → Type 0 = λ r. AreRunsOf (filter has_line later) r in
    subst P (sym lines) runs
whole_runs (k ∷ first) later rest ls lines full stops runs = ([], rest, lines, refl, omega arith, full, stops, runs)

pub paragraphs_are_runs : (ls : List Line) → AreRunsOf (paragraphs_of ls) ls
paragraphs_are_runs ls =
    let f = front_of ls in
    let P : List (List Line) → Type 0 = λ parts. AreRunsOf (filter has_line parts) ls in
    subst P (sym f.are) (whole_runs f.first f.later f.rest ls f.lines f.full f.stops f.runs)
