-- Learning upwards, a line at a time: from the leaf that is split, to the leaf that it was split from, and so on.
use Rattle.std.proofs.Common.{inl, inr, ◌≡◌, ◌<◌, ◌+◌, ◌-◌, ℕ, zero, suc, List, [], ◌∷◌, ◌++◌, ◌||◌, true, Some, None, Option, refl, ap, sym, subst, ◌∙◌, arith, length, length-append, append_assoc, append-nil}
use Rattle.std.proofs.lemmas.Bool.{or_left, or_right}
use Rattle.lists.proofs.Members.{Member}
use Rattle.lists.proofs.Sets.{is_subset-trans}
use Rattle.lists.specs.Sets.{is_subset}
use Rattle.resolver_model.specs.declared.lines.Line.{Line}
use Rattle.resolver_model.specs.declared.history.By.{By}
use Rattle.resolver_model.specs.declared.history.By.TheVariants.{Dep}
use Rattle.resolver_model.specs.declared.history.Entry.TheVariants.{Put}
use Rattle.resolver_model.specs.Problems.{Problem, resolvers}
use Rattle.resolver_model.specs.Costs.{Table}
use Rattle.resolver_model.specs.Lines.{is_bounded_by, is_derived}
use Rattle.resolver_model.specs.Histories.{History, given_line, given_at, lines_at}
use Rattle.resolver_model.specs.Births.{Birth, births_at, taken_at, parent_of, above}
use Rattle.resolver_model.specs.Learning.{line_at, IsCarried, LearnsFrom}
use Rattle.resolver_model.specs.Trees.{tree_at}
use Rattle.resolver_model.specs.Answers.{Setting}
use Rattle.resolver_model.specs.Legal.{AreDerived, IsLegal}
use Rattle.laws_session.specs.Laws.{AreBirths, IsStrong}
use Rattle.laws_session.specs.Climbs.{way_of, IsClimb, IsCarriedNext}
use Rattle.laws_session.proofs.Births.{split_at-more, get_or-left, get_or-right, AreBirths-legal, below_or}
use Rattle.laws_session.proofs.Effects.{lines_at-put}
use Rattle.laws_session.proofs.Learning.{IsCarried-added, by_earlier, bounded_by-append, above_takes}
use Rattle.laws_session.proofs.Opened.{birth-kept}

-- derived lines with one more
pub AreDerived-more : (p : Problem) (table : Table) (lines : List Line) (given : List (List ℕ)) (learned : List Line) (line : Line) → AreDerived p table lines given learned → is_derived p table (lines ++ learned) given line ≡ true → AreDerived p table lines given (learned ++ line ∷ [])
AreDerived-more p table lines given [] line d h = (ap (λ ls. is_derived p table ls given line) (sym (append-nil lines)) ∙ h, tt)
AreDerived-more p table lines given (l ∷ learned) line d h =
    (d.0, AreDerived-more p table (lines ++ l ∷ []) given learned line d.1 (ap (λ ls. is_derived p table ls given line) (append_assoc lines (l ∷ []) learned) ∙ h))

-- what is carried stays so with one more line within the taken list
pub IsCarried-later : (p : Problem) (table : Table) (lines : List Line) (line : Line) (taken : List ℕ) (d : ℕ) → IsCarried p table lines taken d → is_subset line.set taken ≡ true → IsCarried p table (lines ++ line ∷ []) taken d
IsCarried-later p table lines line taken d carried own bound dear all =
    let each : (l : Line) → Member l (line ∷ []) → is_subset l.set taken ≡ true = λ l m. elim m as (λ _. is_subset l.set taken ≡ true) [ inl e ↦ ap (λ (x : Line). is_subset x.set taken) e ∙ own | inr nothing ↦ absurd nothing ] in
    bounded_by-append lines (line ∷ []) taken bound
    ∙ elim (by_earlier lines (line ∷ []) taken (resolvers p taken d) bound each all) as (λ _. (is_bounded_by lines taken bound || is_bounded_by (line ∷ []) taken bound) ≡ true) [
      | inl earlier ↦ or_left (is_bounded_by lines taken bound) _ (carried bound dear earlier)
      | inr found ↦ or_right (is_bounded_by lines taken bound) _ found
    ]

-- the leaves above a leaf, of which the nearer ones take what the farther ones take
pub above_within : (p : Problem) (history : History) (leaf i j low high : ℕ) → AreBirths p (tree_at p history) (births_at p history) → leaf < length (births_at p history) → above p history leaf i ≡ Some low → above p history leaf (i + j) ≡ Some high
    → is_subset (taken_at p history high) (taken_at p history low) ≡ true
above_within p history leaf i j low high b lt e f =
    let at = above_takes p (tree_at p history) history leaf i low b lt e in
    (above_takes p (tree_at p history) history low j high b at.0 (sym (above_sum p history leaf i j low e) ∙ f)).1
  where
    above_sum : (q : Problem) (h : History) (n k m mid : ℕ) → above q h n k ≡ Some mid → above q h n (k + m) ≡ above q h mid m
    above_sum q h n k zero mid g = let z : k + 0 ≡ k = omega arith in ap (above q h n) z ∙ g
    above_sum q h n k (suc m) mid g = let z : k + suc m ≡ suc (k + m) = omega arith in ap (above q h n) z ∙ ap (parent_of q h) (above_sum q h n k m mid g)

-- the line at a place, of lines with one more
line_old : (lines : List Line) (line : Line) (i : ℕ) → i < length lines → line_at (lines ++ line ∷ []) i ≡ line_at lines i
line_old lines line i lt = get_or-left lines (line ∷ []) i (given_line []) lt

line_new : (lines : List Line) (line : Line) (i : ℕ) → i ≡ length lines → line_at (lines ++ line ∷ []) i ≡ line
line_new lines line i e = get_or-right lines (line ∷ []) 0 i (given_line []) (omega (arith, e))

-- One line more, at the leaf that is so many splits above as there are lines.
pub IsClimb-more : (s : Setting) (history : History) (leaf : ℕ) (by : By) (lines : List Line) (node d : ℕ) (line : Line) → IsLegal s history → leaf < length (births_at s.problem history) → IsClimb s history leaf by lines → above s.problem history leaf (length lines) ≡ Some node
    → way_of history leaf by node ≡ Some (Dep d) → is_subset line.set (taken_at s.problem history node) ≡ true → is_derived s.problem s.table (lines_at history ++ lines) (given_at history) line ≡ true → IsStrong s.problem (lines_at history ++ lines) (taken_at s.problem history node) d line
    → IsClimb s history leaf by (lines ++ line ∷ [])
IsClimb-more s history leaf by lines node d line legal low c at way within derived strong =
    let p = s.problem in
    let b = AreBirths-legal s history legal in
    let size : length (lines ++ line ∷ []) ≡ length lines + 1 = length-append lines (line ∷ []) in
    let whole : (lines_at history ++ lines) ++ line ∷ [] ≡ lines_at history ++ (lines ++ line ∷ []) = append_assoc (lines_at history) lines (line ∷ []) in
    record {
      derived = AreDerived-more p s.table (lines_at history) (given_at history) lines line c.derived derived;
      places = λ i lt.
          elim (below_or i (length lines)) as (λ _. (n : ℕ) × (above p history leaf i ≡ Some n) × (is_subset (line_at (lines ++ line ∷ []) i).set (taken_at p history n) ≡ true)) [
            | inl before ↦ let old = c.places i before in (old.0, old.1, ap (λ (l : Line). is_subset l.set (taken_at p history old.0)) (line_old lines line i before) ∙ old.2)
            | inr after ↦
                let e : i ≡ length lines + after.0 = after.1 in
                let same : i ≡ length lines = omega (arith, lt, size, e) in
                (node, ap (above p history leaf) same ∙ at, ap (λ (l : Line). is_subset l.set (taken_at p history node)) (line_new lines line i same) ∙ within)
          ];
      carried = λ i n e lt up split.
          let K : List Line → Type 0 = λ known. IsCarried p s.table known (taken_at p history n) e in
          elim (below_or i (length lines)) as (λ _. IsCarried p s.table (lines_at history ++ (lines ++ line ∷ [])) (taken_at p history n) e) [
            | inl before ↦
                let rest : (j : ℕ) × (length lines ≡ i + j) = gap i (length lines) before in
                let inside = above_within p history leaf i rest.0 n node b low up (ap (above p history leaf) (sym rest.1) ∙ at) in
                let own : is_subset line.set (taken_at p history n) ≡ true = is_subset-trans line.set (taken_at p history node) (taken_at p history n) within inside in
                subst K whole (IsCarried-later p s.table (lines_at history ++ lines) line (taken_at p history n) e (c.carried i n e before up split) own)
            | inr after ↦
                let place : i ≡ length lines + after.0 = after.1 in
                let same : i ≡ length lines = omega (arith, lt, size, place) in
                let there : Some n ≡ Some node = sym up ∙ ap (above p history leaf) same ∙ at in
                let is : n ≡ node = cc in
                let ways : Some (Dep e) ≡ Some (Dep d) = sym split ∙ ap (way_of history leaf by) is ∙ way in
                let dep : e ≡ d = cc in
                let N : ℕ → Type 0 = λ m. IsCarried p s.table (lines_at history ++ (lines ++ line ∷ [])) (taken_at p history m) e in
                let D : ℕ → Type 0 = λ x. IsCarried p s.table (lines_at history ++ (lines ++ line ∷ [])) (taken_at p history node) x in
                let L : List Line → Type 0 = λ known. IsCarried p s.table known (taken_at p history node) d in
                subst N (sym is) (subst D (sym dep) (subst L whole (IsCarried-added p s.table (lines_at history ++ lines) line [] (taken_at p history node) d within (λ l m. absurd m) strong)))
          ];
    }
  where
    gap : (i n : ℕ) → i < n → (j : ℕ) × (n ≡ i + j)
    gap i n lt = (n - i, omega (arith, lt))

-- the leaf, and those above it, are as they were before its split
above_kept : (s : Setting) (history : History) (actor leaf : ℕ) (by : By) (lines : List Line) (i : ℕ) → IsLegal s history → leaf < length (births_at s.problem history)
    → above s.problem (history ++ Put actor leaf by lines ∷ []) leaf i ≡ above s.problem history leaf i
above_kept s history actor leaf by lines zero legal low = refl
above_kept s history actor leaf by lines (suc i) legal low =
    let entry = Put actor leaf by lines in
    elim (above s.problem history leaf i) as (λ (r : Option ℕ). above s.problem history leaf i ≡ r → parent_of s.problem (history ++ entry ∷ []) (above s.problem (history ++ entry ∷ []) leaf i) ≡ parent_of s.problem history (above s.problem history leaf i)) [
      | None ↦ λ e. ap (parent_of s.problem (history ++ entry ∷ [])) (above_kept s history actor leaf by lines i legal low ∙ e) ∙ sym (ap (parent_of s.problem history) e)
      | Some n ↦ λ e.
          let at = above_takes s.problem (tree_at s.problem history) history leaf i n (AreBirths-legal s history legal) low e in
          ap (parent_of s.problem (history ++ entry ∷ [])) (above_kept s history actor leaf by lines i legal low ∙ e) ∙ ap (λ (x : Birth). x.parent) (birth-kept s.problem history entry n at.0) ∙ sym (ap (parent_of s.problem history) e)
    ] refl

taken_kept : (s : Setting) (history : History) (actor leaf : ℕ) (by : By) (lines : List Line) (i n : ℕ) → IsLegal s history → leaf < length (births_at s.problem history) → above s.problem history leaf i ≡ Some n
    → taken_at s.problem (history ++ Put actor leaf by lines ∷ []) n ≡ taken_at s.problem history n
taken_kept s history actor leaf by lines i n legal low e =
    let at = above_takes s.problem (tree_at s.problem history) history leaf i n (AreBirths-legal s history legal) low e in
    ap (λ (x : Birth). x.node.taken) (birth-kept s.problem history (Put actor leaf by lines) n at.0)

-- A climb that is at its end learns what a split has to learn.
pub LearnsFrom-climb : (s : Setting) (history : History) (actor leaf : ℕ) (by : By) (lines : List Line) → IsLegal s history → leaf < length (births_at s.problem history) → IsClimb s history leaf by lines → IsCarriedNext s history leaf by lines
    → LearnsFrom s (history ++ Put actor leaf by lines ∷ []) leaf lines
LearnsFrom-climb s history actor leaf by lines legal low c last =
    let p = s.problem in
    let now = history ++ Put actor leaf by lines ∷ [] in
    record {
      places = λ i lt.
          let old = c.places i lt in
          (old.0, above_kept s history actor leaf by lines i legal low ∙ old.1, ap (is_subset (line_at lines i).set) (taken_kept s history actor leaf by lines i old.0 legal low old.1) ∙ old.2);
      carried = λ i n d le up split.
          let was : above p history leaf i ≡ Some n = sym (above_kept s history actor leaf by lines i legal low) ∙ up in
          let way : way_of history leaf by n ≡ Some (Dep d) = sym (split_at-more history (Put actor leaf by lines) n) ∙ split in
          let T : List ℕ → Type 0 = λ taken. IsCarried p s.table (lines_at now) taken d in
          let L : List Line → Type 0 = λ known. IsCarried p s.table known (taken_at p history n) d in
          let own : IsCarried p s.table (lines_at history ++ lines) (taken_at p history n) d =
          elim (below_or i (length lines)) as (λ _. IsCarried p s.table (lines_at history ++ lines) (taken_at p history n) d) [
            | inl before ↦ c.carried i n d before was way
            | inr after ↦ let e : i ≡ length lines + after.0 = after.1 in let same : i ≡ length lines = omega (arith, le, e) in last n d (ap (above p history leaf) (sym same) ∙ was) way
          ]
          in
          subst T (sym (taken_kept s history actor leaf by lines i n legal low was)) (subst L (sym (lines_at-put history actor leaf by lines)) own);
    }
