-- What a split that learns upwards gives, and what each step of its loop has to show.
use Rattle.std.proofs.Common.{inl, inr, ◌≡◌, ◌⊎◌, ◌<◌, ℕ, zero, suc, List, [], ◌∷◌, ◌++◌, true, false, ◌&&◌, ◌||◌, Some, None, Option, refl, ap, sym, subst, ◌∙◌, arith, length}
use Rattle.std.specs.List.{list_all}
use Rattle.std.proofs.lemmas.Bool.{and_from, and_parts, or_cases, or_left, or_right}
use Rattle.std.proofs.lemmas.List.Folds.{list_any-append}
use Rattle.lists.proofs.Members.{Member}
use Rattle.lists.proofs.Sets.{is_subset-refl, is_subset-trans}
use Rattle.lists.specs.Sets.{with, is_subset}
use Rattle.resolver_model.specs.declared.lines.Bound.{Bound}
use Rattle.resolver_model.specs.declared.lines.Bound.TheVariants.{Cost, Impossible}
use Rattle.resolver_model.specs.declared.lines.Line.{Line}
use Rattle.resolver_model.specs.declared.history.By.TheVariants.{Dep}
use Rattle.resolver_model.specs.Problems.{Problem, resolvers}
use Rattle.resolver_model.specs.Costs.{Table, cost}
use Rattle.resolver_model.specs.Lines.{is_at_most, is_bounded_by}
use Rattle.resolver_model.specs.Histories.{History, lines_at}
use Rattle.resolver_model.specs.Trees.{Tree}
use Rattle.resolver_model.specs.Births.{births_at, taken_at, parent_of, above, split_at}
use Rattle.resolver_model.specs.Learning.{IsCarried, LearnsFrom}
use Rattle.resolver_model.specs.Answers.{Setting}
use Rattle.resolver_model.proofs.Soundness.{is_at_most-trans}
use Rattle.laws_session.specs.Laws.{AreBirths, IsStrong}

-- lines whose sets are within T bound T as they bound any set
bounded_within : (lines : List Line) (set taken : List ℕ) (bound : Bound) → ((l : Line) → Member l lines → is_subset l.set taken ≡ true) → is_bounded_by lines set bound ≡ true → is_bounded_by lines taken bound ≡ true
bounded_within [] set taken bound inside h = absurd (cc)
bounded_within (line ∷ lines) set taken bound inside h =
    elim (or_cases (is_subset line.set set && is_at_most bound line.bound) (is_bounded_by lines set bound) h) as (λ _. is_bounded_by (line ∷ lines) taken bound ≡ true) [
      | inl here ↦ or_left (is_subset line.set taken && is_at_most bound line.bound) _ (and_from (is_subset line.set taken) _ (inside line (inl refl)) (and_parts (is_subset line.set set) _ here).1)
      | inr there ↦ or_right (is_subset line.set taken && is_at_most bound line.bound) _ (bounded_within lines set taken bound (λ l m. inside l (inr m)) there)
    ]

pub bounded_by-append : (lines more : List Line) (set : List ℕ) (bound : Bound) → is_bounded_by (lines ++ more) set bound ≡ (is_bounded_by lines set bound || is_bounded_by more set bound)
bounded_by-append lines more set bound = list_any-append (λ (line : Line). is_subset line.set set && is_at_most bound line.bound) lines more

-- what the resolvers lead to by all lines they lead to by the earlier ones, or a later one says so of T itself
pub by_earlier : (lines more : List Line) (taken rs : List ℕ) (bound : Bound) → ((l : Line) → Member l more → is_subset l.set taken ≡ true) → list_all (λ r. is_bounded_by (lines ++ more) (with taken r) bound) rs ≡ true
    → (list_all (λ r. is_bounded_by lines (with taken r) bound) rs ≡ true) ⊎ (is_bounded_by more taken bound ≡ true)
by_earlier lines more taken [] bound inside h = inl refl
by_earlier lines more taken (r ∷ rs) bound inside h =
    let parts = and_parts (is_bounded_by (lines ++ more) (with taken r) bound) (list_all (λ c. is_bounded_by (lines ++ more) (with taken c) bound) rs) h in
    elim (or_cases (is_bounded_by lines (with taken r) bound) (is_bounded_by more (with taken r) bound) (sym (bounded_by-append lines more (with taken r) bound) ∙ parts.0)) as
    (λ _. (list_all (λ c. is_bounded_by lines (with taken c) bound) (r ∷ rs) ≡ true) ⊎ (is_bounded_by more taken bound ≡ true)) [
      | inl old ↦
          elim (by_earlier lines more taken rs bound inside parts.1) as (λ _. (list_all (λ c. is_bounded_by lines (with taken c) bound) (r ∷ rs) ≡ true) ⊎ (is_bounded_by more taken bound ≡ true)) [
            | inl all ↦ inl (and_from (is_bounded_by lines (with taken r) bound) _ old all)
            | inr found ↦ inr found
          ]
      | inr new ↦ inr (bounded_within more (with taken r) taken bound inside new)
    ]

-- Where a line was added, the carrying is done by it, or by a later line.
pub IsCarried-added : (p : Problem) (table : Table) (lines : List Line) (line : Line) (later : List Line) (taken : List ℕ) (d : ℕ) → is_subset line.set taken ≡ true → ((l : Line) → Member l later → is_subset l.set taken ≡ true) → IsStrong p lines taken d line
    → IsCarried p table (lines ++ line ∷ later) taken d
IsCarried-added p table lines line later taken d own inside strong bound dear all =
    let each : (l : Line) → Member l (line ∷ later) → is_subset l.set taken ≡ true = λ l m. elim m as (λ _. is_subset l.set taken ≡ true) [ inl e ↦ ap (λ (x : Line). is_subset x.set taken) e ∙ own | inr k ↦ inside l k ] in
    bounded_by-append lines (line ∷ later) taken bound
    ∙ or_right (is_bounded_by lines taken bound) _
    (elim (by_earlier lines (line ∷ later) taken (resolvers p taken d) bound each all) as (λ _. is_bounded_by (line ∷ later) taken bound ≡ true) [
      | inl earlier ↦ or_left (is_subset line.set taken && is_at_most bound line.bound) _ (and_from (is_subset line.set taken) _ own (strong bound earlier))
      | inr found ↦ found
    ])

-- Where the line was not added, since its bound is no greater than the cost or than that of a line held, the carrying is done.
pub IsCarried-stopped : (p : Problem) (table : Table) (lines : List Line) (line : Line) (taken : List ℕ) (d : ℕ) → IsStrong p lines taken d line → (is_at_most line.bound (Cost (cost table taken)) ≡ true) ⊎ (is_bounded_by lines taken line.bound ≡ true)
    → IsCarried p table lines taken d
IsCarried-stopped p table lines line taken d strong stop bound dear all =
    let high = strong bound all in
    elim stop as (λ _. is_bounded_by lines taken bound ≡ true) [
      | inl cheap ↦ let low : is_at_most bound (Cost (cost table taken)) ≡ true = is_at_most-trans bound line.bound (Cost (cost table taken)) high cheap in let f : true ≡ false = sym low ∙ dear in absurd (cc)
      | inr held ↦ weaker lines bound line.bound high held
    ]
  where
    weaker : (ls : List Line) (low up : Bound) → is_at_most low up ≡ true → is_bounded_by ls taken up ≡ true → is_bounded_by ls taken low ≡ true
    weaker [] low up h k = absurd (cc)
    weaker (l ∷ ls) low up h k =
        elim (or_cases (is_subset l.set taken && is_at_most up l.bound) (is_bounded_by ls taken up) k) as (λ _. is_bounded_by (l ∷ ls) taken low ≡ true) [
          | inl here ↦ let parts = and_parts (is_subset l.set taken) _ here in or_left (is_subset l.set taken && is_at_most low l.bound) _ (and_from (is_subset l.set taken) _ parts.0 (is_at_most-trans low up l.bound h parts.1))
          | inr there ↦ or_right (is_subset l.set taken && is_at_most low l.bound) _ (weaker ls low up h there)
        ]

-- A dead end without resolvers leaves a line bounded by `Impossible`.
pub dead_end : (s : Setting) (now : History) (leaf : ℕ) (learned : List Line) (d : ℕ) → LearnsFrom s now leaf learned → split_at now leaf ≡ Some (Dep d) → resolvers s.problem (taken_at s.problem now leaf) d ≡ []
    → is_bounded_by (lines_at now) (taken_at s.problem now leaf) Impossible ≡ true
dead_end s now leaf learned d h split none =
    let all : list_all (λ r. is_bounded_by (lines_at now) (with (taken_at s.problem now leaf) r) Impossible) (resolvers s.problem (taken_at s.problem now leaf) d) ≡ true = ap (list_all (λ r. is_bounded_by (lines_at now) (with (taken_at s.problem now leaf) r) Impossible)) none in
    h.carried 0 leaf d (omega arith) refl split Impossible refl all

-- a leaf above one is a leaf that there was, and takes no more
pub above_takes : (p : Problem) (tree : Tree) (history : History) (leaf splits high : ℕ) → AreBirths p tree (births_at p history) → leaf < length (births_at p history) → above p history leaf splits ≡ Some high
    → (high < length (births_at p history)) × (is_subset (taken_at p history high) (taken_at p history leaf) ≡ true)
above_takes p tree history leaf zero high b lt e =
    let same : leaf ≡ high = cc in
    (subst (λ n. n < length (births_at p history)) same lt, ap (λ n. is_subset (taken_at p history n) (taken_at p history leaf)) (sym same) ∙ is_subset-refl (taken_at p history leaf))
above_takes p tree history leaf (suc splits) high b lt e =
    elim (above p history leaf splits) as (λ (r : Option ℕ). above p history leaf splits ≡ r → parent_of p history r ≡ Some high → (high < length (births_at p history)) × (is_subset (taken_at p history high) (taken_at p history leaf) ≡ true)) [
      | None ↦ λ _ k. absurd (cc)
      | Some mid ↦ λ f k.
          let more = above_takes p tree history leaf splits mid b lt f in
          let up = b.parents mid high more.0 k in
          let low : mid < length (births_at p history) = more.0 in
          let less : high < mid = up.0 in
          (omega (arith, low, less), is_subset-trans (taken_at p history high) (taken_at p history mid) (taken_at p history leaf) up.1 more.1)
    ] refl e
