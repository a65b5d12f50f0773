-- What the leaves of a legal history say of the obtainable sets.
use Rattle.std.proofs.Common.{inl, inr, ◌≡◌, ◌⊎◌, ℕ, List, [], ◌∷◌, true, false, cond, not, ◌&&◌, ◌||◌, refl, ap, sym, subst, ◌∙◌}
use Rattle.std.specs.List.{list_all, fold}
use Rattle.std.specs.declared.cmp.Ordering.{Ordering}
use Rattle.std.specs.declared.cmp.Ordering.TheVariants.{Less, Equal, Greater}
use Rattle.std.specs.Ordering.{is_le, is_lt, ordering_reverse}
use Rattle.std.proofs.lemmas.Cmp.{nat_list_cmp_total}
use Rattle.std.proofs.lemmas.Bool.{and_from, and_parts, or_cases, or_parts, cases_Bool, not-true, not-false, not_from_false, false_from_ne_true}
use Rattle.lists.proofs.Members.{Member, list_any-none, list_all-fails}
use Rattle.lists.proofs.Truth.{and_second-false}
use Rattle.lists.specs.Sets.{is_rising, is_subset, is_disjoint}
use Rattle.resolver_model.specs.declared.lines.Bound.{Bound}
use Rattle.resolver_model.specs.declared.lines.Bound.TheVariants.{Cost, Given, Impossible}
use Rattle.resolver_model.specs.declared.lines.Line.{Line}
use Rattle.resolver_model.specs.Problems.{is_solution}
use Rattle.resolver_model.specs.Costs.{cost, cost_cmp, IsUpTo}
use Rattle.resolver_model.specs.Rules.{keeps}
use Rattle.resolver_model.specs.First.{is_obtainable, IsNoneLeft}
use Rattle.resolver_model.specs.Lines.{has_delivery, agrees_with, reaches, IsSound}
use Rattle.resolver_model.specs.Trees.{Leaf, Situation, is_within, is_shut, is_finished, is_wanted, is_some_wanted, is_all_shut, key_of, raised}
use Rattle.resolver_model.specs.Histories.{History}
use Rattle.resolver_model.specs.Answers.{Setting, situation_at}
use Rattle.resolver_model.specs.Legal.{IsLegal}
use Rattle.resolver_model.proofs.SetOrder.{IsUpTo-trans, cases_set_cmp}
use Rattle.resolver_model.proofs.Soundness.{cost-subset}
use Rattle.resolver_model.proofs.Enumerations.{solution_rises}
use Rattle.resolver_model.proofs.BestFirst.{IsCovering, not_shut, key_le, finished_obtainable, IsFirst-finished}
use Rattle.laws_session.specs.Laws.{IsLeastFinished, AreLeavesTrue}
use Rattle.laws_session.proofs.Sound.{AreLinesSound-legal}
use Rattle.laws_session.proofs.Grown.{IsTree-legal}

pub IsCovering-legal : (s : Setting) (history : History) → IsLegal s history → IsCovering (situation_at s history)
IsCovering-legal s history legal =
    let t = IsTree-legal s history legal in
    record {
      cover = t.cover;
      lists = λ leaf m. ((t.lists leaf m).taken, (t.lists leaf m).consistent);
      sound = AreLinesSound-legal s history legal;
    }

-- a bound that a set reaches does not raise the key above its cost
not_raised : (s : Situation) (bound : Bound) (set : List ℕ) → has_delivery s.given set ≡ false → agrees_with s.table s.given bound set ≡ true → raised (cost s.table set) bound ≡ cost s.table set
not_raised s (Cost v) set none h =
    elim (or_cases (has_delivery s.given set) (reaches s.table (Cost v) set) h) as (λ _. raised (cost s.table set) (Cost v) ≡ cost s.table set) [
      | inl old ↦ let f : true ≡ false = sym old ∙ none in absurd (cc)
      | inr dear ↦
          let low : is_lt (cost_cmp (cost s.table set) v) ≡ false = ap is_lt (nat_list_cmp_total.antisymm (cost s.table set) v) ∙ flipped (cost_cmp v (cost s.table set)) dear in
          ap (λ b. cond b v (cost s.table set)) low
    ]
  where
    flipped : (r : Ordering) → is_le r ≡ true → is_lt (ordering_reverse r) ≡ false
    flipped Less h = refl
    flipped Equal h = refl
    flipped Greater h = absurd (cc)
not_raised s Given set none h = refl
not_raised s Impossible set none h = refl

key_still : (s : Situation) (lines : List Line) (set : List ℕ) → ((line : Line) → Member line lines → IsSound s.problem s.table s.given line) → is_solution s.problem set ≡ true → has_delivery s.given set ≡ false
    → fold (λ key (line : Line). cond (is_subset line.set set) (raised key line.bound) key) (cost s.table set) lines ≡ cost s.table set
key_still s [] set sound o none = refl
key_still s (line ∷ lines) set sound o none =
    let first : cond (is_subset line.set set) (raised (cost s.table set) line.bound) (cost s.table set) ≡ cost s.table set =
    elim (is_subset line.set set) as (λ r. is_subset line.set set ≡ r → cond r (raised (cost s.table set) line.bound) (cost s.table set) ≡ cost s.table set) [
      | true ↦ λ t. not_raised s line.bound set none (sound line (inl refl) set o t)
      | false ↦ λ _. refl
    ] refl
    in
    ap (λ from. fold (λ key (l : Line). cond (is_subset l.set set) (raised key l.bound) key) from lines) first ∙ key_still s lines set (λ l m. sound l (inr m)) o none

-- what an obtainable set is
obtainable_parts : (s : Situation) (set : List ℕ) → is_obtainable s.problem s.table s.rules s.given set ≡ true → (is_solution s.problem set ≡ true) × (has_delivery s.given set ≡ false)
obtainable_parts s set o =
    let outer = and_parts (is_solution s.problem set && keeps s.rules set (cost s.table set)) _ o in
    ((and_parts (is_solution s.problem set) _ outer.0).0, not-true _ outer.1)

-- the key of a finished leaf is its cost
pub key_finished : (s : Situation) → IsCovering s → (leaf : Leaf) → Member leaf s.leaves → is_finished s leaf.node ≡ true → key_of s leaf.node ≡ cost s.table leaf.node.taken
key_finished s c leaf m h =
    let parts = obtainable_parts s leaf.node.taken (finished_obtainable s c leaf m h) in
    key_still s s.lines leaf.node.taken c.sound parts.0 parts.1

-- an obtainable set is within a leaf that is not shut and whose key is at most its cost
pub obtainable_found : (s : Situation) → IsCovering s → (set : List ℕ) → is_obtainable s.problem s.table s.rules s.given set ≡ true
    → (leaf : Leaf) × Member leaf s.leaves × (is_within leaf.node set ≡ true) × (is_shut s leaf.node ≡ false) × (is_le (cost_cmp (key_of s leaf.node) (cost s.table set)) ≡ true)
obtainable_found s c set o =
    let parts = obtainable_parts s set o in
    let round = c.cover set parts.0 in
    let leaf = round.0 in
    let within = and_parts (is_subset leaf.node.taken set) (is_disjoint leaf.node.barred set) round.2 in
    let rises : is_rising leaf.node.taken ≡ true = (and_parts _ _ (c.lists leaf round.1).0).0 in
    let low = cost-subset s.table leaf.node.taken set rises (solution_rises s.problem set parts.0) within.0 in
    (leaf, round.1, round.2, not_shut s c leaf.node set rises round.2 o, key_le s s.lines (cost s.table leaf.node.taken) leaf.node.taken set c.sound parts.0 parts.1 within.0 low)

-- where all are shut nothing is obtainable
all_shut_member : (s : Situation) (leaves : List Leaf) (leaf : Leaf) → list_all (λ (l : Leaf). is_shut s l.node) leaves ≡ true → Member leaf leaves → is_shut s leaf.node ≡ true
all_shut_member s [] leaf h m = absurd m
all_shut_member s (l ∷ leaves) leaf h m =
    let parts = and_parts (is_shut s l.node) (list_all (λ (x : Leaf). is_shut s x.node) leaves) h in
    elim m as (λ _. is_shut s leaf.node ≡ true) [ inl e ↦ ap (λ (x : Leaf). is_shut s x.node) e ∙ parts.0 | inr k ↦ all_shut_member s leaves leaf parts.1 k ]

pub IsNoneLeft-shut : (s : Situation) → IsCovering s → is_all_shut s ≡ true → IsNoneLeft s.problem s.table s.rules s.given
IsNoneLeft-shut s c shut set =
    false_from_ne_true _ (λ o.
    let at = obtainable_found s c set o in
    let yes_shut = all_shut_member s s.leaves at.0 shut at.1 in
    let f : true ≡ false = sym yes_shut ∙ at.3 in
    cc)

-- the least of the finished leaves of a list
record IsLeastOf (s : Situation) (leaves : List Leaf) (leaf : Leaf) : Type 0 where
  member : Member leaf leaves
  finished : is_finished s leaf.node ≡ true
  least : (other : Leaf) → Member other leaves → is_finished s other.node ≡ true → IsUpTo s.table leaf.node.taken other.node.taken

least_of : (s : Situation) (leaves : List Leaf) → ((leaf : Leaf) → Member leaf leaves → is_finished s leaf.node ≡ false) ⊎ ((leaf : Leaf) × IsLeastOf s leaves leaf)
least_of s [] = inl (λ leaf m. absurd m)
least_of s (l ∷ leaves) =
    elim (cases_Bool (is_finished s l.node)) as (λ _. ((leaf : Leaf) → Member leaf (l ∷ leaves) → is_finished s leaf.node ≡ false) ⊎ ((leaf : Leaf) × IsLeastOf s (l ∷ leaves) leaf)) [
      | inl done ↦
          inr (elim (least_of s leaves) as (λ _. (leaf : Leaf) × IsLeastOf s (l ∷ leaves) leaf) [
            | inl none ↦ (
              l,
              record {
                member = inl refl;
                finished = done;
                least = λ other m h.
                    elim m as (λ _. IsUpTo s.table l.node.taken other.node.taken) [
                      | inl e ↦ inl (ap (λ (x : Leaf). x.node.taken) (sym e))
                      | inr k ↦ let f : true ≡ false = sym h ∙ none other k in absurd (cc)
                    ];
              },
            )
            | inr more ↦
                elim (cases_set_cmp s.table more.0.node.taken l.node.taken) as (λ _. (leaf : Leaf) × IsLeastOf s (l ∷ leaves) leaf) [
                  | inl before ↦ (
                    more.0,
                    record {
                      member = inr more.1.member;
                      finished = more.1.finished;
                      least = λ other m h.
                          elim m as (λ _. IsUpTo s.table more.0.node.taken other.node.taken) [
                            | inl e ↦ let P : Leaf → Type 0 = λ x. IsUpTo s.table more.0.node.taken x.node.taken in subst P (sym e) (inr before)
                            | inr k ↦ more.1.least other k h
                          ];
                    },
                  )
                  | inr upto ↦ (
                    l,
                    record {
                      member = inl refl;
                      finished = done;
                      least = λ other m h.
                          elim m as (λ _. IsUpTo s.table l.node.taken other.node.taken) [
                            | inl e ↦ inl (ap (λ (x : Leaf). x.node.taken) (sym e))
                            | inr k ↦ IsUpTo-trans s.table l.node.taken more.0.node.taken other.node.taken upto (more.1.least other k h)
                          ];
                    },
                  )
                ]
          ])
      | inr unfinished ↦
          elim (least_of s leaves) as (λ _. ((leaf : Leaf) → Member leaf (l ∷ leaves) → is_finished s leaf.node ≡ false) ⊎ ((leaf : Leaf) × IsLeastOf s (l ∷ leaves) leaf)) [
            | inl none ↦ inl (λ leaf m. elim m as (λ _. is_finished s leaf.node ≡ false) [ inl e ↦ ap (λ (x : Leaf). is_finished s x.node) e ∙ unfinished | inr k ↦ none leaf k ])
            | inr more ↦ inr (
              more.0,
              record {
                member = inr more.1.member;
                finished = more.1.finished;
                least = λ other m h.
                    elim m as (λ _. IsUpTo s.table more.0.node.taken other.node.taken) [
                      | inl e ↦ let f : true ≡ false = sym h ∙ ap (λ (x : Leaf). is_finished s x.node) e ∙ unfinished in absurd (cc)
                      | inr k ↦ more.1.least other k h
                    ];
              },
            )
          ]
    ]

pub least_finished : (s : Situation) (leaf : Leaf) → Member leaf s.leaves → is_finished s leaf.node ≡ true → (least : Leaf) × IsLeastFinished s least
least_finished s leaf m h =
    elim (least_of s s.leaves) as (λ _. (least : Leaf) × IsLeastFinished s least) [
      | inl none ↦ let f : true ≡ false = sym h ∙ none leaf m in absurd (cc)
      | inr more ↦ (more.0, record { member = more.1.member; finished = more.1.finished; least = more.1.least })
    ]

-- where no leaf is wanted, all are shut or one is finished
pub settled_leaves : (s : Situation) → is_some_wanted s ≡ false → (is_all_shut s ≡ true) ⊎ ((leaf : Leaf) × IsLeastFinished s leaf)
settled_leaves s still =
    elim (cases_Bool (is_all_shut s)) as (λ _. (is_all_shut s ≡ true) ⊎ ((leaf : Leaf) × IsLeastFinished s leaf)) [
      | inl shut ↦ inl shut
      | inr some ↦
          let open_leaf = list_all-fails (λ l. is_shut s l.node) s.leaves some in
          let leaf = open_leaf.0 in
          inr (elim (cases_Bool (is_finished s leaf.node)) as (λ _. (least : Leaf) × IsLeastFinished s least) [
            | inl done ↦ least_finished s leaf open_leaf.1 done
            | inr unfinished ↦
                let unwanted : is_wanted s leaf.node ≡ false = list_any-none (λ l. is_wanted s l.node) s.leaves leaf still open_leaf.1 in
                let free : (not (is_shut s leaf.node) && not (is_finished s leaf.node)) ≡ true = and_from _ _ (not_from_false _ open_leaf.2) (not_from_false _ unfinished) in
                let lower = list_all-fails (λ other. not (is_finished s other.node) || is_le (cost_cmp (key_of s leaf.node) (cost s.table other.node.taken))) s.leaves (and_second-false _ _ unwanted free) in
                least_finished s lower.0 lower.1 (not-false _ (or_parts (not (is_finished s lower.0.node)) _ lower.2).0)
          ])
    ]

pub AreLeavesTrue-covering : (s : Situation) → IsCovering s → AreLeavesTrue s
AreLeavesTrue-covering s c = record {
  key = key_finished s c;
  found = obtainable_found s c;
  first = λ leaf still l. IsFirst-finished s c leaf l.member l.finished still l.least;
  none = IsNoneLeft-shut s c;
  settled = settled_leaves s;
}

pub AreLeavesTrue-legal : (s : Setting) (history : History) → IsLegal s history → AreLeavesTrue (situation_at s history)
AreLeavesTrue-legal s history legal = AreLeavesTrue-covering (situation_at s history) (IsCovering-legal s history legal)
