-- At most one reply to a command is right after a history.
use Rattle.std.proofs.Common.{inl, inr, ◌≡◌, ◌<◌, ◌≤◌, ◌+◌, ℕ, List, [], ◌∷◌, Bool, true, false, not, ◌&&◌, refl, ap, sym, ◌∙◌, arith, length, nat_eq}
use Rattle.std.specs.List.{list_all, list_any}
use Rattle.std.proofs.lemmas.Bool.{and_parts, or_cases, not-true}
use Rattle.lists.proofs.Sets.{list_all-has}
use Rattle.lists.specs.Sets.{has, is_subset, is_disjoint}
use Rattle.resolver_model.specs.declared.history.Command.{Command}
use Rattle.resolver_model.specs.declared.history.Command.TheVariants as command
use Rattle.resolver_model.specs.declared.history.Reply.{Reply}
use Rattle.resolver_model.specs.declared.history.Reply.TheVariants.{Solution, NoMore, NotYet, Marked, NotShown, AtFirst, RuledOut, OverCap, NoLevel, Accepted}
use Rattle.resolver_model.specs.Rules.{Rules, Cap, keeps, is_against, is_over, is_under}
use Rattle.resolver_model.specs.Histories.{History, given_at, rules_at, cursor_at}
use Rattle.resolver_model.specs.Trees.{Leaf, Situation, is_shut, is_finished, is_wanted, is_some_wanted, is_all_shut}
use Rattle.resolver_model.specs.Answers.{Setting, situation_at, IsRightAnswer, IsNextReply, IsPrevReply, IsAcceptReply, IsCapReply, delivery, delivery_count, shown_set, shown_cost}
use Rattle.resolver_model.specs.Legal.{IsShown}
use Rattle.laws_session.specs.Laws.{IsAnsweredOnce}
use Rattle.laws_session.proofs.Schedule.{IsFirst-unique, first_not_none}

-- where all leaves are shut none is wanted
pub none_wanted : (s : Situation) → is_all_shut s ≡ true → is_some_wanted s ≡ true → ⊥
none_wanted s shut some = go s.leaves shut some
  where
    go : (leaves : List Leaf) → list_all (λ (leaf : Leaf). is_shut s leaf.node) leaves ≡ true → list_any (λ (leaf : Leaf). is_wanted s leaf.node) leaves ≡ true → ⊥
    go [] h k = cc
    go (leaf ∷ leaves) h k =
        let parts = and_parts (is_shut s leaf.node) (list_all (λ (l : Leaf). is_shut s l.node) leaves) h in
        elim (or_cases (is_wanted s leaf.node) (list_any (λ (l : Leaf). is_wanted s l.node) leaves) k) as (λ _. ⊥) [
          | inl wanted ↦
              let open_leaf : is_shut s leaf.node ≡ false = not-true _ (and_parts (not (is_shut s leaf.node)) (not (is_finished s leaf.node)) (and_parts (not (is_shut s leaf.node) && not (is_finished s leaf.node)) _ wanted).0).0 in
              let f : true ≡ false = sym parts.0 ∙ open_leaf in
              cc
          | inr more ↦ go leaves parts.1 more
        ]

-- no choice is against a set that keeps the rules
not_against : (rules : Rules) (set parts : List ℕ) (c : ℕ) → keeps rules set parts ≡ true → is_against rules set c ≡ true → ⊥
not_against rules set parts c k h =
    let kept = and_parts (is_subset rules.approved set && is_disjoint rules.rejected set) _ k in
    let both = and_parts (is_subset rules.approved set) (is_disjoint rules.rejected set) kept.0 in
    elim (or_cases (has rules.rejected c && has set c) (has rules.approved c && not (has set c)) h) as (λ _. ⊥) [
      | inl bad ↦
          let two = and_parts (has rules.rejected c) (has set c) bad in
          let gone : has set c ≡ false = not-true _ (list_all-has (λ x. not (has set x)) rules.rejected c both.1 two.0) in
          let f : true ≡ false = sym two.1 ∙ gone in
          cc
      | inr bad ↦
          let two = and_parts (has rules.approved c) (not (has set c)) bad in
          let there : has set c ≡ true = list_all-has (has set) rules.approved c both.0 two.0 in
          let f : true ≡ false = sym there ∙ not-true _ two.1 in
          cc
    ]

-- no level is over its cap
not_over : (rules : Rules) (set parts : List ℕ) (level : ℕ) → keeps rules set parts ≡ true → is_over rules parts level ≡ true → ⊥
not_over rules set parts level k h = go rules.caps (and_parts (is_subset rules.approved set && is_disjoint rules.rejected set) _ k).1 h
  where
    go : (caps : List Cap) → list_all (is_under parts) caps ≡ true → list_any (λ (c : Cap). nat_eq c.0 level && not (is_under parts c)) caps ≡ true → ⊥
    go [] a b = cc
    go (c ∷ caps) a b =
        let both = and_parts (is_under parts c) (list_all (is_under parts) caps) a in
        elim (or_cases (nat_eq c.0 level && not (is_under parts c)) (list_any (λ (d : Cap). nat_eq d.0 level && not (is_under parts d)) caps) b) as (λ _. ⊥) [
          | inl here ↦ let over : is_under parts c ≡ false = not-true _ (and_parts (nat_eq c.0 level) _ here).1 in let f : true ≡ false = sym both.0 ∙ over in cc
          | inr there ↦ go caps both.1 there
        ]

next_old : (s : Setting) (history : History) (actor number : ℕ) (set : List ℕ) (answer : Reply) → IsNextReply s history actor (Solution number set false) → IsNextReply s history actor answer → Solution number set false ≡ answer
next_old s history actor number set (Solution m x false) h k =
    let n : number ≡ m = h.1 ∙ sym k.1 in
    let e : set ≡ x = h.2 ∙ ap (delivery history) n ∙ sym k.2 in
    cc (n, e)
next_old s history actor number set (Solution m x true) h k = let lt : cursor_at history < delivery_count history = h.0 in let e : cursor_at history ≡ delivery_count history = k.0 in absurd (omega (arith, lt, e))
next_old s history actor number set NoMore h k = let lt : cursor_at history < delivery_count history = h.0 in let e : cursor_at history ≡ delivery_count history = k.0 in absurd (omega (arith, lt, e))
next_old s history actor number set (NotYet steps) h k = let lt : cursor_at history < delivery_count history = h.0 in let e : cursor_at history ≡ delivery_count history = k.0 in absurd (omega (arith, lt, e))
next_old s history actor number set answer h k = absurd k

-- a reply is no "not yet" that may stand after the history
abbrev IsNoWait : Setting → History → ℕ → Reply → Type 0
IsNoWait s history actor answer = (steps : ℕ) → IsNextReply s history actor (NotYet steps) → answer ≡ NotYet steps → ⊥

next_fresh : (s : Setting) (history : History) (actor number : ℕ) (set : List ℕ) (answer : Reply) → IsNoWait s history actor answer → IsNextReply s history actor (Solution number set true) → IsNextReply s history actor answer → Solution number set true ≡ answer
next_fresh s history actor number set (Solution m x false) w h k = let lt : cursor_at history < delivery_count history = k.0 in let e : cursor_at history ≡ delivery_count history = h.0 in absurd (omega (arith, lt, e))
next_fresh s history actor number set (Solution m x true) w h k =
    let n : number ≡ m = h.1 ∙ sym k.1 in
    let e : set ≡ x = IsFirst-unique s.problem s.table (rules_at s.first_rules history) (given_at history) set x h.2 k.2 in
    cc (n, e)
next_fresh s history actor number set NoMore w h k = absurd (first_not_none s.problem s.table (rules_at s.first_rules history) (given_at history) set h.2 k.1)
next_fresh s history actor number set (NotYet steps) w h k = absurd (w steps k refl)
next_fresh s history actor number set answer w h k = absurd k

next_none : (s : Setting) (history : History) (actor : ℕ) (answer : Reply) → IsNoWait s history actor answer → IsNextReply s history actor NoMore → IsNextReply s history actor answer → NoMore ≡ answer
next_none s history actor (Solution m x false) w h k = let lt : cursor_at history < delivery_count history = k.0 in let e : cursor_at history ≡ delivery_count history = h.0 in absurd (omega (arith, lt, e))
next_none s history actor (Solution m x true) w h k = absurd (first_not_none s.problem s.table (rules_at s.first_rules history) (given_at history) x k.2 h.1)
next_none s history actor NoMore w h k = refl
next_none s history actor (NotYet steps) w h k = absurd (w steps k refl)
next_none s history actor answer w h k = absurd k

next_not_yet : (s : Setting) (history : History) (actor steps : ℕ) (answer : Reply) → IsNextReply s history actor (NotYet steps) → IsNextReply s history actor answer → IsShown s history answer → NotYet steps ≡ answer
next_not_yet s history actor steps (Solution m x false) h k v = let lt : cursor_at history < delivery_count history = k.0 in let e : cursor_at history ≡ delivery_count history = h.0 in absurd (omega (arith, lt, e))
next_not_yet s history actor steps (Solution m x true) h k v = let f : true ≡ false = sym h.2 ∙ v.0 in absurd (cc)
next_not_yet s history actor steps NoMore h k v = absurd (none_wanted (situation_at s history) v h.2)
next_not_yet s history actor steps (NotYet more) h k v = ap NotYet (h.1 ∙ sym k.1)
next_not_yet s history actor steps answer h k v = absurd k

next_one : (s : Setting) (history : History) (actor : ℕ) (reply answer : Reply) → IsNextReply s history actor reply → IsShown s history reply → IsNextReply s history actor answer → IsShown s history answer → reply ≡ answer
next_one s history actor (Solution number set false) answer h u k v = next_old s history actor number set answer h k
next_one s history actor (Solution number set true) answer h u k v = next_fresh s history actor number set answer (λ steps wait e. let f : true ≡ false = sym wait.2 ∙ u.0 in cc) h k
next_one s history actor NoMore answer h u k v = next_none s history actor answer (λ steps wait e. none_wanted (situation_at s history) u wait.2) h k
next_one s history actor (NotYet steps) answer h u k v = next_not_yet s history actor steps answer h k v
next_one s history actor reply answer h u k v = absurd h

-- whether a reply tells more than that the search goes on
abbrev pub is_no_wait : Reply → Bool
is_no_wait (NotYet steps) = false
is_no_wait reply = true

no_wait : (s : Setting) (history : History) (actor : ℕ) (answer : Reply) → is_no_wait answer ≡ true → IsNoWait s history actor answer
no_wait s history actor answer t steps wait e = let f : true ≡ false = sym t ∙ ap is_no_wait e in cc

next_told : (s : Setting) (history : History) (actor : ℕ) (reply answer : Reply) → is_no_wait reply ≡ true → is_no_wait answer ≡ true → IsNextReply s history actor reply → IsNextReply s history actor answer → reply ≡ answer
next_told s history actor (Solution number set false) answer t u h k = next_old s history actor number set answer h k
next_told s history actor (Solution number set true) answer t u h k = next_fresh s history actor number set answer (no_wait s history actor answer u) h k
next_told s history actor NoMore answer t u h k = next_none s history actor answer (no_wait s history actor answer u) h k
next_told s history actor (NotYet steps) answer t u h k = absurd (cc)
next_told s history actor reply answer t u h k = absurd h

prev_shown : (history : History) (number : ℕ) (set : List ℕ) (answer : Reply) → IsPrevReply history (Solution number set false) → IsPrevReply history answer → Solution number set false ≡ answer
prev_shown history number set (Solution m x false) h k =
    let a : number + 1 ≡ cursor_at history = h.1 in
    let b : m + 1 ≡ cursor_at history = k.1 in
    let n : number ≡ m = omega (arith, a, b) in
    let e : set ≡ x = h.2 ∙ ap (delivery history) n ∙ sym k.2 in
    cc (n, e)
prev_shown history number set AtFirst h k = let a : 2 ≤ cursor_at history = h.0 in let e : cursor_at history ≡ 1 = k in absurd (omega (arith, a, e))
prev_shown history number set NotShown h k = let a : 2 ≤ cursor_at history = h.0 in let e : cursor_at history ≡ 0 = k in absurd (omega (arith, a, e))
prev_shown history number set answer h k = absurd k

prev_first : (history : History) (answer : Reply) → IsPrevReply history AtFirst → IsPrevReply history answer → AtFirst ≡ answer
prev_first history (Solution m x false) h k = let a : 2 ≤ cursor_at history = k.0 in let e : cursor_at history ≡ 1 = h in absurd (omega (arith, a, e))
prev_first history AtFirst h k = refl
prev_first history NotShown h k = let a : cursor_at history ≡ 1 = h in let e : cursor_at history ≡ 0 = k in absurd (omega (arith, a, e))
prev_first history answer h k = absurd k

prev_none : (history : History) (answer : Reply) → IsPrevReply history NotShown → IsPrevReply history answer → NotShown ≡ answer
prev_none history (Solution m x false) h k = let a : 2 ≤ cursor_at history = k.0 in let e : cursor_at history ≡ 0 = h in absurd (omega (arith, a, e))
prev_none history AtFirst h k = let a : cursor_at history ≡ 0 = h in let e : cursor_at history ≡ 1 = k in absurd (omega (arith, a, e))
prev_none history NotShown h k = refl
prev_none history answer h k = absurd k

prev_one : (history : History) (reply answer : Reply) → IsPrevReply history reply → IsPrevReply history answer → reply ≡ answer
prev_one history (Solution number set false) answer h k = prev_shown history number set answer h k
prev_one history AtFirst answer h k = prev_first history answer h k
prev_one history NotShown answer h k = prev_none history answer h k
prev_one history reply answer h k = absurd h

accept_none : (s : Setting) (history : History) (answer : Reply) → IsAcceptReply s history NotShown → IsAcceptReply s history answer → NotShown ≡ answer
accept_none s history NotShown h k = refl
accept_none s history (RuledOut c) h k = let a : 1 ≤ cursor_at history = k.0 in let e : cursor_at history ≡ 0 = h in absurd (omega (arith, a, e))
accept_none s history (OverCap level) h k = let a : 1 ≤ cursor_at history = k.0 in let e : cursor_at history ≡ 0 = h in absurd (omega (arith, a, e))
accept_none s history Accepted h k = let a : 1 ≤ cursor_at history = k.0 in let e : cursor_at history ≡ 0 = h in absurd (omega (arith, a, e))
accept_none s history answer h k = absurd k

accept_against : (s : Setting) (history : History) (c : ℕ) (answer : Reply) → IsAcceptReply s history (RuledOut c) → IsAcceptReply s history answer → RuledOut c ≡ answer
accept_against s history c NotShown h k = let a : 1 ≤ cursor_at history = h.0 in let e : cursor_at history ≡ 0 = k in absurd (omega (arith, a, e))
accept_against s history c (RuledOut d) h k = let a : c ≤ d = h.1.least d k.1.against in let b : d ≤ c = k.1.least c h.1.against in let e : c ≡ d = omega (arith, a, b) in ap RuledOut e
accept_against s history c (OverCap level) h k = let f : true ≡ false = sym h.1.against ∙ k.1 c in absurd (cc)
accept_against s history c Accepted h k = absurd (not_against (rules_at s.first_rules history) (shown_set history) (shown_cost s history) c k.1 h.1.against)
accept_against s history c answer h k = absurd k

accept_over : (s : Setting) (history : History) (level : ℕ) (answer : Reply) → IsAcceptReply s history (OverCap level) → IsAcceptReply s history answer → OverCap level ≡ answer
accept_over s history level NotShown h k = let a : 1 ≤ cursor_at history = h.0 in let e : cursor_at history ≡ 0 = k in absurd (omega (arith, a, e))
accept_over s history level (RuledOut d) h k = let f : true ≡ false = sym k.1.against ∙ h.1 d in absurd (cc)
accept_over s history level (OverCap other) h k = let a : level ≤ other = h.2.least other k.2.over in let b : other ≤ level = k.2.least level h.2.over in let e : level ≡ other = omega (arith, a, b) in ap OverCap e
accept_over s history level Accepted h k = absurd (not_over (rules_at s.first_rules history) (shown_set history) (shown_cost s history) level k.1 h.2.over)
accept_over s history level answer h k = absurd k

accept_kept : (s : Setting) (history : History) (answer : Reply) → IsAcceptReply s history Accepted → IsAcceptReply s history answer → Accepted ≡ answer
accept_kept s history NotShown h k = let a : 1 ≤ cursor_at history = h.0 in let e : cursor_at history ≡ 0 = k in absurd (omega (arith, a, e))
accept_kept s history (RuledOut d) h k = absurd (not_against (rules_at s.first_rules history) (shown_set history) (shown_cost s history) d h.1 k.1.against)
accept_kept s history (OverCap level) h k = absurd (not_over (rules_at s.first_rules history) (shown_set history) (shown_cost s history) level h.1 k.2.over)
accept_kept s history Accepted h k = refl
accept_kept s history answer h k = absurd k

accept_one : (s : Setting) (history : History) (reply answer : Reply) → IsAcceptReply s history reply → IsAcceptReply s history answer → reply ≡ answer
accept_one s history NotShown answer h k = accept_none s history answer h k
accept_one s history (RuledOut c) answer h k = accept_against s history c answer h k
accept_one s history (OverCap level) answer h k = accept_over s history level answer h k
accept_one s history Accepted answer h k = accept_kept s history answer h k
accept_one s history reply answer h k = absurd h

cap_marked : (s : Setting) (level : ℕ) (answer : Reply) → IsCapReply s level Marked → IsCapReply s level answer → Marked ≡ answer
cap_marked s level Marked h k = refl
cap_marked s level NoLevel h k = let a : level < length s.table.levels + 1 = h in let b : length s.table.levels + 1 ≤ level = k in absurd (omega (arith, a, b))
cap_marked s level answer h k = absurd k

cap_none : (s : Setting) (level : ℕ) (answer : Reply) → IsCapReply s level NoLevel → IsCapReply s level answer → NoLevel ≡ answer
cap_none s level Marked h k = let a : level < length s.table.levels + 1 = k in let b : length s.table.levels + 1 ≤ level = h in absurd (omega (arith, a, b))
cap_none s level NoLevel h k = refl
cap_none s level answer h k = absurd k

cap_one : (s : Setting) (level : ℕ) (reply answer : Reply) → IsCapReply s level reply → IsCapReply s level answer → reply ≡ answer
cap_one s level Marked answer h k = cap_marked s level answer h k
cap_one s level NoLevel answer h k = cap_none s level answer h k
cap_one s level reply answer h k = absurd h

right_one : (s : Setting) (history : History) (actor : ℕ) (said : Command) (reply answer : Reply) → IsRightAnswer s history actor said reply → IsShown s history reply → IsRightAnswer s history actor said answer → IsShown s history answer → reply ≡ answer
right_one s history actor command.Next reply answer h u k v = next_one s history actor reply answer h u k v
right_one s history actor command.Prev reply answer h u k v = prev_one history reply answer h k
right_one s history actor (command.Reject c) reply answer h u k v = h ∙ sym k
right_one s history actor (command.Approve c) reply answer h u k v = h ∙ sym k
right_one s history actor (command.Free c) reply answer h u k v = h ∙ sym k
right_one s history actor (command.Cap level most) reply answer h u k v = cap_one s level reply answer h k
right_one s history actor command.Rules reply answer h u k v = h ∙ sym k
right_one s history actor command.Summary reply answer h u k v = h ∙ sym k
right_one s history actor command.Accept reply answer h u k v = accept_one s history reply answer h k
right_one s history actor command.Quit reply answer h u k v = h ∙ sym k
right_one s history actor (command.Bad kind) reply answer h u k v = h ∙ sym k

-- "not yet" aside, at most one reply is right, whatever the tree shows
pub told_one : (s : Setting) (history : History) (actor : ℕ) (said : Command) (reply answer : Reply) → is_no_wait reply ≡ true → is_no_wait answer ≡ true → IsRightAnswer s history actor said reply → IsRightAnswer s history actor said answer → reply ≡ answer
told_one s history actor command.Next reply answer t u h k = next_told s history actor reply answer t u h k
told_one s history actor command.Prev reply answer t u h k = prev_one history reply answer h k
told_one s history actor (command.Reject c) reply answer t u h k = h ∙ sym k
told_one s history actor (command.Approve c) reply answer t u h k = h ∙ sym k
told_one s history actor (command.Free c) reply answer t u h k = h ∙ sym k
told_one s history actor (command.Cap level most) reply answer t u h k = cap_one s level reply answer h k
told_one s history actor command.Rules reply answer t u h k = h ∙ sym k
told_one s history actor command.Summary reply answer t u h k = h ∙ sym k
told_one s history actor command.Accept reply answer t u h k = accept_one s history reply answer h k
told_one s history actor command.Quit reply answer t u h k = h ∙ sym k
told_one s history actor (command.Bad kind) reply answer t u h k = h ∙ sym k

pub IsAnsweredOnce-all : (s : Setting) → IsAnsweredOnce s
IsAnsweredOnce-all s history actor said reply answer h k = right_one s history actor said reply answer h.2 h.3 k.2 k.3
