-- Once no more is left, and where no rule stood, the deliveries are the minimal solutions, each once.
use Rattle.std.proofs.Common.{inl, inr, ◌≡◌, ◌≢◌, ℕ, List, [], ◌∷◌, ◌++◌, true, false, ◌&&◌, length, refl, ap, sym, subst, ◌∙◌, arith}
use Rattle.std.specs.declared.cmp.Ordering.TheVariants.{Less, Greater}
use Rattle.std.specs.Ordering.{ordering_reverse}
use Rattle.std.proofs.lemmas.Bool.{and_from, and_parts, or_cases, or_left, or_right, not_from_false, not-true, false_from_ne_true, true_from_ne_false}
use Rattle.lists.proofs.Members.{Member}
use Rattle.lists.proofs.Sublists.{sublist_from_subset, cases_sublist}
use Rattle.lists.specs.Sets.{is_rising, is_subset}
use Rattle.resolver_model.specs.declared.history.Command.{Command}
use Rattle.resolver_model.specs.declared.history.Command.TheVariants as command
use Rattle.resolver_model.specs.declared.history.Reply.TheVariants.{Solution}
use Rattle.resolver_model.specs.declared.history.Entry.{Entry}
use Rattle.resolver_model.specs.declared.history.Entry.TheVariants.{Say}
use Rattle.resolver_model.specs.Problems.{Problem, is_solution, IsMinimalSolution}
use Rattle.resolver_model.specs.Costs.{Table, cost, set_cmp, IsBefore}
use Rattle.resolver_model.specs.Rules.{Rules, no_rules, keeps}
use Rattle.resolver_model.specs.First.{is_obtainable, IsFirst, IsNoneLeft}
use Rattle.resolver_model.specs.Lines.{has_delivery}
use Rattle.resolver_model.specs.Histories.{History, given_at, rules_at}
use Rattle.resolver_model.specs.Answers.{Setting, IsRightAnswer}
use Rattle.resolver_model.specs.Enumeration.{EnumeratesMinimal}
use Rattle.resolver_model.proofs.SetOrder.{set_cmp_total}
use Rattle.resolver_model.proofs.Subsets.{IsBefore-subset}
pub use Rattle.lists.proofs.Sets.{is_subset-trans, is_subset-refl}

-- a solution's list rises
pub solution_rises : (p : Problem) (set : List ℕ) → is_solution p set ≡ true → is_rising set ≡ true
solution_rises p set h = (and_parts (is_rising set) _ (and_parts _ _ (and_parts _ _ h).0).0).0

-- a delivery within a subset is within the set
pub has_delivery-more : (given : List (List ℕ)) (a b : List ℕ) → is_subset a b ≡ true → has_delivery given a ≡ true → has_delivery given b ≡ true
has_delivery-more [] a b s h = absurd (cc)
has_delivery-more (g ∷ given) a b s h =
    elim (or_cases (is_subset g a) (has_delivery given a) h) as (λ _. has_delivery (g ∷ given) b ≡ true) [
      | inl here ↦ or_left (is_subset g b) _ (is_subset-trans g a b here s)
      | inr there ↦ or_right (is_subset g b) _ (has_delivery-more given a b s there)
    ]

pub not_both_before : (table : Table) (a b : List ℕ) → IsBefore table a b → IsBefore table b a → ⊥
not_both_before table a b h k =
    let back : set_cmp table a b ≡ ordering_reverse (set_cmp table b a) = (set_cmp_total table).antisymm a b in
    let e : Less ≡ Greater = sym h ∙ back ∙ ap ordering_reverse k in
    cc

-- without rules the first set is a minimal solution
pub IsMinimalSolution-first : (p : Problem) (table : Table) (given : List (List ℕ)) (set : List ℕ) → IsFirst p table no_rules given set → IsMinimalSolution p set
IsMinimalSolution-first p table given set first =
    let parts = and_parts (is_solution p set && keeps no_rules set (cost table set)) _ first.obtainable in
    let solution : is_solution p set ≡ true = (and_parts _ _ parts.0).0 in
    let new : has_delivery given set ≡ false = not-true _ parts.1 in
    record {
      solution = solution;
      minimal = λ other o within.
          let sub = sublist_from_subset other set (solution_rises p other o) (solution_rises p set solution) within in
          elim (cases_sublist other set sub) as (λ _. other ≡ set) [
            | inl e ↦ e
            | inr fewer ↦
                let apart : other ≢ set = λ e. let same : length other ≡ length set = ap length e in omega arith in
                let none : has_delivery given other ≡ false = false_from_ne_true _ (λ h. let there : has_delivery given set ≡ true = has_delivery-more given other set within h in cc) in
                let can : is_obtainable p table no_rules given other ≡ true = and_from (is_solution p other && keeps no_rules other (cost table other)) _ (and_from (is_solution p other) _ o refl) (not_from_false _ none) in
                absurd (not_both_before table set other (first.before other can apart) (IsBefore-subset table other set sub fewer))
          ];
    }

-- where a set is delivered
pub record IsDelivered (history : History) (set : List ℕ) : Type 0 where
  pub before : History
  pub after : History
  pub actor : ℕ
  pub said : Command
  pub number : ℕ
  pub is : history ≡ before ++ Say actor said (Solution number set true) ∷ after

later : (entry : Entry) (history : History) (set : List ℕ) → IsDelivered history set → IsDelivered (entry ∷ history) set
later entry history set d = record { before = entry ∷ d.before; after = d.after; actor = d.actor; said = d.said; number = d.number; is = ap (λ h. entry ∷ h) d.is }

pub delivered_at : (history : History) (set : List ℕ) → Member set (given_at history) → IsDelivered history set
delivered_at [] set h = absurd h
delivered_at (Say actor said (Solution number s true) ∷ history) set h =
    elim h as (λ _. IsDelivered (Say actor said (Solution number s true) ∷ history) set) [
      | inl e ↦ record { before = []; after = history; actor = actor; said = said; number = number; is = ap (λ x. Say actor said (Solution number x true) ∷ history) (sym e) }
      | inr m ↦ later (Say actor said (Solution number s true)) history set (delivered_at history set m)
    ]
delivered_at (entry ∷ history) set h = later entry history set (delivered_at history set h)

-- a right fresh solution is the first set
pub right_first : (s : Setting) (before : History) (actor : ℕ) (said : Command) (number : ℕ) (set : List ℕ) → IsRightAnswer s before actor said (Solution number set true)
    → IsFirst s.problem s.table (rules_at s.first_rules before) (given_at before) set
right_first s before actor command.Next number set h = h.2
right_first s before actor command.Prev number set h = absurd h
right_first s before actor (command.Reject c) number set h = absurd (cc)
right_first s before actor (command.Approve c) number set h = absurd (cc)
right_first s before actor (command.Free c) number set h = absurd (cc)
right_first s before actor (command.Cap level most) number set h = absurd h
right_first s before actor command.Rules number set h = absurd (cc)
right_first s before actor command.Summary number set h = absurd (cc)
right_first s before actor command.Accept number set h = absurd h
right_first s before actor command.Quit number set h = absurd (cc)
right_first s before actor (command.Bad kind) number set h = absurd (cc)

has_delivery_member : (given : List (List ℕ)) (set : List ℕ) → has_delivery given set ≡ true → (g : List ℕ) × Member g given × (is_subset g set ≡ true)
has_delivery_member [] set h = absurd (cc)
has_delivery_member (g ∷ given) set h =
    elim (or_cases (is_subset g set) (has_delivery given set) h) as (λ _. (d : List ℕ) × Member d (g ∷ given) × (is_subset d set ≡ true)) [
      | inl here ↦ (g, inl refl, here)
      | inr there ↦ let more = has_delivery_member given set there in (more.0, inr more.1, more.2)
    ]

-- a solution that is not obtainable without rules has a delivery
delivery_from_none : (p : Problem) (table : Table) (given : List (List ℕ)) (set : List ℕ) → is_solution p set ≡ true → is_obtainable p table no_rules given set ≡ false → has_delivery given set ≡ true
delivery_from_none p table given set o none =
    true_from_ne_false _ (λ no.
    let can : is_obtainable p table no_rules given set ≡ true = and_from (is_solution p set && keeps no_rules set (cost table set)) _ (and_from (is_solution p set) _ o refl) (not_from_false _ no) in
    cc)

member_delivery : (given : List (List ℕ)) (set : List ℕ) → Member set given → has_delivery given set ≡ true
member_delivery [] set h = absurd h
member_delivery (g ∷ given) set h =
    elim h as (λ _. has_delivery (g ∷ given) set ≡ true) [
      | inl e ↦ let here : is_subset g set ≡ true = rw e (is_subset-refl g) in or_left (is_subset g set) _ here
      | inr m ↦ or_right (is_subset g set) _ (member_delivery given set m)
    ]

-- a fresh set was not delivered before
new_delivery : (s : Setting) (before : History) (actor : ℕ) (said : Command) (number : ℕ) (set : List ℕ) → IsRightAnswer s before actor said (Solution number set true) → Member set (given_at before) → ⊥
new_delivery s before actor said number set h m =
    let first = right_first s before actor said number set h in
    let new : has_delivery (given_at before) set ≡ false = not-true _ (and_parts (is_solution s.problem set && keeps (rules_at s.first_rules before) set (cost s.table set)) _ first.obtainable).1 in
    let old : has_delivery (given_at before) set ≡ true = member_delivery (given_at before) set m in
    cc

-- where a set is delivered after others
pub record IsDeliveredAfter (history : History) (given : List (List ℕ)) (set : List ℕ) : Type 0 where
  pub before : History
  pub after : History
  pub actor : ℕ
  pub said : Command
  pub number : ℕ
  pub is : history ≡ before ++ Say actor said (Solution number set true) ∷ after
  pub given_is : given_at before ≡ given

pub delivered_after : (history : History) (given : List (List ℕ)) (set : List ℕ) (more : List (List ℕ)) → given_at history ≡ given ++ set ∷ more → IsDeliveredAfter history given set
delivered_after [] [] set more h = absurd (cc)
delivered_after [] (g ∷ given) set more h = absurd (cc)
delivered_after (Say actor said (Solution number s true) ∷ history) [] set more h =
    let e : s ≡ set = cc in
    record { before = []; after = history; actor = actor; said = said; number = number; is = ap (λ x. Say actor said (Solution number x true) ∷ history) e; given_is = refl }
delivered_after (Say actor said (Solution number s true) ∷ history) (g ∷ given) set more h =
    let head : s ≡ g = cc in
    let tail : given_at history ≡ given ++ set ∷ more = cc in
    let d = delivered_after history given set more tail in
    record {
      before = Say actor said (Solution number s true) ∷ d.before;
      after = d.after;
      actor = d.actor;
      said = d.said;
      number = d.number;
      is = ap (λ h. Say actor said (Solution number s true) ∷ h) d.is;
      given_is = cc (head, d.given_is);
    }
delivered_after (entry ∷ history) given set more h =
    let d = delivered_after history given set more h in
    record { before = entry ∷ d.before; after = d.after; actor = d.actor; said = d.said; number = d.number; is = ap (λ h. entry ∷ h) d.is; given_is = d.given_is }

pub enumerates_minimal : EnumeratesMinimal
enumerates_minimal s history actor right bare h =
    let delivered : (set : List ℕ) → Member set (given_at history) → IsMinimalSolution s.problem set =
    λ set m.
    let d = delivered_at history set m in
    let first = right_first s d.before d.actor d.said d.number set (right d.before (Say d.actor d.said (Solution d.number set true)) d.after d.is).2 in
    let P : Rules → Type 0 = λ r. IsFirst s.problem s.table r (given_at d.before) set in
    IsMinimalSolution-first s.problem s.table (given_at d.before) set (subst P (bare.delivered d.before d.actor d.said d.number set d.after d.is) first) in
    record {
      each = delivered;
      all = λ set minimal.
          let N : Rules → Type 0 = λ r. IsNoneLeft s.problem s.table r (given_at history) in
          let none = subst N bare.now h.1 in
          let held : has_delivery (given_at history) set ≡ true = delivery_from_none s.problem s.table (given_at history) set minimal.solution (none set) in
          let member = has_delivery_member (given_at history) set held in
          let same : member.0 ≡ set = minimal.minimal member.0 (delivered member.0 member.1).solution member.2 in
          let M : List ℕ → Type 0 = λ x. Member x (given_at history) in
          subst M same member.1;
      once = λ before set after e m.
          let d = delivered_after history before set after e in
          let G : List (List ℕ) → Type 0 = λ g. Member set g in
          new_delivery s d.before d.actor d.said d.number set (right d.before (Say d.actor d.said (Solution d.number set true)) d.after d.is).2 (subst G (sym d.given_is) m);
    }
