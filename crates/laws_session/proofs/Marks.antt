-- The rules of a legal history mark choices of the problem alone, none of them both ways, and cap levels of its costs alone.
use Rattle.std.proofs.Common.{◌≡◌, ◌<◌, ◌+◌, ℕ, List, [], ◌∷◌, Bool, true, false, cond, not, Some, None, Option, refl, sym, subst, nat_lt, nat_eq, length, lt-ltb}
use Rattle.std.specs.List.{list_all}
use Rattle.std.proofs.lemmas.Bool.{and_from, and_parts, not_from_false}
use Rattle.lists.proofs.Sets.{is_rising-filter}
use Rattle.lists.proofs.Tests.{list_all-filter}
use Rattle.lists.proofs.With.{list_all-with, is_disjoint-with, has-without_own, is_disjoint-without_first, is_disjoint-without_second}
use Rattle.lists.specs.Sets.{is_rising, has, without}
use Rattle.resolver_model.specs.declared.history.Command.{Command}
use Rattle.resolver_model.specs.declared.history.Command.TheVariants as command
use Rattle.resolver_model.specs.declared.history.Reply.{Reply}
use Rattle.resolver_model.specs.declared.history.Reply.TheVariants.{Marked}
use Rattle.resolver_model.specs.declared.history.Entry.{Entry}
use Rattle.resolver_model.specs.declared.history.Entry.TheVariants.{Say, Take, Put, Back}
use Rattle.resolver_model.specs.declared.marks.Mark.{Mark}
use Rattle.resolver_model.specs.declared.marks.Mark.TheVariants.{Free, Approved, Rejected}
use Rattle.resolver_model.specs.Problems.{Problem, is_choice, is_choice_set}
use Rattle.resolver_model.specs.Rules.{Rules, Cap, cap, set_mark, set_cap, with_cap, without_cap}
use Rattle.resolver_model.specs.Histories.{History, rules_at, rules_after, rules_after_reply, marked}
use Rattle.resolver_model.specs.Answers.{Setting, NamesChoice, IsRightAnswer}
use Rattle.resolver_model.specs.Legal.{IsSetting, Follows, IsLegal}
use Rattle.laws_session.specs.Laws.{AreRulesFor}
use Rattle.laws_session.proofs.Nodes.{is_choice_set-with}
use Rattle.laws_session.proofs.Longer.{legal_induction}
use Rattle.laws_session.proofs.Effects.{rules_at-more}

choice_set-without : (p : Problem) (set : List ℕ) (c : ℕ) → is_choice_set p set ≡ true → is_choice_set p (without set c) ≡ true
choice_set-without p set c h =
    let parts = and_parts (is_rising set) (list_all (is_choice p) set) h in
    and_from (is_rising (without set c)) _ (is_rising-filter (λ x. not (nat_eq x c)) set parts.0) (list_all-filter (is_choice p) (λ x. not (nat_eq x c)) set parts.1)

mark_step : (s : Setting) (rules : Rules) (c : ℕ) (mark : Mark) → is_choice s.problem c ≡ true → AreRulesFor s rules → AreRulesFor s (set_mark rules c mark)
mark_step s rules c Free is r = record {
  approved = choice_set-without s.problem rules.approved c r.approved;
  rejected = choice_set-without s.problem rules.rejected c r.rejected;
  apart = is_disjoint-without_first rules.approved (without rules.rejected c) c (is_disjoint-without_second rules.approved rules.rejected c r.apart);
  caps = r.caps;
}
mark_step s rules c Approved is r = record {
  approved = is_choice_set-with s.problem rules.approved c r.approved is;
  rejected = choice_set-without s.problem rules.rejected c r.rejected;
  apart = list_all-with (λ x. not (has (without rules.rejected c) x)) rules.approved c (is_disjoint-without_second rules.approved rules.rejected c r.apart) (not_from_false _ (has-without_own rules.rejected c));
  caps = r.caps;
}
mark_step s rules c Rejected is r = record {
  approved = choice_set-without s.problem rules.approved c r.approved;
  rejected = is_choice_set-with s.problem rules.rejected c r.rejected is;
  apart = is_disjoint-with (without rules.approved c) rules.rejected c (is_disjoint-without_first rules.approved rules.rejected c r.apart) (has-without_own rules.approved c);
  caps = r.caps;
}

pub with_cap-all : (f : Cap → Bool) (caps : List Cap) (level most : ℕ) → list_all f caps ≡ true → f (cap level most) ≡ true → list_all f (with_cap caps level most) ≡ true
with_cap-all f [] level most h k = and_from (f (cap level most)) true k refl
with_cap-all f (c ∷ caps) level most h k =
    let parts = and_parts (f c) (list_all f caps) h in
    elim (nat_lt c.0 level) as (λ r. list_all f (cond r (c ∷ with_cap caps level most) (cap level most ∷ cond (nat_eq c.0 level) caps (c ∷ caps))) ≡ true) [
      | true ↦ and_from (f c) _ parts.0 (with_cap-all f caps level most parts.1 k)
      | false ↦ elim (nat_eq c.0 level) as (λ r. list_all f (cap level most ∷ cond r caps (c ∷ caps)) ≡ true) [ true ↦ and_from (f (cap level most)) _ k parts.1 | false ↦ and_from (f (cap level most)) _ k h ]
    ]

pub without_cap-all : (f : Cap → Bool) (caps : List Cap) (level : ℕ) → list_all f caps ≡ true → list_all f (without_cap caps level) ≡ true
without_cap-all f [] level h = refl
without_cap-all f (c ∷ caps) level h =
    let parts = and_parts (f c) (list_all f caps) h in
    elim (not (nat_eq c.0 level)) as (λ r. list_all f (cond r (c ∷ without_cap caps level) (without_cap caps level)) ≡ true) [
      | true ↦ and_from (f c) _ parts.0 (without_cap-all f caps level parts.1)
      | false ↦ without_cap-all f caps level parts.1
    ]

cap_step : (s : Setting) (rules : Rules) (level : ℕ) (most : Option ℕ) → level < length s.table.levels + 1 → AreRulesFor s rules → AreRulesFor s (set_cap rules level most)
cap_step s rules level (Some most) lt r = record { approved = r.approved; rejected = r.rejected; apart = r.apart; caps = with_cap-all (λ c. nat_lt c.0 (length s.table.levels + 1)) rules.caps level most r.caps (lt-ltb level (length s.table.levels + 1) lt) }
cap_step s rules level None lt r = record { approved = r.approved; rejected = r.rejected; apart = r.apart; caps = without_cap-all (λ c. nat_lt c.0 (length s.table.levels + 1)) rules.caps level r.caps }

marked_step : (s : Setting) (history : History) (actor : ℕ) (said : Command) (rules : Rules) → NamesChoice s.problem said → IsRightAnswer s history actor said Marked → AreRulesFor s rules → AreRulesFor s (marked rules said)
marked_step s history actor (command.Reject c) rules is h r = mark_step s rules c Rejected is r
marked_step s history actor (command.Approve c) rules is h r = mark_step s rules c Approved is r
marked_step s history actor (command.Free c) rules is h r = mark_step s rules c Free is r
marked_step s history actor (command.Cap level most) rules is h r = cap_step s rules level most h r
marked_step s history actor said rules is h r = r

said_step : (s : Setting) (history : History) (actor : ℕ) (said : Command) (reply : Reply) (rules : Rules) → NamesChoice s.problem said → IsRightAnswer s history actor said reply → AreRulesFor s rules → AreRulesFor s (rules_after_reply rules said reply)
said_step s history actor said Marked rules is h r = marked_step s history actor said rules is h r
said_step s history actor said reply rules is h r = r

step_of : (s : Setting) (history : History) (entry : Entry) → Follows s history entry → AreRulesFor s (rules_at s.first_rules history) → AreRulesFor s (rules_after (rules_at s.first_rules history) entry)
step_of s history (Say actor said reply) next r = said_step s history actor said reply (rules_at s.first_rules history) next.1 next.2 r
step_of s history (Take actor leaf) next r = r
step_of s history (Put actor leaf by learned) next r = r
step_of s history (Back actor leaf) next r = r

pub AreRulesFor-legal : (s : Setting) → IsSetting s → (history : History) → IsLegal s history → AreRulesFor s (rules_at s.first_rules history)
AreRulesFor-legal s is history legal =
    legal_induction s (λ h. AreRulesFor s (rules_at s.first_rules h)) (record { approved = is.approved; rejected = is.rejected; apart = is.apart; caps = is.caps })
    (λ before entry _ next r. let P : Rules → Type 0 = λ x. AreRulesFor s x in subst P (sym (rules_at-more s.first_rules before entry)) (step_of s before entry next r)) history legal

-- A freed choice has no mark.
pub freed_both : (rules : Rules) (c : ℕ) → (has (set_mark rules c Free).rejected c ≡ false) × (has (set_mark rules c Free).approved c ≡ false)
freed_both rules c = (has-without_own rules.rejected c, has-without_own rules.approved c)
