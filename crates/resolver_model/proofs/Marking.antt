-- What a mark leaves of rules: they stay well formed, and the marked choices stay choices. What a session may be made for.
use Rattle.std.proofs.Common.{◌≡◌, ◌≤◌, ◌+◌, ℕ, Bool, true, not, refl, nat_lt, nat_eq, length, arith}
use Rattle.std.specs.List.{list_all}
use Rattle.std.proofs.lemmas.Bool.{and_from, not_from_false}
use Rattle.lists.specs.Sets.{is_rising, has, without}
use Rattle.lists.proofs.Tests.{list_all-filter}
use Rattle.lists.proofs.Sets.{is_rising-filter}
use Rattle.lists.proofs.With.{is_rising-with, list_all-with, is_disjoint-with, has-without_own, is_disjoint-without_first, is_disjoint-without_second}
use Rattle.resolver_model.specs.declared.marks.Mark.{Mark}
use Rattle.resolver_model.specs.declared.marks.Mark.TheVariants.{Free, Approved, Rejected}
use Rattle.resolver_model.specs.Problems.{IsWellFormed, is_choice, version_count, dependency_count}
use Rattle.resolver_model.specs.Rules.{Rules, AreWellFormed, no_rules, set_mark}
use Rattle.resolver_model.specs.Answers.{Setting}
use Rattle.resolver_model.specs.Legal.{IsSetting}

pub AreWellFormed-none : AreWellFormed no_rules
AreWellFormed-none = record { approved = refl; rejected = refl; apart = refl; caps = λ i j lt within. absurd (omega arith) }

pub AreWellFormed-set_mark : (rules : Rules) (c : ℕ) (mark : Mark) → AreWellFormed rules → AreWellFormed (set_mark rules c mark)
AreWellFormed-set_mark rules c Free r = record {
  approved = is_rising-filter (λ x. not (nat_eq x c)) rules.approved r.approved;
  rejected = is_rising-filter (λ x. not (nat_eq x c)) rules.rejected r.rejected;
  apart = is_disjoint-without_first rules.approved (without rules.rejected c) c (is_disjoint-without_second rules.approved rules.rejected c r.apart);
  caps = r.caps;
}
AreWellFormed-set_mark rules c Approved r = record {
  approved = is_rising-with rules.approved c r.approved;
  rejected = is_rising-filter (λ x. not (nat_eq x c)) rules.rejected r.rejected;
  apart = list_all-with (λ x. not (has (without rules.rejected c) x)) rules.approved c (is_disjoint-without_second rules.approved rules.rejected c r.apart) (not_from_false _ (has-without_own rules.rejected c));
  caps = r.caps;
}
AreWellFormed-set_mark rules c Rejected r = record {
  approved = is_rising-filter (λ x. not (nat_eq x c)) rules.approved r.approved;
  rejected = is_rising-with rules.rejected c r.rejected;
  apart = is_disjoint-with (without rules.approved c) rules.rejected c (is_disjoint-without_first rules.approved rules.rejected c r.apart) (has-without_own rules.approved c);
  caps = r.caps;
}

-- the marked choices pass a test that they and the new one passed
pub list_all-set_mark : (p : ℕ → Bool) (rules : Rules) (c : ℕ) (mark : Mark) → p c ≡ true → (list_all p rules.approved ≡ true) × (list_all p rules.rejected ≡ true)
    → (list_all p (set_mark rules c mark).approved ≡ true) × (list_all p (set_mark rules c mark).rejected ≡ true)
list_all-set_mark p rules c Free h all = (list_all-filter p (λ x. not (nat_eq x c)) rules.approved all.0, list_all-filter p (λ x. not (nat_eq x c)) rules.rejected all.1)
list_all-set_mark p rules c Approved h all = (list_all-with p rules.approved c all.0 h, list_all-filter p (λ x. not (nat_eq x c)) rules.rejected all.1)
list_all-set_mark p rules c Rejected h all = (list_all-filter p (λ x. not (nat_eq x c)) rules.approved all.0, list_all-with p rules.rejected c all.1 h)

-- A session may be made for well formed rules over a problem and its table whose marks are on choices and whose caps are on levels.
pub IsSetting-from_rules : (s : Setting) → IsWellFormed s.problem → s.table.choices ≡ version_count s.problem + dependency_count s.problem → AreWellFormed s.first_rules
    → list_all (is_choice s.problem) s.first_rules.approved ≡ true → list_all (is_choice s.problem) s.first_rules.rejected ≡ true → list_all (λ c. nat_lt c.0 (length s.table.levels + 1)) s.first_rules.caps ≡ true
    → 1 ≤ s.slice → 1 ≤ s.actors → IsSetting s
IsSetting-from_rules s problem table rules approved rejected caps slice actors = record {
  problem = problem;
  table = table;
  approved = and_from (is_rising s.first_rules.approved) _ rules.approved approved;
  rejected = and_from (is_rising s.first_rules.rejected) _ rules.rejected rejected;
  apart = rules.apart;
  caps = caps;
  slice = slice;
  actors = actors;
}
