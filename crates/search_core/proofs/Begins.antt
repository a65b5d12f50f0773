-- Rules that are made by marks and caps may begin a session.
use Rattle.std.proofs.Common.{◌≡◌, ◌<◌, ◌≤◌, ◌+◌, ℕ, List, true, not, Some, None, Option, refl, nat_lt, nat_eq, length, lt-ltb}
use Rattle.std.specs.List.{list_all}
use Rattle.lists.proofs.Tests.{list_all-filter}
use Rattle.lists.proofs.With.{list_all-with}
use Rattle.lists.specs.Sets.{without}
use Rattle.resolver_model.specs.declared.marks.Mark.{Mark}
use Rattle.resolver_model.specs.declared.marks.Mark.TheVariants.{Free, Approved, Rejected}
use Rattle.resolver_model.specs.Problems.{Problem, is_choice}
use Rattle.resolver_model.specs.Costs.{Table}
use Rattle.resolver_model.specs.Rules.{Rules, no_rules, set_mark, set_cap}
use Rattle.laws_session.proofs.Marks.{with_cap-all, without_cap-all}
use Rattle.search_core.specs.Begins.{MayBegin}

pub MayBegin-none : (p : Problem) (table : Table) (slice actors : ℕ) → 1 ≤ slice → 1 ≤ actors → MayBegin p table no_rules slice actors
MayBegin-none p table slice actors some one = record { approved = refl; rejected = refl; caps = refl; slice_is = some; actors_are = one }

fewer : (p : Problem) (set : List ℕ) (c : ℕ) → list_all (is_choice p) set ≡ true → list_all (is_choice p) (without set c) ≡ true
fewer p set c h = list_all-filter (is_choice p) (λ x. not (nat_eq x c)) set h

pub MayBegin-mark : (p : Problem) (table : Table) (rules : Rules) (slice actors c : ℕ) (mark : Mark) → MayBegin p table rules slice actors → is_choice p c ≡ true → MayBegin p table (set_mark rules c mark) slice actors
MayBegin-mark p table rules slice actors c Free m is = record { approved = fewer p rules.approved c m.approved; rejected = fewer p rules.rejected c m.rejected; caps = m.caps; slice_is = m.slice_is; actors_are = m.actors_are }
MayBegin-mark p table rules slice actors c Approved m is = record { approved = list_all-with (is_choice p) rules.approved c m.approved is; rejected = fewer p rules.rejected c m.rejected; caps = m.caps; slice_is = m.slice_is; actors_are = m.actors_are }
MayBegin-mark p table rules slice actors c Rejected m is = record { approved = fewer p rules.approved c m.approved; rejected = list_all-with (is_choice p) rules.rejected c m.rejected is; caps = m.caps; slice_is = m.slice_is; actors_are = m.actors_are }

pub MayBegin-cap : (p : Problem) (table : Table) (rules : Rules) (slice actors level : ℕ) (most : Option ℕ) → MayBegin p table rules slice actors → level < length table.levels + 1 → MayBegin p table (set_cap rules level most) slice actors
MayBegin-cap p table rules slice actors level (Some most) m low = record { approved = m.approved; rejected = m.rejected; caps = with_cap-all (λ c. nat_lt c.0 (length table.levels + 1)) rules.caps level most m.caps (lt-ltb level (length table.levels + 1) low); slice_is = m.slice_is; actors_are = m.actors_are }
MayBegin-cap p table rules slice actors level None m low = record { approved = m.approved; rejected = m.rejected; caps = without_cap-all (λ c. nat_lt c.0 (length table.levels + 1)) rules.caps level m.caps; slice_is = m.slice_is; actors_are = m.actors_are }
