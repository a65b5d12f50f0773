-- An answer depends on the answers before it alone, "not yet" aside.
use Rattle.std.proofs.Common.{◌≡◌, ◌<◌, ◌≤◌, ◌+◌, ◌-◌, ℕ, List, [], true, false, refl, ap, sym, subst, ◌∙◌, length}
use Rattle.std.specs.Prelude.{slice_index_or}
use Rattle.std.specs.List.{sum_by}
use Rattle.resolver_model.specs.declared.history.Command.{Command}
use Rattle.resolver_model.specs.declared.history.Command.TheVariants as command
use Rattle.resolver_model.specs.declared.history.Reply.{Reply}
use Rattle.resolver_model.specs.declared.history.Reply.TheVariants as reply_type
use Rattle.resolver_model.specs.declared.history.Reply.TheVariants.{Solution, NoMore, NotYet, NotShown, AtFirst, RuledOut, OverCap, Accepted, Summary, Marked, NoLevel}
use Rattle.resolver_model.specs.declared.history.Entry.TheVariants.{Say}
use Rattle.resolver_model.specs.Problems.{Problem}
use Rattle.resolver_model.specs.Costs.{Table, cost}
use Rattle.resolver_model.specs.Rules.{Rules, IsLeastAgainst, IsLeastOver, is_against, keeps, marks}
use Rattle.resolver_model.specs.First.{IsFirst, IsNoneLeft}
use Rattle.resolver_model.specs.Histories.{History, given_at, cursor_at, rules_at}
use Rattle.resolver_model.specs.Answers.{Setting, IsRightAnswer, IsNextReply, IsPrevReply, IsAcceptReply, IsCapReply}
use Rattle.laws_session.specs.Laws.{told, is_told, IsSameQuestion, AreFreeOfSchedule}
use Rattle.laws_session.proofs.Answers.{is_no_wait, told_one}
use Rattle.laws_session.proofs.Schedule.{given_at-told, rules_at-told, cursor_at-told}

-- what a right answer depends on, "not yet" aside
record Standing : Type 0 where
  problem : Problem
  table : Table
  rules : Rules
  given : List (List ℕ)
  cursor : ℕ

abbrev standing : Setting → History → Standing
standing s history = record { problem = s.problem; table = s.table; rules = rules_at s.first_rules history; given = given_at history; cursor = cursor_at history }

-- the set that the cursor stands at
abbrev shown_in : Standing → List ℕ
shown_in q = slice_index_or q.given (q.cursor - 1) []

standing_same : (s t : Setting) (one other : History) → t.problem ≡ s.problem → t.table ≡ s.table → rules_at t.first_rules other ≡ rules_at s.first_rules one → given_at other ≡ given_at one → cursor_at other ≡ cursor_at one → standing t other ≡ standing s one
standing_same s t one other p a r g c = cc (p, a, r, g, c)

next_moved : (s t : Setting) (one other : History) (actor mate : ℕ) (reply : Reply) → standing t other ≡ standing s one → is_no_wait reply ≡ true → IsNextReply t other mate reply → IsNextReply s one actor reply
next_moved s t one other actor mate (Solution n set false) e w h =
    let P : Standing → Type 0 = λ q. (q.cursor < length q.given) × (n ≡ q.cursor + 1) × (set ≡ slice_index_or q.given (n - 1) []) in subst P e h
next_moved s t one other actor mate (Solution n set true) e w h =
    let P : Standing → Type 0 = λ q. (q.cursor ≡ length q.given) × (n ≡ length q.given + 1) × IsFirst q.problem q.table q.rules q.given set in subst P e h
next_moved s t one other actor mate NoMore e w h =
    let P : Standing → Type 0 = λ q. (q.cursor ≡ length q.given) × IsNoneLeft q.problem q.table q.rules q.given in subst P e h
next_moved s t one other actor mate (NotYet steps) e w h = absurd (cc)
next_moved s t one other actor mate reply e w h = absurd h

prev_moved : (s t : Setting) (one other : History) (reply : Reply) → standing t other ≡ standing s one → IsPrevReply other reply → IsPrevReply one reply
prev_moved s t one other (Solution n set false) e h =
    let P : Standing → Type 0 = λ q. (2 ≤ q.cursor) × (n + 1 ≡ q.cursor) × (set ≡ slice_index_or q.given (n - 1) []) in subst P e h
prev_moved s t one other AtFirst e h = let P : Standing → Type 0 = λ q. q.cursor ≡ 1 in subst P e h
prev_moved s t one other NotShown e h = let P : Standing → Type 0 = λ q. q.cursor ≡ 0 in subst P e h
prev_moved s t one other reply e h = absurd h

accept_moved : (s t : Setting) (one other : History) (reply : Reply) → standing t other ≡ standing s one → IsAcceptReply t other reply → IsAcceptReply s one reply
accept_moved s t one other NotShown e h = let P : Standing → Type 0 = λ q. q.cursor ≡ 0 in subst P e h
accept_moved s t one other (RuledOut c) e h =
    let P : Standing → Type 0 = λ q. (1 ≤ q.cursor) × IsLeastAgainst q.rules (shown_in q) c in subst P e h
accept_moved s t one other (OverCap level) e h =
    let P : Standing → Type 0 = λ q. (1 ≤ q.cursor) × ((c : ℕ) → is_against q.rules (shown_in q) c ≡ false) × IsLeastOver q.rules (cost q.table (shown_in q)) level in subst P e h
accept_moved s t one other Accepted e h =
    let P : Standing → Type 0 = λ q. (1 ≤ q.cursor) × (keeps q.rules (shown_in q) (cost q.table (shown_in q)) ≡ true) in subst P e h
accept_moved s t one other reply e h = absurd h

cap_moved : (s t : Setting) (one other : History) (level : ℕ) (reply : Reply) → standing t other ≡ standing s one → IsCapReply t level reply → IsCapReply s level reply
cap_moved s t one other level Marked e h = let P : Standing → Type 0 = λ q. level < length q.table.levels + 1 in subst P e h
cap_moved s t one other level NoLevel e h = let P : Standing → Type 0 = λ q. length q.table.levels + 1 ≤ level in subst P e h
cap_moved s t one other level reply e h = absurd h

-- a right answer after one history is right after another where the rules, the deliveries and the cursor are the same
right_moved : (s t : Setting) (one other : History) (actor mate : ℕ) (said : Command) (reply : Reply) → standing t other ≡ standing s one → is_no_wait reply ≡ true → IsRightAnswer t other mate said reply → IsRightAnswer s one actor said reply
right_moved s t one other actor mate command.Next reply e w h = next_moved s t one other actor mate reply e w h
right_moved s t one other actor mate command.Prev reply e w h = prev_moved s t one other reply e h
right_moved s t one other actor mate (command.Reject c) reply e w h = h
right_moved s t one other actor mate (command.Approve c) reply e w h = h
right_moved s t one other actor mate (command.Free c) reply e w h = h
right_moved s t one other actor mate (command.Cap level most) reply e w h = cap_moved s t one other level reply e h
right_moved s t one other actor mate command.Rules reply e w h = let P : Standing → Type 0 = λ q. reply ≡ reply_type.Rules (marks q.rules) q.rules.caps in subst P e h
right_moved s t one other actor mate command.Summary reply e w h = let P : Standing → Type 0 = λ q. reply ≡ Summary (length q.given) (sum_by length q.given) in subst P e h
right_moved s t one other actor mate command.Accept reply e w h = accept_moved s t one other reply e h
right_moved s t one other actor mate command.Quit reply e w h = h
right_moved s t one other actor mate (command.Bad kind) reply e w h = h

no_wait_of : (actor : ℕ) (said : Command) (reply : Reply) → is_told (Say actor said reply) ≡ true → is_no_wait reply ≡ true
no_wait_of actor said (NotYet steps) h = absurd (cc)
no_wait_of actor said reply h = refl

pub AreFreeOfSchedule-all : (s t : Setting) → IsSameQuestion s t → AreFreeOfSchedule s t
AreFreeOfSchedule-all s t q one other actor mate said reply answer same h k tells tells_too =
    let g : given_at other ≡ given_at one = sym (given_at-told other) ∙ ap given_at (sym same) ∙ given_at-told one in
    let r : rules_at t.first_rules other ≡ rules_at s.first_rules one
    = ap (λ first. rules_at first other) (sym q.first_rules) ∙ sym (rules_at-told s.first_rules other) ∙ ap (rules_at s.first_rules) (sym same) ∙ rules_at-told s.first_rules one in
    let c : cursor_at other ≡ cursor_at one = sym (cursor_at-told other) ∙ ap cursor_at (sym same) ∙ cursor_at-told one in
    let e : standing t other ≡ standing s one = standing_same s t one other (sym q.problem) (sym q.table) r g c in
    told_one s one actor said reply answer (no_wait_of actor said reply tells) (no_wait_of mate said answer tells_too) h.2 (right_moved s t one other actor mate said answer e (no_wait_of mate said answer tells_too) k.2)
