-- What a history says of the rules, the deliveries, the cursor, the jobs and the lines at its end.
use Rattle.std.specs.Prelude.{ℕ, ◌+◌, true, List, [], ◌∷◌, ◌==◌, Option, Some, None, if◌then◌else◌}
use Rattle.std.specs.Option.{unwrap_or}
use Rattle.std.specs.List.{fold, filter_map, flat_map}
use Rattle.resolver_model.specs.declared.marks.Mark.TheVariants as mark
use Rattle.resolver_model.specs.declared.lines.Bound.TheVariants as bound
use Rattle.resolver_model.specs.declared.lines.Line.{Line}
use Rattle.resolver_model.specs.declared.history.Command.{Command}
use Rattle.resolver_model.specs.declared.history.Command.TheVariants.{Reject, Approve, Free, Cap}
use Rattle.resolver_model.specs.declared.history.Reply.{Reply}
use Rattle.resolver_model.specs.declared.history.Reply.TheVariants.{Solution, Marked}
use Rattle.resolver_model.specs.declared.history.Entry.{Entry}
use Rattle.resolver_model.specs.declared.history.Entry.TheVariants.{Say, Take, Put, Back}
use Rattle.resolver_model.specs.Rules.{Rules, set_mark, set_cap}

-- the entries, the oldest first
abbrev pub History : Type 0
History = List Entry

-- the set of a fresh solution
abbrev pub delivered : Reply → Option (List ℕ)
delivered (Solution number set fresh) = if fresh then Some set else None
delivered _ = None

abbrev pub delivery_of : Entry → Option (List ℕ)
delivery_of (Say actor command reply) = delivered reply
delivery_of _ = None

-- The deliveries are the sets in fresh solutions, in order.
abbrev pub given_at : History → List (List ℕ)
given_at history = filter_map delivery_of history

abbrev pub shown : Reply → Option ℕ
shown (Solution number set fresh) = Some number
shown _ = None

abbrev pub shown_by : Entry → Option ℕ
shown_by (Say actor command reply) = shown reply
shown_by _ = None

-- The cursor is the number in the last solution, or 0.
abbrev pub cursor_at : History → ℕ
cursor_at history = fold (λ cursor entry. unwrap_or (shown_by entry) cursor) 0 history

abbrev pub marked : Rules → Command → Rules
marked rules (Reject c) = set_mark rules c mark.Rejected
marked rules (Approve c) = set_mark rules c mark.Approved
marked rules (Free c) = set_mark rules c mark.Free
marked rules (Cap level most) = set_cap rules level most
marked rules _ = rules

abbrev pub rules_after_reply : Rules → Command → Reply → Rules
rules_after_reply rules command Marked = marked rules command
rules_after_reply rules command _ = rules

abbrev pub rules_after : Rules → Entry → Rules
rules_after rules (Say actor command reply) = rules_after_reply rules command reply
rules_after rules _ = rules

-- The rules begin as the first ones, and follow the commands answered `Marked`.
abbrev pub rules_at : Rules → History → Rules
rules_at first history = fold rules_after first history

abbrev pub out_after : ℕ → Option ℕ → Entry → Option ℕ
out_after who out (Say actor command reply) = out
out_after who out (Take actor leaf) = if actor == who then Some leaf else out
out_after who out (Put actor leaf by learned) = if actor == who then None else out
out_after who out (Back actor leaf) = if actor == who then None else out

-- the leaf of the actor's last `Take` that no `Put` or `Back` of that actor has ended
abbrev pub out_at : ℕ → History → Option ℕ
out_at who history = fold (out_after who) None history

abbrev pub puts_after : ℕ → ℕ → Entry → ℕ
puts_after who puts (Say actor command reply) = if actor == who then 0 else puts
puts_after who puts (Take actor leaf) = puts
puts_after who puts (Put actor leaf by learned) = if actor == who then puts + 1 else puts
puts_after who puts (Back actor leaf) = puts

-- how many `Put`s the actor made since its last `Say`
abbrev pub puts_since : ℕ → History → ℕ
puts_since who history = fold (puts_after who) 0 history

-- the line of a delivery: every solution that contains it has it as a subset
abbrev pub given_line : List ℕ → Line
given_line set = record { set = set; bound = bound.Given }

abbrev pub lines_of_reply : Reply → List Line
lines_of_reply (Solution number set true) = given_line set ∷ []
lines_of_reply _ = []

abbrev pub lines_of : Entry → List Line
lines_of (Say actor command reply) = lines_of_reply reply
lines_of (Put actor leaf by learned) = learned
lines_of _ = []

-- all lines in `Put` entries, and one bounded by `Given` for each delivery, in the order of the entries
abbrev pub lines_at : History → List Line
lines_at history = flat_map lines_of history
