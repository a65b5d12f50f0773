-- What one more entry changes.
use Rattle.std.proofs.Common.{false, ◌≡◌, ◌≢◌, ℕ, ◌+◌, List, [], ◌∷◌, ◌++◌, true, cond, Some, None, refl, ap, ◌∙◌, append-nil, eq-eqb, ne_eqb, Option}
use Rattle.std.specs.List.{filter_map, flat_map}
use Rattle.std.proofs.lemmas.List.Sums.{fold-append}
use Rattle.std.proofs.lemmas.List.Elements.{filter_map-append}
use Rattle.std.proofs.lemmas.Grind.{flat_map-append}
use Rattle.std.specs.Option.{unwrap_or}
use Rattle.resolver_model.specs.declared.lines.Line.{Line}
use Rattle.resolver_model.specs.declared.history.By.{By}
use Rattle.resolver_model.specs.declared.history.Command.{Command}
use Rattle.resolver_model.specs.declared.history.Reply.{Reply}
use Rattle.resolver_model.specs.declared.history.Reply.TheVariants.{Solution}
use Rattle.resolver_model.specs.declared.history.Entry.{Entry}
use Rattle.resolver_model.specs.declared.history.Entry.TheVariants.{Say, Take, Put, Back}
use Rattle.resolver_model.specs.Problems.{Problem}
use Rattle.resolver_model.specs.Rules.{Rules}
use Rattle.resolver_model.specs.Histories.{History, given_at, given_line, delivery_of, delivered, cursor_at, shown_by, shown, rules_at, rules_after, rules_after_reply, out_at, out_after, puts_since, puts_after, lines_at, lines_of, lines_of_reply}
use Rattle.resolver_model.specs.Trees.{Tree, tree_at, tree_after, root, numbered, split_leaf}
use Rattle.resolver_model.specs.Answers.{Setting, situation_at}
use Rattle.laws_session.specs.Laws.{is_put}

-- Each of these is a fold over the entries, so one more entry is one more step.
pub tree_at-more : (p : Problem) (history : History) (entry : Entry) → tree_at p (history ++ entry ∷ []) ≡ tree_after p (tree_at p history) entry
tree_at-more p history entry = fold-append (tree_after p) (record { leaves = numbered 0 (root ∷ []); next = 1 }) history (entry ∷ [])

pub rules_at-more : (first : Rules) (history : History) (entry : Entry) → rules_at first (history ++ entry ∷ []) ≡ rules_after (rules_at first history) entry
rules_at-more first history entry = fold-append rules_after first history (entry ∷ [])

pub given_at-more : (history : History) (entry : Entry) → given_at (history ++ entry ∷ []) ≡ given_at history ++ given_at (entry ∷ [])
given_at-more history entry = filter_map-append delivery_of history (entry ∷ [])

pub cursor_at-more : (history : History) (entry : Entry) → cursor_at (history ++ entry ∷ []) ≡ unwrap_or (shown_by entry) (cursor_at history)
cursor_at-more history entry = fold-append (λ (cursor : ℕ) (e : Entry). unwrap_or (shown_by e) cursor) 0 history (entry ∷ [])

pub out_at-more : (who : ℕ) (history : History) (entry : Entry) → out_at who (history ++ entry ∷ []) ≡ out_after who (out_at who history) entry
out_at-more who history entry = fold-append (out_after who) None history (entry ∷ [])

pub puts_since-more : (who : ℕ) (history : History) (entry : Entry) → puts_since who (history ++ entry ∷ []) ≡ puts_after who (puts_since who history) entry
puts_since-more who history entry = fold-append (puts_after who) 0 history (entry ∷ [])

pub lines_at-more : (history : History) (entry : Entry) → lines_at (history ++ entry ∷ []) ≡ lines_at history ++ lines_of entry
lines_at-more history entry = flat_map-append lines_of history (entry ∷ []) ∙ ap (λ more. lines_at history ++ more) (append-nil (lines_of entry))

-- a situation is made of these four
pub same_situation : (s : Setting) (history : History) (entry : Entry) → rules_at s.first_rules (history ++ entry ∷ []) ≡ rules_at s.first_rules history → given_at (history ++ entry ∷ []) ≡ given_at history → lines_at (history ++ entry ∷ []) ≡ lines_at history → tree_at s.problem (history ++ entry ∷ []) ≡ tree_at s.problem history
    → situation_at s (history ++ entry ∷ []) ≡ situation_at s history
same_situation s history entry r g l t = cc (r, g, l, ap (λ (tree : Tree). tree.leaves) t)

-- A `Take` changes who has which leaf, and nothing else.
pub situation_at-take : (s : Setting) (history : History) (actor leaf : ℕ) → situation_at s (history ++ Take actor leaf ∷ []) ≡ situation_at s history
situation_at-take s history actor leaf = same_situation s history (Take actor leaf) (rules_at-more s.first_rules history (Take actor leaf)) (given_at-more history (Take actor leaf) ∙ append-nil (given_at history)) (lines_at-more history (Take actor leaf) ∙ append-nil (lines_at history)) (tree_at-more s.problem history (Take actor leaf))

-- So does a `Back`.
pub situation_at-back : (s : Setting) (history : History) (actor leaf : ℕ) → situation_at s (history ++ Back actor leaf ∷ []) ≡ situation_at s history
situation_at-back s history actor leaf = same_situation s history (Back actor leaf) (rules_at-more s.first_rules history (Back actor leaf)) (given_at-more history (Back actor leaf) ∙ append-nil (given_at history)) (lines_at-more history (Back actor leaf) ∙ append-nil (lines_at history)) (tree_at-more s.problem history (Back actor leaf))

pub tree_at-take : (p : Problem) (history : History) (actor leaf : ℕ) → tree_at p (history ++ Take actor leaf ∷ []) ≡ tree_at p history
tree_at-take p history actor leaf = tree_at-more p history (Take actor leaf)

pub tree_at-back : (p : Problem) (history : History) (actor leaf : ℕ) → tree_at p (history ++ Back actor leaf ∷ []) ≡ tree_at p history
tree_at-back p history actor leaf = tree_at-more p history (Back actor leaf)

pub tree_at-say : (p : Problem) (history : History) (actor : ℕ) (command : Command) (reply : Reply) → tree_at p (history ++ Say actor command reply ∷ []) ≡ tree_at p history
tree_at-say p history actor command reply = tree_at-more p history (Say actor command reply)

-- A `Put` replaces its leaf, and adds its lines at the end.
pub leaves_at-put : (p : Problem) (history : History) (actor leaf : ℕ) (by : By) (learned : List Line)
    → (tree_at p (history ++ Put actor leaf by learned ∷ [])).leaves ≡ flat_map (split_leaf p leaf by (tree_at p history).next) (tree_at p history).leaves
leaves_at-put p history actor leaf by learned = ap (λ (tree : Tree). tree.leaves) (tree_at-more p history (Put actor leaf by learned))

pub given_at-put : (history : History) (actor leaf : ℕ) (by : By) (learned : List Line) → given_at (history ++ Put actor leaf by learned ∷ []) ≡ given_at history
given_at-put history actor leaf by learned = given_at-more history (Put actor leaf by learned) ∙ append-nil (given_at history)

pub lines_at-put : (history : History) (actor leaf : ℕ) (by : By) (learned : List Line) → lines_at (history ++ Put actor leaf by learned ∷ []) ≡ lines_at history ++ learned
lines_at-put history actor leaf by learned = lines_at-more history (Put actor leaf by learned)

pub situation_at-put : (s : Setting) (history : History) (actor leaf : ℕ) (by : By) (learned : List Line) → situation_at s (history ++ Put actor leaf by learned ∷ [])
    ≡ record {
      problem = s.problem;
      table = s.table;
      rules = rules_at s.first_rules history;
      given = given_at history;
      lines = lines_at history ++ learned;
      leaves = flat_map (split_leaf s.problem leaf by (tree_at s.problem history).next) (tree_at s.problem history).leaves;
    }
situation_at-put s history actor leaf by learned = cc (rules_at-more s.first_rules history (Put actor leaf by learned), given_at-put history actor leaf by learned, lines_at-put history actor leaf by learned, leaves_at-put s.problem history actor leaf by learned)

-- A fresh solution adds a delivery, and its line.
pub given_at-fresh : (history : History) (actor : ℕ) (command : Command) (number : ℕ) (set : List ℕ) → given_at (history ++ Say actor command (Solution number set true) ∷ []) ≡ given_at history ++ set ∷ []
given_at-fresh history actor command number set = given_at-more history (Say actor command (Solution number set true))

pub lines_at-fresh : (history : History) (actor : ℕ) (command : Command) (number : ℕ) (set : List ℕ) → lines_at (history ++ Say actor command (Solution number set true) ∷ []) ≡ lines_at history ++ given_line set ∷ []
lines_at-fresh history actor command number set = lines_at-more history (Say actor command (Solution number set true))

-- An answer that delivers nothing adds no delivery and no line.
pub given_at-none : (history : History) (actor : ℕ) (command : Command) (reply : Reply) → delivered reply ≡ None → given_at (history ++ Say actor command reply ∷ []) ≡ given_at history
given_at-none history actor command reply none = given_at-more history (Say actor command reply) ∙ no_more (delivered reply) none
  where
    no_more : (d : Option (List ℕ)) → d ≡ None → given_at history ++ filter_map delivery_of (Say actor command reply ∷ []) ≡ given_at history
    no_more d e = rw none (append-nil (given_at history))

pub lines_at-none : (history : History) (actor : ℕ) (command : Command) (reply : Reply) → lines_of_reply reply ≡ [] → lines_at (history ++ Say actor command reply ∷ []) ≡ lines_at history
lines_at-none history actor command reply none = lines_at-more history (Say actor command reply) ∙ ap (λ more. lines_at history ++ more) none ∙ append-nil (lines_at history)

pub rules_at-say : (first : Rules) (history : History) (actor : ℕ) (command : Command) (reply : Reply) → rules_at first (history ++ Say actor command reply ∷ []) ≡ rules_after_reply (rules_at first history) command reply
rules_at-say first history actor command reply = rules_at-more first history (Say actor command reply)

pub cursor_at-say : (history : History) (actor : ℕ) (command : Command) (reply : Reply) → cursor_at (history ++ Say actor command reply ∷ []) ≡ unwrap_or (shown reply) (cursor_at history)
cursor_at-say history actor command reply = cursor_at-more history (Say actor command reply)

-- An answer that marks and delivers nothing leaves the situation as it is. (For a reply that is written out, each premise is `refl`.)
pub situation_at-quiet : (s : Setting) (history : History) (actor : ℕ) (command : Command) (reply : Reply) → rules_after_reply (rules_at s.first_rules history) command reply ≡ rules_at s.first_rules history → delivered reply ≡ None → lines_of_reply reply ≡ []
    → situation_at s (history ++ Say actor command reply ∷ []) ≡ situation_at s history
situation_at-quiet s history actor command reply r d l = same_situation s history (Say actor command reply) (rules_at-say s.first_rules history actor command reply ∙ r) (given_at-none history actor command reply d) (lines_at-none history actor command reply l) (tree_at-say s.problem history actor command reply)

-- Who has which leaf out.
pub out_at-say : (who : ℕ) (history : History) (actor : ℕ) (command : Command) (reply : Reply) → out_at who (history ++ Say actor command reply ∷ []) ≡ out_at who history
out_at-say who history actor command reply = out_at-more who history (Say actor command reply)

pub out_at-take : (history : History) (actor leaf : ℕ) → out_at actor (history ++ Take actor leaf ∷ []) ≡ Some leaf
out_at-take history actor leaf = out_at-more actor history (Take actor leaf) ∙ ap (λ b. cond b (Some leaf) (out_at actor history)) (eq-eqb actor actor refl)

pub out_at-take_other : (who : ℕ) (history : History) (actor leaf : ℕ) → actor ≢ who → out_at who (history ++ Take actor leaf ∷ []) ≡ out_at who history
out_at-take_other who history actor leaf apart = out_at-more who history (Take actor leaf) ∙ ap (λ b. cond b (Some leaf) (out_at who history)) (ne_eqb actor who apart)

pub out_at-put : (history : History) (actor leaf : ℕ) (by : By) (learned : List Line) → out_at actor (history ++ Put actor leaf by learned ∷ []) ≡ None
out_at-put history actor leaf by learned = out_at-more actor history (Put actor leaf by learned) ∙ ap (λ b. cond b None (out_at actor history)) (eq-eqb actor actor refl)

pub out_at-put_other : (who : ℕ) (history : History) (actor leaf : ℕ) (by : By) (learned : List Line) → actor ≢ who → out_at who (history ++ Put actor leaf by learned ∷ []) ≡ out_at who history
out_at-put_other who history actor leaf by learned apart = out_at-more who history (Put actor leaf by learned) ∙ ap (λ b. cond b None (out_at who history)) (ne_eqb actor who apart)

pub out_at-back : (history : History) (actor leaf : ℕ) → out_at actor (history ++ Back actor leaf ∷ []) ≡ None
out_at-back history actor leaf = out_at-more actor history (Back actor leaf) ∙ ap (λ b. cond b None (out_at actor history)) (eq-eqb actor actor refl)

pub out_at-back_other : (who : ℕ) (history : History) (actor leaf : ℕ) → actor ≢ who → out_at who (history ++ Back actor leaf ∷ []) ≡ out_at who history
out_at-back_other who history actor leaf apart = out_at-more who history (Back actor leaf) ∙ ap (λ b. cond b None (out_at who history)) (ne_eqb actor who apart)

-- How many `Put`s an actor made since its last answer.
pub puts_since-say : (history : History) (actor : ℕ) (command : Command) (reply : Reply) → puts_since actor (history ++ Say actor command reply ∷ []) ≡ 0
puts_since-say history actor command reply = puts_since-more actor history (Say actor command reply) ∙ ap (λ b. cond b 0 (puts_since actor history)) (eq-eqb actor actor refl)

pub puts_since-put : (history : History) (actor leaf : ℕ) (by : By) (learned : List Line) → puts_since actor (history ++ Put actor leaf by learned ∷ []) ≡ puts_since actor history + 1
puts_since-put history actor leaf by learned = puts_since-more actor history (Put actor leaf by learned) ∙ ap (λ b. cond b (puts_since actor history + 1) (puts_since actor history)) (eq-eqb actor actor refl)

pub puts_since-take : (who : ℕ) (history : History) (actor leaf : ℕ) → puts_since who (history ++ Take actor leaf ∷ []) ≡ puts_since who history
puts_since-take who history actor leaf = puts_since-more who history (Take actor leaf)

pub puts_since-back : (who : ℕ) (history : History) (actor leaf : ℕ) → puts_since who (history ++ Back actor leaf ∷ []) ≡ puts_since who history
puts_since-back who history actor leaf = puts_since-more who history (Back actor leaf)

pub puts_since-say_other : (who : ℕ) (history : History) (actor : ℕ) (command : Command) (reply : Reply) → actor ≢ who → puts_since who (history ++ Say actor command reply ∷ []) ≡ puts_since who history
puts_since-say_other who history actor command reply apart = puts_since-more who history (Say actor command reply) ∙ ap (λ b. cond b 0 (puts_since who history)) (ne_eqb actor who apart)

pub puts_since-put_other : (who : ℕ) (history : History) (actor leaf : ℕ) (by : By) (learned : List Line) → actor ≢ who → puts_since who (history ++ Put actor leaf by learned ∷ []) ≡ puts_since who history
puts_since-put_other who history actor leaf by learned apart = puts_since-more who history (Put actor leaf by learned) ∙ ap (λ b. cond b (puts_since who history + 1) (puts_since who history)) (ne_eqb actor who apart)

-- Only a `Put` changes the tree.
pub tree_at-kept : (p : Problem) (history : History) (entry : Entry) → is_put entry ≡ false → tree_at p (history ++ entry ∷ []) ≡ tree_at p history
tree_at-kept p history (Say actor command reply) h = tree_at-say p history actor command reply
tree_at-kept p history (Take actor leaf) h = tree_at-take p history actor leaf
tree_at-kept p history (Back actor leaf) h = tree_at-back p history actor leaf
tree_at-kept p history (Put actor leaf by learned) h = absurd (cc)
