-- Turns through a pass.
use Rattle.std.proofs.Common.{◌≡◌, ◌==◌, ℕ, List, [], ◌∷◌, ◌++◌, true, None, inl, inr, refl, ap, sym, subst, ◌∙◌, append_assoc, append-nil, Result}
use mathlib.Core.List.{IsPrefix}
use Rattle.std.specs.List.{list_all}
use Rattle.std.proofs.lemmas.Bool.{and_from}
use Rattle.resolver_model.specs.declared.history.Command.{Command}
use Rattle.resolver_model.specs.declared.history.Entry.{Entry}
use Rattle.resolver_model.specs.declared.history.Entry.TheVariants.{Say, Take, Put, Back}
use Rattle.resolver_model.specs.Histories.{History, cursor_at, out_at}
use Rattle.resolver_model.specs.Answers.{delivery_count}
use Rattle.resolver_model.specs.Problems.{Problem}
use Rattle.search_core.specs.declared.jobs.Said.{Said}
use Rattle.lone_search.specs.Answers.{is_step, is_try}
use Rattle.lists.proofs.Tests.{list_all_weaker}
use Rattle.std.proofs.lemmas.List.Folds.{list_all-append}
use Rattle.cell_rule.specs.Views.{entries_by}
use Rattle.dialogue.specs.Texts.{HasCost, greeting, prompt}
use Rattle.session_cell.specs.Passes.{Cell, Pass}
use Rattle.search_thread.specs.Slices.{ArePairs, IsSame}
use Rattle.search_thread.specs.Slices as slice
use Rattle.pass_search.specs.Answers.{IsAnswered, IsGivenUp}
use Rattle.apt_base.specs.Bytes.{SourceState, SinkState}
use Rattle.run_status.specs.declared.Status.{Status}
use Rattle.run_status.specs.declared.Status.TheVariants.{NoMemory}
use Rattle.talk.specs.Transcripts.{Script, prompt_after}
use Rattle.talk.specs.Ends.{Scene}
use Rattle.talk.specs.Runs.{IsWritten, IsLaterSink, IsOver}
use Rattle.talk.specs.Turns.{IsUnsaid, IsEntered, IsUnanswered, IsSoFar}
use Rattle.talk.proofs.Running.{prompt_is, so_far_greeted, over_ungreeted}
use Rattle.cell_rule.proofs.Basics.{prefix_more}
use Rattle.talk.proofs.Costing.{last_cost}
use Rattle.talk.specs.declared.turns.Place.{Place}
use Rattle.shared_talk.specs.Shared.{IsTalkerAlone, own_part}
use Rattle.shared_talk.specs.Turns.{CanAnswer, IsPlaced, IsFurther, IsTurnTaken, Stand}
use Rattle.shared_talk.proofs.Own.{front_alone, cursor_own, count_own}

-- what was seen first
pub alone_before : (old new : History) → IsPrefix old new → IsTalkerAlone new → IsTalkerAlone old
alone_before old new front alone = front_alone old front.0 (subst IsTalkerAlone (sym front.1) alone)

pub asked : (place : Place) (pass : Pass) → IsPlaced place pass → IsTalkerAlone pass.hand.seen → prompt place.cursor place.deliveries ≡ prompt_after pass.hand.made
asked place pass placed alone = let at = placed alone in prompt_is pass.hand.made place.cursor place.deliveries at.cursor at.deliveries

-- ---- an answer

own_number : (actor : ℕ) → actor ≡ 0 → (actor == 0) ≡ true
own_number actor e = subst (λ a. (a == 0) ≡ true) (sym e) refl

pub pairs_steps : (steps : History) → ArePairs 0 steps → list_all is_step steps ≡ true
pairs_steps [] p = refl
pairs_steps (Take a leaf ∷ Put b split by learned ∷ es) p =
    and_from (a == 0) _ (own_number a p.0) (and_from (b == 0) _ (own_number b p.1) (pairs_steps es p.3))
pairs_steps (Say a command reply ∷ es) p = absurd p
pairs_steps (Put a n by learned ∷ es) p = absurd p
pairs_steps (Back a n ∷ es) p = absurd p
pairs_steps (Take a n ∷ []) p = absurd p
pairs_steps (Take a n ∷ Say b command reply ∷ es) p = absurd p
pairs_steps (Take a n ∷ Take b m ∷ es) p = absurd p
pairs_steps (Take a n ∷ Back b m ∷ es) p = absurd p

-- what the pass of actor 0 was told, its own entries were told
pub entered : (old new : Pass) (command : Command) (said : Said) → old.hand.actor ≡ 0 → IsAnswered old command new said → IsEntered command said.reply old.hand.made new.hand.made
entered old new command said talker answered =
    let entry : Say old.hand.actor command said.reply ≡ Say 0 command said.reply = ap (λ (a : ℕ). Say a command said.reply) talker in
    record {
      steps = answered.steps;
      own = pairs_steps answered.steps (subst (λ (a : ℕ). ArePairs a answered.steps) talker answered.paired);
      entered = answered.made ∙ ap (λ (e : Entry). old.hand.made ++ (answered.steps ++ e ∷ [])) entry ∙ sym (append_assoc old.hand.made answered.steps (Say 0 command said.reply ∷ []));
    }

pub placed_after : (old new : Pass) (command : Command) (said : Said) (place : Place) → old.hand.actor ≡ 0 → IsSame old new → IsAnswered old command new said
    → place.cursor ≡ said.cursor → place.deliveries ≡ said.deliveries → IsPlaced place new
placed_after old new command said place talker same answered c d alone =
    let own : new.hand.made ≡ own_part new.hand.seen = answered.own ∙ ap (λ (a : ℕ). entries_by a new.hand.seen) (same.actor ∙ talker) in
    let seen = sym answered.seen in
    record {
      cursor = c ∙ answered.right.1 ∙ ap cursor_at seen ∙ sym (cursor_own new.hand.seen alone) ∙ sym (ap cursor_at own);
      deliveries = d ∙ answered.right.2 ∙ ap delivery_count seen ∙ sym (count_own new.hand.seen alone) ∙ sym (ap delivery_count own);
    }

pub cost_of : (old new : Pass) (p : Problem) (command : Command) (said : Said) → old.hand.actor ≡ 0 → IsAnswered old command new said → new.hand.start.setting.problem ≡ p → HasCost p said.reply
cost_of old new p command said talker answered is =
    last_cost new.hand.start.setting p answered.before new.hand.seen command said.reply is answered.legal
    (answered.seen ∙ ap (λ (a : ℕ). answered.before ++ Say a command said.reply ∷ []) talker)

step_try : (e : Entry) → is_step e ≡ true → is_try e ≡ true
step_try (Say actor command said) h = absurd (cc)
step_try (Take actor leaf) h = h
step_try (Put actor leaf by learned) h = h
step_try (Back actor leaf) h = absurd (cc)

given_up_tries : (entries : History) → slice.IsGivenUp 0 entries → list_all is_try entries ≡ true
given_up_tries entries (inl none) = ap (list_all is_try) none
given_up_tries entries (inr back) = ap (list_all is_try) back.1

pub unanswered : (old new : Pass) → old.hand.actor ≡ 0 → IsGivenUp old new → IsUnanswered NoMemory old.hand.made new.hand.made
unanswered old new talker up =
    let pairs = up.2.entries in
    let rest = up.1 in
    let steps : list_all is_step pairs ≡ true = pairs_steps pairs (subst (λ (a : ℕ). ArePairs a pairs) talker up.2.paired) in
    let back : list_all is_try rest ≡ true = given_up_tries rest (subst (λ (a : ℕ). slice.IsGivenUp a rest) talker up.3) in
    record {
      tries = pairs ++ rest;
      own = list_all-append is_try pairs rest ∙ and_from (list_all is_try pairs) (list_all is_try rest) (list_all_weaker is_step is_try step_try pairs steps) back;
      entered = up.2.made;
      cause = refl;
    }

pub ready_after : (cell : Cell) (old new : Pass) → CanAnswer cell old → IsSame old new → out_at old.hand.actor new.hand.made ≡ None → CanAnswer cell new
ready_after cell old new ready same idle = record {
  of_cell = (same.table ∙ ready.of_cell.0, same.stops ∙ ready.of_cell.1, same.start ∙ ready.of_cell.2);
  talker = same.actor ∙ ready.talker;
  idle = subst (λ (a : ℕ). out_at a new.hand.made ≡ None) ready.talker idle;
}

-- ---- the beginning, and turn after turn

pub further_none : (pass : Pass) → IsFurther pass pass
further_none pass = record { same = record { table = refl; stops = refl; start = refl; actor = refl }; begins = ([], append-nil pass.hand.seen) }

pub further_twice : (p q r : Pass) → IsFurther p q → IsFurther q r → IsFurther p r
further_twice p q r a b = record {
  same = record { table = b.same.table ∙ a.same.table; stops = b.same.stops ∙ a.same.stops; start = b.same.start ∙ a.same.start; actor = b.same.actor ∙ a.same.actor };
  begins = prefix_more p.hand.seen q.hand.seen b.begins.0 r.hand.seen a.begins (sym b.begins.1);
}

pub placed_first : (pass : Pass) → pass.hand.made ≡ [] → IsPlaced (record { cursor = 0; deliveries = 0 }) pass
placed_first pass none alone = record { cursor = sym (ap cursor_at none); deliveries = sym (ap delivery_count none) }

pub so_far_first : (s : Script) (first : Scene) (lines : ℕ) (held : List ℕ) (made : History) (out : SinkState) → first.history ≡ [] → lines ≡ 0 → held ≡ [] → made ≡ []
    → IsWritten first.out out (greeting s.problem) → IsLaterSink first.out out → IsSoFar s lines held first (record { history = made; input = first.input; out = out })
so_far_first s first lines held made out none no_line no_held no_entry told later =
    let L : ℕ → Type 0 = λ n. IsSoFar s n held first (record { history = made; input = first.input; out = out }) in
    let B : List ℕ → Type 0 = λ h. IsSoFar s 0 h first (record { history = made; input = first.input; out = out }) in
    let M : History → Type 0 = λ m. IsSoFar s 0 [] first (record { history = m; input = first.input; out = out }) in
    subst L (sym no_line) (subst B (sym no_held) (subst M (none ∙ sym no_entry) (so_far_greeted s first out none told later)))

pub over_first : (s : Script) (status : Status) (first : Scene) (lines : ℕ) (made : History) (out : SinkState) → first.history ≡ [] → lines ≡ 0 → made ≡ [] → IsUnsaid (greeting s.problem) first.out out status
    → IsLaterSink first.out out → IsOver s status lines first (record { history = made; input = first.input; out = out })
over_first s status first lines made out none no_line no_entry unsaid later =
    let L : ℕ → Type 0 = λ n. IsOver s status n first (record { history = made; input = first.input; out = out }) in
    let M : History → Type 0 = λ m. IsOver s status 0 first (record { history = m; input = first.input; out = out }) in
    subst L (sym no_line) (subst M (none ∙ sym no_entry) (over_ungreeted s status first out none unsaid later))

-- the talker's turn, once the round was asked to stop
pub asked_to_stop : (s : Script) (cell : Cell) (result : Result (Unit {0}) Status) (old : Stand) (pass : Pass) (place : Place) (lines : ℕ) (held : List ℕ) (input : SourceState) (out : SinkState) (number : ℕ)
    → IsTurnTaken s cell result old (record { pass = pass; place = place; lines = lines; held = held; input = input; out = out })
    → IsTurnTaken s cell result old (record { pass = record pass { stop = number }; place = place; lines = lines; held = held; input = input; out = out })
asked_to_stop s cell result old pass place lines held input out number taken = record {
  further = record { same = record { table = taken.further.same.table; stops = taken.further.same.stops; start = taken.further.same.start; actor = taken.further.same.actor }; begins = taken.further.begins };
  ready = record { of_cell = taken.ready.of_cell; talker = taken.ready.talker; idle = taken.ready.idle };
  placed = taken.placed;
  count = taken.count;
  goes_on = taken.goes_on;
  goes_out = taken.goes_out;
}

pub as_handed_in : (s : Script) (cell : Cell) (result : Result (Unit {0}) Status) (handed pass new : Pass) (first next : Place) (lines lines_now number : ℕ) (held held_now : List ℕ) (input input_now : SourceState) (out out_now : SinkState) (q : Pass)
    → handed ≡ pass → new ≡ record q { stop = number }
    → IsTurnTaken s cell result (record { pass = handed; place = first; lines = lines; held = held; input = input; out = out }) (record { pass = q; place = next; lines = lines_now; held = held_now; input = input_now; out = out_now })
    → IsTurnTaken s cell result (record { pass = pass; place = first; lines = lines; held = held; input = input; out = out }) (record { pass = new; place = next; lines = lines_now; held = held_now; input = input_now; out = out_now })
as_handed_in s cell result handed pass new first next lines lines_now number held held_now input input_now out out_now q same is taken =
    let old : Pass → Stand = λ p. record { pass = p; place = first; lines = lines; held = held; input = input; out = out } in
    let now : Pass → Stand = λ p. record { pass = p; place = next; lines = lines_now; held = held_now; input = input_now; out = out_now } in
    let O : Pass → Type 0 = λ p. IsTurnTaken s cell result (old p) (now new) in
    let N : Pass → Type 0 = λ p. IsTurnTaken s cell result (old handed) (now p) in
    subst O same (subst N (sym is) (asked_to_stop s cell result (old handed) q next lines_now held_now input_now out_now number taken))

-- the same turn, under other names of what it left
pub retold : (s : Script) (cell : Cell) (result : Result (Unit {0}) Status) (old : Stand) (pass : Pass) (a b : Place) (m n : ℕ) (held held_now : List ℕ) (input input_now : SourceState) (out out_now : SinkState)
    → IsTurnTaken s cell result old (record { pass = pass; place = a; lines = m; held = held; input = input; out = out }) → a ≡ b → m ≡ n → held ≡ held_now → input ≡ input_now → out ≡ out_now
    → IsTurnTaken s cell result old (record { pass = pass; place = b; lines = n; held = held_now; input = input_now; out = out_now })
retold s cell result old pass a b m n held held_now input input_now out out_now taken p l h i o =
    let P : Place → Type 0 = λ x. IsTurnTaken s cell result old (record { pass = pass; place = x; lines = m; held = held; input = input; out = out }) in
    let L : ℕ → Type 0 = λ x. IsTurnTaken s cell result old (record { pass = pass; place = b; lines = x; held = held; input = input; out = out }) in
    let H : List ℕ → Type 0 = λ x. IsTurnTaken s cell result old (record { pass = pass; place = b; lines = n; held = x; input = input; out = out }) in
    let I : SourceState → Type 0 = λ x. IsTurnTaken s cell result old (record { pass = pass; place = b; lines = n; held = held_now; input = x; out = out }) in
    let O : SinkState → Type 0 = λ x. IsTurnTaken s cell result old (record { pass = pass; place = b; lines = n; held = held_now; input = input_now; out = x }) in
    subst O o (subst I i (subst H h (subst L l (subst P p taken))))
