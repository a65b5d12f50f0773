-- Steps of the only actor: what one more of them leaves as it was, and that there is one to be made where some leaf is wanted.
use Rattle.std.proofs.Common.{inl, inr, ◌≡◌, ◌≢◌, ◌<◌, ℕ, ◌+◌, List, [], ◌∷◌, ◌++◌, Bool, true, false, Some, None, refl, ap, sym, subst, ◌∙◌, append_assoc, append-nil, IsTrue, Result, Ok, Err, OnErr, arith}
use Rattle.std.specs.List.{list_all, list_any}
use Rattle.std.proofs.lemmas.Bool.{and_from, and_parts, both_ways}
use Rattle.std.proofs.lemmas.List.Folds.{list_all-append}
use Rattle.lists.proofs.Tests.{list_all_weaker}
use Rattle.resolver_model.specs.declared.lines.Line.{Line}
use Rattle.resolver_model.specs.declared.history.By.{By}
use Rattle.resolver_model.specs.declared.history.Entry.{Entry}
use Rattle.resolver_model.specs.declared.history.Entry.TheVariants.{Say, Take, Put, Back}
use Rattle.resolver_model.specs.declared.history.Command.{Command}
use Rattle.resolver_model.specs.Histories.{History, cursor_at, out_at, puts_since}
use Rattle.resolver_model.specs.Trees.{Leaf, is_wanted, is_some_wanted, is_shut}
use Rattle.resolver_model.specs.Answers.{Setting, situation_at, delivery_count}
use Rattle.laws_session.specs.Laws.{AreHandsApart}
use Rattle.laws_session.proofs.Effects.{out_at-more, puts_since-more}
use Rattle.search_core.specs.Sessions.{Session, with_entry, with_room, HasRoom, IsTaken, IsAnswer, after_answer}
use Rattle.search_core.specs.declared.jobs.Answer.{Answer}
use Rattle.search_core.specs.declared.jobs.Answer.TheVariants as answer
use Rattle.search_core.specs.declared.jobs.Said.{Said}
use Rattle.search_core.specs.declared.jobs.Taken.TheVariants.{Ready, Done, AllOut}
use Rattle.lone_search.specs.Answers.{IsAlone, is_step, is_try, IsAnswered, IsGivenUp}
use Rattle.lone_search.specs.Steps.{IsStep, IsTried, IsGoneOn, IsSearching}

-- ---- entries

pub out-ended : (history : History) (leaf : ℕ) (by : By) (learned : List Line) → out_at 0 ((history ++ Take 0 leaf ∷ []) ++ Put 0 leaf by learned ∷ []) ≡ None
out-ended history leaf by learned = out_at-more 0 (history ++ Take 0 leaf ∷ []) (Put 0 leaf by learned)

pub out-back : (history : History) (leaf : ℕ) → out_at 0 ((history ++ Take 0 leaf ∷ []) ++ Back 0 leaf ∷ []) ≡ None
out-back history leaf = out_at-more 0 (history ++ Take 0 leaf ∷ []) (Back 0 leaf)

pub puts-more : (history : History) (leaf : ℕ) (by : By) (learned : List Line) → puts_since 0 ((history ++ Take 0 leaf ∷ []) ++ Put 0 leaf by learned ∷ []) ≡ puts_since 0 history + 1
puts-more history leaf by learned =
    puts_since-more 0 (history ++ Take 0 leaf ∷ []) (Put 0 leaf by learned) ∙ ap (λ n. n + 1) (puts_since-more 0 history (Take 0 leaf))

-- ---- one more step

pub alone-step : (old new : Session) → IsAlone old.setting old.history → IsStep old new → IsAlone new.setting new.history
alone-step old new alone step =
    subst (λ (s : Session). IsAlone s.setting s.history) (sym step.split.put)
    (record { one = alone.one; idle = out-ended old.history step.leaf step.split.by step.split.learned })

pub alone-tried : (old new : Session) → IsAlone old.setting old.history → IsTried old new → IsAlone new.setting new.history
alone-tried old new alone (inl same) = subst (λ (s : Session). IsAlone s.setting s.history) (sym same) alone
alone-tried old new alone (inr back) =
    subst (λ (s : Session). IsAlone s.setting s.history) (sym back.1) (record { one = alone.one; idle = out-back old.history back.0 })

pub gone-nowhere : (passes : Entry → Bool) (session : Session) → IsGoneOn passes session session
gone-nowhere passes session = record { entries = []; own = refl; entered = sym (append-nil session.history); setting = refl; rooms = refl }

pub gone-further : (passes : Entry → Bool) (old mid : Session) (new : Session) (entries : History) → IsGoneOn passes old mid → IsTrue (list_all passes entries)
    → new.history ≡ mid.history ++ entries → new.setting ≡ mid.setting → new.rooms ≡ mid.rooms → IsGoneOn passes old new
gone-further passes old mid new entries gone own entered setting rooms = record {
  entries = gone.entries ++ entries;
  own = list_all-append passes gone.entries entries ∙ and_from (list_all passes gone.entries) (list_all passes entries) gone.own own;
  entered = entered ∙ ap (λ (h : History). h ++ entries) gone.entered ∙ append_assoc old.history gone.entries entries;
  setting = setting ∙ gone.setting;
  rooms = rooms ∙ gone.rooms;
}

-- ---- some leaf is free

-- where all pass, none of a kind of those that do not
any-against : {A : Type 0} (p q : A → Bool) (xs : List A) → ((x : A) → p x ≡ true → q x ≡ false) → list_all p xs ≡ true → list_any q xs ≡ false
any-against p q [] apart h = refl
any-against p q (x ∷ xs) apart h =
    let parts = and_parts (p x) (list_all p xs) h in
    rw (apart x parts.0) (any-against p q xs apart parts.1)

pub nobody : (s : Setting) (history : History) → IsAlone s history → AreHandsApart s history → (leaf who : ℕ) → out_at who history ≢ Some leaf
nobody s history alone hands leaf who out =
    let low : who < 1 = subst (λ n. who < n) alone.one (hands.actors who leaf out) in
    let zero_is : who ≡ 0 = omega (arith, low) in
    let none : out_at who history ≡ None = ap (λ w. out_at w history) zero_is ∙ alone.idle in
    let f : Some leaf ≡ None = sym out ∙ none in
    cc

pub none-ready : (s : Setting) (history : History) (number : ℕ) → IsTrue (is_some_wanted (situation_at s history)) → IsTaken s history 0 (Ready number) → ⊥
none-ready s history number wanted taken = both_ways (is_some_wanted (situation_at s history)) taken.0 wanted

pub none-done : (s : Setting) (history : History) → IsTrue (is_some_wanted (situation_at s history)) → IsTaken s history 0 Done → ⊥
none-done s history wanted taken =
    let now = situation_at s history in
    both_ways (is_some_wanted now)
    (any-against (λ (leaf : Leaf). is_shut now leaf.node) (λ (leaf : Leaf). is_wanted now leaf.node) now.leaves (λ leaf shut. rw shut refl) taken)
    wanted

pub none-out : (s : Setting) (history : History) (number : ℕ) → IsAlone s history → AreHandsApart s history → IsTaken s history 0 (AllOut number) → ⊥
none-out s history number alone hands taken =
    let leaf = taken.1.0 in
    let first = taken.1.1 in
    taken.0 leaf first.member (first.passes, λ who. nobody s history alone hands leaf.number who)

-- ---- on the way to a reply

step-is_try : (e : Entry) → is_step e ≡ true → is_try e ≡ true
step-is_try (Say actor command reply) h = h
step-is_try (Take actor leaf) h = h
step-is_try (Put actor leaf by learned) h = h
step-is_try (Back actor leaf) h = absurd (cc)

pub gone-step : (old mid new : Session) → IsGoneOn is_step old mid → IsStep mid new → IsGoneOn is_step old new
gone-step old mid new gone step =
    let leaf = step.leaf in
    let by = step.split.by in
    let learned = step.split.learned in
    gone-further is_step old mid new (Take 0 leaf ∷ Put 0 leaf by learned ∷ []) gone refl
    (ap (λ (s : Session). s.history) step.split.put ∙ append_assoc mid.history (Take 0 leaf ∷ []) (Put 0 leaf by learned ∷ []))
    (ap (λ (s : Session). s.setting) step.split.put)
    (ap (λ (s : Session). s.rooms) step.split.put)

pub given-up : (old new : Session) → IsGoneOn is_step old new → IsGivenUp old new
given-up old new gone = record { tries = gone.entries; own = list_all_weaker is_step is_try step-is_try gone.entries gone.own; entered = gone.entered }

pub given-up-tried : (old mid new : Session) → IsGoneOn is_step old mid → IsTried mid new → IsGivenUp old new
given-up-tried old mid new gone (inl same) = subst (λ (s : Session). IsGivenUp old s) (sym same) (given-up old mid gone)
given-up-tried old mid new gone (inr back) =
    let leaf = back.0 in
    let entries = Take 0 leaf ∷ Back 0 leaf ∷ [] in
    record {
      tries = gone.entries ++ entries;
      own = list_all-append is_try gone.entries entries ∙ and_from (list_all is_try gone.entries) true (list_all_weaker is_step is_try step-is_try gone.entries gone.own) refl;
      entered = ap (λ (s : Session). s.history) back.1 ∙ append_assoc mid.history (Take 0 leaf ∷ []) (Back 0 leaf ∷ []) ∙ ap (λ (h : History). h ++ entries) gone.entered ∙ append_assoc old.history gone.entries entries;
    }

pub answered : (old mid new : Session) (said : Said) (command : Command) → IsGoneOn is_step old mid → new ≡ with_room (with_entry mid (Say 0 command said.reply)) 0 false
    → said.cursor ≡ cursor_at (mid.history ++ Say 0 command said.reply ∷ []) → said.deliveries ≡ delivery_count (mid.history ++ Say 0 command said.reply ∷ []) → IsAnswered old new command said
answered old mid new said command gone is cursor deliveries =
    let entry = Say 0 command said.reply in
    let history_is : new.history ≡ mid.history ++ entry ∷ [] = ap (λ (s : Session). s.history) is in
    record {
      steps = gone.entries;
      own = gone.own;
      entered = history_is ∙ ap (λ (h : History). h ++ entry ∷ []) gone.entered;
      cursor = cursor ∙ ap cursor_at (sym history_is);
      deliveries = deliveries ∙ ap delivery_count (sym history_is);
    }

-- what was said after steps, by the session's clauses
pub answered-so : (s : Setting) (old mid new : Session) (told : Answer) (said : Said) (command : Command) → mid.setting ≡ s → IsGoneOn is_step old mid → told ≡ answer.Said said
    → IsAnswer s mid.history 0 command told → new ≡ after_answer mid 0 command (Ok told) → IsAnswered old new command said
answered-so s old mid new told said command same gone is right after =
    let facts = subst (IsAnswer s mid.history 0 command) is right in
    answered old mid new said command gone (subst (λ (t : Answer). new ≡ after_answer mid 0 command (Ok t)) is after) facts.1 facts.2

pub on_err : {A E : Type 0} (P : Type 0) (r : Result A E) → P → OnErr r P
on_err P (Ok x) p = tt
on_err P (Err e) p = p

pub searching : (old mid new : Session) (told : Answer) (command : Command) → IsAlone old.setting old.history → mid ≡ with_room old 0 true → HasRoom mid 0 → told ≡ answer.Search
    → IsAnswer mid.setting mid.history 0 command told → new ≡ after_answer mid 0 command (Ok told) → IsSearching new
searching old mid new told command alone kept room is right after =
    let facts = subst (IsAnswer mid.setting mid.history 0 command) is right in
    let same : new ≡ mid = subst (λ (t : Answer). new ≡ after_answer mid 0 command (Ok t)) is after in
    subst (λ (s : Session). IsSearching s) (sym same) (record {
      alone = subst (λ (s : Session). IsAlone s.setting s.history) (sym kept) alone;
      wanted = facts.2;
      room = room;
      few = facts.3;
    })
