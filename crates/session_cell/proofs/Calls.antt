-- One call in one turn.
use Rattle.std.proofs.Common.{◌≡◌, ◌==◌, ℕ, List, [], ◌∷◌, ◌++◌, Bool, true, false, refl, ap, sym, subst, ◌∙◌, append_assoc, append-nil, Result, Ok, Err, Option, Some, None, OnOk, OnErr, IfErr, if◌then◌else◌}
use Rattle.std.specs.List.{fold, filter}
use mathlib.Core.List.{IsPrefix}
use Rattle.atomic_table.specs.Table.{Me}
use Rattle.choice_set.specs.declared.NoMemory.{NoMemory}
use Rattle.resolver_model.specs.declared.history.Command.{Command}
use Rattle.resolver_model.specs.declared.history.Entry.{Entry}
use Rattle.resolver_model.specs.declared.history.Entry.TheVariants.{Say, Take, Put, Back}
use Rattle.resolver_model.specs.Problems.{Problem}
use Rattle.resolver_model.specs.Costs.{Table}
use Rattle.resolver_model.specs.Histories.{History, out_at, out_after}
use Rattle.resolver_model.specs.Answers.{Setting}
use Rattle.resolver_model.specs.Legal.{IsLegal}
use Rattle.laws_session.specs.Laws.{is_end_by}
use Rattle.laws_session.proofs.Longer.{IsLegal-front, Follows-at}
use Rattle.laws_session.proofs.Effects.{out_at-put}
use Rattle.search_core.specs.Jobs.{IsOut}
use Rattle.search_core.specs.Ways.{way}
use Rattle.search_core.specs.Sessions.{Session, IsFor, IsPut}
use Rattle.search_core.specs.declared.jobs.Job.{Job}
use Rattle.search_core.specs.declared.jobs.Taken.{Taken}
use Rattle.search_core.specs.declared.jobs.Taken.TheVariants.{Work, Ready, Done, AllOut}
use Rattle.search_core.specs.declared.jobs.Answer.{Answer}
use Rattle.search_core.specs.declared.jobs.Answer.TheVariants as answer
use Rattle.search_core.proofs.Legality.{IsOut-kept}
use Rattle.cell_rule.specs.declared.view.Hand.{Hand}
use Rattle.cell_rule.specs.declared.view.View.{View}
use Rattle.cell_rule.specs.Views.{actor_of, entries_by, AreBy, holding, informed, waiting, returned}
use Rattle.cell_rule.specs.Turns.{Took, HasSession, HasTurn, MayReturn, session_of, IsStep, Entered, Called}
use Rattle.cell_rule.proofs.Basics.{entries_more, own_entries}
use Rattle.session_cell.specs.declared.next.Next.{Next}
use Rattle.session_cell.specs.declared.next.Next.TheVariants as next
use Rattle.session_cell.specs.Calls.{taken, said, ArePut, ArePutAndTaken, next_taken, IsNext, put_entry, given_back, WasOut}
use Rattle.session_cell.specs.Passes.{Pass, IsTurn}

-- ---- what a call did to the session

pub no_step : (actor : ℕ) (y z : Session) → z ≡ y → IsStep actor y [] z
no_step actor y z e = subst (IsStep actor y []) (sym e) record { setting = refl; history = sym (append-nil y.history); others = λ other ne k. k }

pub put_step : (y z : Session) (job : Job) (r : Result (Unit {0}) Job) → OnOk r (IsPut y job z) → OnErr r (z ≡ y) → IfErr r (λ refused. refused ≡ job)
    → (entries : History) × IsStep job.actor y entries z × ArePut y.setting y.history job r entries
put_step y z job (Ok done) put same back =
    let entry = put_entry y.setting job put.0 in
    (entry ∷ [], subst (IsStep job.actor y (entry ∷ [])) (sym put.1.0) record { setting = refl; history = refl; others = λ other ne k. k }, (put.0, refl, put.1.1))
put_step y z job (Err refused) put same back = ([], no_step job.actor y z same, (refl, back))

-- no call at all
pub called_not : (actor : ℕ) (m : Me Session View) → HasSession m → Called actor m [] m
called_not actor m has = record { view = refl; has = has; step = no_step actor (session_of m) (session_of m) refl }

-- one call after the other
pub called_more : (actor : ℕ) (m n k : Me Session View) (es fs : History) → Called actor m es n → Called actor n fs k → Called actor m (es ++ fs) k
called_more actor m n k es fs first second =
    let s = first.step in
    let t = second.step in
    record {
      view = second.view ∙ first.view;
      has = second.has;
      step = record {
        setting = t.setting ∙ s.setting;
        history = t.history ∙ (ap (λ (h : History). h ++ fs) s.history ∙ append_assoc (session_of m).history es fs);
        others = λ other ne kept. t.others other ne (s.others other ne kept);
      };
    }

-- behind a put its actor has nothing out
pub idle_behind : (y z : Session) (job : Job) (entries : History) → ArePut y.setting y.history job (Ok tt) entries → IsStep job.actor y entries z → out_at job.actor z.history ≡ None
idle_behind y z job entries put step =
    ap (out_at job.actor) (step.history ∙ ap (λ (es : History). y.history ++ es) put.1) ∙ out_at-put y.history job.actor job.leaf (way y.setting.problem job.node job.choice) put.0

-- a put, and what came behind it
pub put_and_taken : (y z : Session) (job : Job) (got : Next) (entries : History) → ArePut y.setting y.history job (Ok tt) entries → IsStep job.actor y entries z → IsNext z.setting z.history job.actor got
    → ArePutAndTaken y.setting y.history job (Ok got) (entries ++ next_taken job.actor got)
put_and_taken y z job got entries put step right =
    (entries, put, refl, subst (λ (x : Setting × History). IsNext x.0 x.1 job.actor got) (λ i. (step.setting i, step.history i)) right)

-- ---- whose entries a call adds

pub said_by : (actor : ℕ) (command : Command) (r : Result Answer NoMemory) → AreBy actor (said actor command r)
said_by actor command (Ok (answer.Said told)) = (refl, tt)
said_by actor command (Ok answer.Search) = tt
said_by actor command (Err e) = tt

pub taken_by : (actor : ℕ) (r : Result Taken NoMemory) → AreBy actor (taken actor r)
taken_by actor (Ok (Work job)) = (refl, tt)
taken_by actor (Ok (Ready leaf)) = tt
taken_by actor (Ok Done) = tt
taken_by actor (Ok (AllOut leaf)) = tt
taken_by actor (Err e) = tt

pub put_by : (s : Setting) (before : History) (job : Job) (r : Result (Unit {0}) Job) (entries : History) → ArePut s before job r entries → AreBy job.actor entries
put_by s before job (Ok done) entries put = subst (AreBy job.actor) (sym put.1) (refl, tt)
put_by s before job (Err refused) entries put = subst (AreBy job.actor) (sym put.0) tt

by_append : (actor : ℕ) (es fs : History) → AreBy actor es → AreBy actor fs → AreBy actor (es ++ fs)
by_append actor [] fs p q = q
by_append actor (e ∷ es) fs p q = (p.0, by_append actor es fs p.1 q)

next_by : (actor : ℕ) (got : Next) → AreBy actor (next_taken actor got)
next_by actor (next.Taken answer) = taken_by actor (Ok answer)
next_by actor (next.Stopped value) = tt
next_by actor next.NoMemory = tt

pub put_and_taken_by : (s : Setting) (before : History) (job : Job) (r : Result Next Job) (entries : History) → ArePutAndTaken s before job r entries → AreBy job.actor entries
put_and_taken_by s before job (Ok got) entries put =
    subst (AreBy job.actor) (sym put.2) (by_append job.actor put.0 (next_taken job.actor got) (put_by s before job (Ok tt) put.0 put.1) (next_by job.actor got))
put_and_taken_by s before job (Err refused) entries put = put_by s before job (Err refused) entries put

pub back_by : (job : Job) → AreBy job.actor (given_back job)
back_by job = (refl, tt)

-- ---- what an actor's own entries tell

unchanged : (who : ℕ) (e : Entry) (out : Option ℕ) → (actor_of e == who) ≡ false → out_after who out e ≡ out
unchanged who (Say actor command reply) out is = refl
unchanged who (Take actor leaf) out is = ap (λ b. if b then Some leaf else out) is
unchanged who (Put actor leaf by learned) out is = ap (λ b. if b then None else out) is
unchanged who (Back actor leaf) out is = ap (λ b. if b then None else out) is

out_from : (who : ℕ) (es : History) (out : Option ℕ) → fold (out_after who) out es ≡ fold (out_after who) out (entries_by who es)
out_from who [] out = refl
out_from who (e ∷ es) out = at (actor_of e == who) refl (out_from who es)
  where
    at : (b : Bool) → (actor_of e == who) ≡ b → ((o : Option ℕ) → fold (out_after who) o es ≡ fold (out_after who) o (entries_by who es))
        → fold (out_after who) out (e ∷ es) ≡ fold (out_after who) out (entries_by who (e ∷ es))
    at true is rest = rest (out_after who out e) ∙ ap (fold (out_after who) out) (sym (ap (λ b. if b then e ∷ entries_by who es else entries_by who es) is))
    at false is rest = ap (λ o. fold (out_after who) o es) (unchanged who e out is) ∙ (rest out ∙ ap (fold (out_after who) out) (sym (ap (λ b. if b then e ∷ entries_by who es else entries_by who es) is)))

pub out_own : (who : ℕ) (history : History) → out_at who history ≡ out_at who (entries_by who history)
out_own who history = out_from who history None

-- what the actor has out in the session that it took, by the entries that it made
pub out_now : (h : Hand) (y : Session) (m : Me Session View) (actor : ℕ) (out : Option ℕ) → Entered h y m → Took h y → actor ≡ h.actor → out_at h.actor h.made ≡ out → out_at actor (session_of m).history ≡ out
out_now h y m actor out in_turn took same e =
    ap (λ (a : ℕ). out_at a (session_of m).history) same
    ∙ (ap (λ (q : Me Session View). out_at h.actor (session_of q).history) in_turn ∙ (out_own h.actor y.history ∙ (ap (out_at h.actor) (sym took.2) ∙ e)))

filter_none : (p : Entry → Bool) (e : Entry) (es : History) → filter p (e ∷ es) ≡ [] → (p e ≡ false) × (filter p es ≡ [])
filter_none p e es h = at (p e) refl
  where
    at : (b : Bool) → p e ≡ b → (p e ≡ false) × (filter p es ≡ [])
    at true is = let f : e ∷ filter p es ≡ [] = ap (λ b. if b then e ∷ filter p es else filter p es) (sym is) ∙ h in absurd (cc)
    at false is = (is, ap (λ b. if b then e ∷ filter p es else filter p es) (sym is) ∙ h)

not_end : (who : ℕ) (e : Entry) → (actor_of e == who) ≡ false → is_end_by who e ≡ false
not_end who (Say actor command reply) is = refl
not_end who (Take actor leaf) is = refl
not_end who (Put actor leaf by learned) is = is
not_end who (Back actor leaf) is = is

stays : (s : Setting) (job : Job) (seen rest : History) → IsLegal s (seen ++ rest) → entries_by job.actor rest ≡ [] → IsOut s seen job → IsOut s (seen ++ rest) job
stays s job seen [] legal none out = subst (λ (h : History). IsOut s h job) (sym (append-nil seen)) out
stays s job seen (e ∷ rest) legal none out =
    let both : (seen ++ e ∷ []) ++ rest ≡ seen ++ e ∷ rest = append_assoc seen (e ∷ []) rest in
    let apart = filter_none (λ x. actor_of x == job.actor) e rest none in
    let L : History → Type 0 = λ h. IsLegal s h in
    let kept = IsOut-kept s seen e job (IsLegal-front s seen (e ∷ rest) legal) (Follows-at s seen e rest legal) out (not_end job.actor e apart.0) in
    subst (λ (h : History). IsOut s h job) both (stays s job (seen ++ e ∷ []) rest (subst L (sym both) legal) apart.1 kept)

pub still_out : (s : Setting) (history : History) (job : Job) → IsLegal s history → WasOut s history job → IsOut s history job
still_out s history job legal was =
    let L : History → Type 0 = λ h. IsLegal s h in
    subst (λ (h : History). IsOut s h job) (sym was.2) (stays s job was.0 was.1 (subst L was.2 legal) was.3 was.4)

cancelled : (xs ys : History) → xs ++ ys ≡ xs → ys ≡ []
cancelled [] ys e = e
cancelled (x ∷ xs) ys e = cancelled xs ys (cc)

-- the job of the pass's actor, in the session that it took
pub was_out : (h : Hand) (y : Session) (m : Me Session View) (job : Job) → Entered h y m → Took h y → h.made ≡ entries_by h.actor h.seen → job.actor ≡ h.actor → IsOut h.start.setting h.seen job
    → WasOut (session_of m).setting (session_of m).history job
was_out h y m job in_turn took own same out =
    let a = h.actor in
    let rest : History = took.1.0 in
    let longer : h.seen ++ rest ≡ y.history = took.1.1 in
    let none : entries_by a rest ≡ [] =
    cancelled (entries_by a h.seen) (entries_by a rest) (sym (entries_more a h.seen rest) ∙ (ap (entries_by a) longer ∙ (sym took.2 ∙ own))) in
    let was : WasOut y.setting y.history job = (h.seen, rest, sym longer, ap (λ (b : ℕ). entries_by b rest) same ∙ none, subst (λ (s : Setting). IsOut s h.seen job) (sym took.0) out) in
    subst (λ (q : Me Session View). WasOut (session_of q).setting (session_of q).history job) (sym in_turn) was

-- ---- the turn

-- the basis of the cell is that of the session in hands
pub is_for : (h : Hand) (y start : Session) (m : Me Session View) (p : Problem) (table : Table) → Entered h y m → Took h y → h.start ≡ start → IsFor start p table → IsFor (session_of m) p table
is_for h y start m p table in_turn took same for =
    let e : y.setting ≡ start.setting = took.0 ∙ ap (λ (s : Session). s.setting) same in
    subst (λ (q : Me Session View). IsFor (session_of q) p table) (sym in_turn) record {
      same_problem = ap (λ (s : Setting). s.problem) e ∙ for.same_problem;
      same_table = ap (λ (s : Setting). s.table) e ∙ for.same_table;
    }

pub called_from : (actor : ℕ) (m n : Me Session View) (z : Session) (entries : History) → n ≡ (m.0, (0, z) ∷ []) → IsStep actor (session_of m) entries z → Called actor m entries n
called_from actor m n z entries e step =
    subst (Called actor m entries) (sym e) record { view = refl; has = refl; step = step }

pub may_return : (h : Hand) (y : Session) (m n : Me Session View) (entries : History) → Entered h y m → Took h y → Called h.actor m entries n → AreBy h.actor entries
    → (rooms : List Bool) × (es : History) × HasTurn rooms n × MayReturn n.0.own rooms (session_of n) es
may_return h y m n entries in_turn took called by =
    let view : n.0 ≡ holding y.rooms (informed h y) = called.view ∙ ap (λ (q : Me Session View). q.0) in_turn in
    let own = ap (λ (v : View). v.own) view in
    let was : session_of m ≡ y = ap session_of in_turn in
    let step : IsStep h.actor y entries (session_of n) = subst (λ (s : Session). IsStep h.actor s entries (session_of n)) was called.step in (
      y.rooms,
      entries,
      (view ∙ ap (holding y.rooms) (sym own), called.has),
      subst (λ (g : Hand). MayReturn g y.rooms (session_of n) entries) (sym own) record { setting = step.setting ∙ took.0; history = step.history; by = by; others = step.others },
    )

-- what is told of the session in hands, told of what the pass sees
pub same_setting : (p : Pass) (h : Hand) (y : Session) (m : Me Session View) → p.hand ≡ h → Entered h y m → Took h y → (session_of m).setting ≡ p.hand.start.setting
same_setting p h y m is in_turn took =
    ap (λ (q : Me Session View). (session_of q).setting) in_turn ∙ (took.0 ∙ ap (λ (g : Hand). g.start.setting) (sym is))

pub same_history : (h : Hand) (y : Session) (m : Me Session View) → Entered h y m → (session_of m).history ≡ y.history
same_history h y m in_turn = ap (λ (q : Me Session View). (session_of q).history) in_turn

-- the turn as its pass sees it
pub turned : (p q : Pass) (h : Hand) (y : Session) (m n k : Me Session View) (entries : History) → p.hand ≡ h → Entered h y m → Took h y → Called h.actor m entries n → AreBy h.actor entries
    → IsLegal (session_of n).setting (session_of n).history → k ≡ (waiting (returned n.0.own (session_of n)), [])
    → q.table ≡ p.table → q.stops ≡ p.stops → q.stop ≡ p.stop → q.hand ≡ k.0.own → IsTurn p y.history entries q
turned p q h y m n k entries is in_turn took called by legal gone table stops stop same =
    let own : n.0.own ≡ informed h y = ap (λ (v : View). v.own) (called.view ∙ ap (λ (q : Me Session View). q.0) in_turn) in
    let was : session_of m ≡ y = ap session_of in_turn in
    let step : IsStep h.actor y entries (session_of n) = subst (λ (s : Session). IsStep h.actor s entries (session_of n)) was called.step in
    let z : Session = session_of n in
    let new : Hand = returned (informed h y) z in
    let set : z.setting ≡ h.start.setting = step.setting ∙ took.0 in
    let made : entries_by h.actor z.history ≡ h.made ++ entries =
    ap (entries_by h.actor) step.history ∙ (entries_more h.actor y.history entries ∙ (λ i. sym took.2 i ++ own_entries h.actor entries by i)) in
    let now : q.hand ≡ new = same ∙ (ap (λ (x : Me Session View). x.0.own) gone ∙ ap (λ (g : Hand). returned g z) own) in record {
      table = table;
      stops = stops;
      stop = stop;
      start = ap (λ (g : Hand). g.start) now ∙ ap (λ (g : Hand). g.start) (sym is);
      actor = ap (λ (g : Hand). g.actor) now ∙ ap (λ (g : Hand). g.actor) (sym is);
      begins = subst (λ (g : Hand). IsPrefix g.seen y.history) (sym is) took.1;
      seen = ap (λ (g : Hand). g.seen) now ∙ step.history;
      legal = subst (λ (g : Hand). IsLegal g.start.setting g.seen) (sym now) (subst (λ (s : Setting). IsLegal s z.history) set legal);
      made = ap (λ (g : Hand). g.made) now ∙ (made ∙ ap (λ (g : Hand). g.made ++ entries) (sym is));
      own = subst (λ (g : Hand). g.made ≡ entries_by g.actor g.seen) (sym now) refl;
    }
