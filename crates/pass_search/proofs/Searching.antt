-- Steps through a pass, on their way to a reply.
use Rattle.std.proofs.Common.{inl, ◌≡◌, ◌+◌, ℕ, [], ◌∷◌, ◌++◌, refl, ap, sym, subst, ◌∙◌, append_assoc, append-nil, None, Result, Ok, Err, OnErr}
use mathlib.Core.List.{IsPrefix}
use Rattle.resolver_model.specs.declared.history.Command.{Command}
use Rattle.resolver_model.specs.declared.history.Entry.TheVariants.{Say}
use Rattle.resolver_model.specs.Histories.{History, out_at}
use Rattle.laws_session.proofs.Effects.{out_at-more}
use Rattle.search_core.specs.Sessions.{Session, IsAnswer}
use Rattle.search_core.specs.declared.jobs.Answer.{Answer}
use Rattle.search_core.specs.declared.jobs.Answer.TheVariants as answer
use Rattle.search_core.specs.declared.jobs.Said.{Said}
use Rattle.cell_rule.proofs.Basics.{prefix_more}
use Rattle.session_cell.specs.Calls.{said}
use Rattle.session_cell.specs.Passes.{Pass, IsTurn}
use Rattle.search_thread.specs.Slices as slice
use Rattle.search_thread.specs.Slices.{IsSame, IsSearched, IsOnward}
use Rattle.search_thread.proofs.Pairs.{none_searched, searched_more}
use Rattle.pass_search.specs.Answers.{HasSearched, IsGivenUp, IsAnswered}

pub same_turn : (old new : Pass) (before entries : History) → IsTurn old before entries new → IsSame old new
same_turn old new before entries turn = record { table = turn.table; stops = turn.stops; start = turn.start; actor = turn.actor }

pub same_twice : (p q r : Pass) → IsSame p q → IsSame q r → IsSame p r
same_twice p q r s t = record { table = t.table ∙ s.table; stops = t.stops ∙ s.stops; start = t.start ∙ s.start; actor = t.actor ∙ s.actor }

pub prefix_turn : (first : History) (old new : Pass) (before entries : History) → IsTurn old before entries new → IsPrefix first old.hand.seen → IsPrefix first new.hand.seen
prefix_turn first old new before entries turn front =
    prefix_more first before entries new.hand.seen (prefix_more first old.hand.seen turn.begins.0 before front (sym turn.begins.1)) turn.seen

pub prefix_onward : (first : History) (old new : Pass) → IsOnward old new → IsPrefix first old.hand.seen → IsPrefix first new.hand.seen
prefix_onward first old new onward front = prefix_more first old.hand.seen onward.begins.0 new.hand.seen front (sym onward.begins.1)

-- a call that adds no entry
pub searched_none : (old new : Pass) (before : History) → IsTurn old before [] new → out_at old.hand.actor old.hand.made ≡ None → HasSearched old new
searched_none old new before turn idle = (0, none_searched old.hand new.hand (turn.made ∙ append-nil old.hand.made) idle)

pub searched_further : (p q r : Pass) → q.hand.actor ≡ p.hand.actor → HasSearched p q → HasSearched q r → HasSearched p r
searched_further p q r same s t = (s.0 + t.0, searched_more p.hand q.hand r.hand s.0 t.0 [] same s.1 t.1)

-- and a call that adds none behind it
pub searched_still : (p q r : Pass) (before : History) → q.hand.actor ≡ p.hand.actor → HasSearched p q → IsTurn q before [] r → HasSearched p r
searched_still p q r before same s turn =
    searched_further p q r same s (searched_none q r before turn (ap (λ (a : ℕ). out_at a q.hand.made) same ∙ s.1.idle))

pub given_up_still : (p q : Pass) → HasSearched p q → IsGivenUp p q
given_up_still p q s = (s.0, [], s.1, inl refl)

pub given_up_further : (p q r : Pass) → q.hand.actor ≡ p.hand.actor → HasSearched p q → IsGivenUp q r → IsGivenUp p r
given_up_further p q r same s t =
    (s.0 + t.0, t.1, searched_more p.hand q.hand r.hand s.0 t.0 t.1 same s.1 t.2, subst (λ (a : ℕ). slice.IsGivenUp a t.1) same t.3)

pub answered : (p q r : Pass) (before : History) (command : Command) (reply : Said) → IsSame p q → IsPrefix p.hand.seen q.hand.seen → HasSearched p q
    → IsTurn q before (Say q.hand.actor command reply.reply ∷ []) r → IsAnswer q.hand.start.setting before q.hand.actor command (answer.Said reply) → IsAnswered p command r reply
answered p q r before command reply same begins s turn right =
    let steps = s.1.entries in
    let entry = Say p.hand.actor command reply.reply in
    let one : Say q.hand.actor command reply.reply ∷ [] ≡ entry ∷ [] = ap (λ (a : ℕ). Say a command reply.reply ∷ []) same.actor in
    let made_q : q.hand.made ≡ p.hand.made ++ steps = s.1.made ∙ ap (λ (l : History). p.hand.made ++ l) (append-nil steps) in
    let made_r : r.hand.made ≡ q.hand.made ++ entry ∷ [] = turn.made ∙ ap (λ (l : History). q.hand.made ++ l) one in
    let A : ℕ → Type 0 = λ a. IsAnswer r.hand.start.setting before a command (answer.Said reply) in
    let S : Session → Type 0 = λ y. IsAnswer y.setting before q.hand.actor command (answer.Said reply) in
    record {
      before = before;
      begins = prefix_more p.hand.seen q.hand.seen turn.begins.0 before begins (sym turn.begins.1);
      seen = turn.seen ∙ ap (λ (l : History). before ++ l) one;
      legal = turn.legal;
      right = subst A same.actor (subst S (sym turn.start) right);
      steps = steps;
      paired = s.1.paired;
      made = made_r ∙ ap (λ (l : History). l ++ entry ∷ []) made_q ∙ append_assoc p.hand.made steps (entry ∷ []);
      own = turn.own;
      idle = ap (out_at p.hand.actor) made_r ∙ out_at-more p.hand.actor q.hand.made entry ∙ s.1.idle;
    }

pub on_err : {A E : Type 0} (P : Type 0) (r : Result A E) → P → OnErr r P
on_err P (Ok x) p = tt
on_err P (Err e) p = p

-- what an answer adds
pub quiet_turn : (q r : Pass) (before : History) (command : Command) (told : Answer) → told ≡ answer.Search → IsTurn q before (said q.hand.actor command (Ok told)) r → IsTurn q before [] r
quiet_turn q r before command told is turn = let T : Answer → Type 0 = λ t. IsTurn q before (said q.hand.actor command (Ok t)) r in subst T is turn

pub quiet_entries : (actor : ℕ) (command : Command) (told : Answer) → told ≡ answer.Search → said actor command (Ok told) ≡ []
quiet_entries actor command told is = ap (λ (t : Answer). said actor command (Ok t)) is

pub answered_so : (p q r : Pass) (before : History) (command : Command) (told : Answer) (reply : Said) → told ≡ answer.Said reply → IsSame p q → IsPrefix p.hand.seen q.hand.seen → HasSearched p q
    → IsTurn q before (said q.hand.actor command (Ok told)) r → IsAnswer q.hand.start.setting before q.hand.actor command told → IsAnswered p command r reply
answered_so p q r before command told reply is same begins s turn right =
    let T : Answer → Type 0 = λ t. IsTurn q before (said q.hand.actor command (Ok t)) r in
    let R : Answer → Type 0 = λ t. IsAnswer q.hand.start.setting before q.hand.actor command t in
    answered p q r before command reply same begins s (subst T is turn) (subst R is right)
