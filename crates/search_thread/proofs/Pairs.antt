-- Searches that follow one another.
use Rattle.std.proofs.Common.{◌≡◌, ◌+◌, ℕ, List, [], ◌∷◌, ◌++◌, refl, ap, sym, subst, ◌∙◌, arith, append_assoc, append-nil, length-append, None, Ok}
use Rattle.resolver_model.specs.declared.lines.Line.{Line}
use Rattle.resolver_model.specs.declared.history.By.{By}
use Rattle.resolver_model.specs.declared.history.Entry.TheVariants.{Say, Take, Put, Back}
use Rattle.resolver_model.specs.Histories.{History, out_at}
use Rattle.laws_session.proofs.Effects.{out_at-put, out_at-back}
use Rattle.resolver_model.specs.Answers.{Setting}
use Rattle.search_core.specs.Sessions.{Session, IsTaken}
use Rattle.search_core.specs.declared.jobs.Job.{Job}
use Rattle.search_core.specs.declared.jobs.Taken.{Taken}
use Rattle.search_core.specs.declared.jobs.Taken.TheVariants.{Work, AllOut}
use Rattle.cell_rule.specs.declared.view.Hand.{Hand}
use Rattle.session_cell.specs.Calls.{taken}
use Rattle.session_cell.specs.Passes.{Pass, IsTurn}
use Rattle.search_thread.specs.Slices.{ArePairs, IsGivenUp, IsSearched, IsSame, IsAskedFor, IsWorked}

pub pairs_append : (actor : ℕ) (es fs : History) → ArePairs actor es → ArePairs actor fs → ArePairs actor (es ++ fs)
pairs_append actor [] fs p q = q
pairs_append actor (Take a leaf ∷ Put b split by learned ∷ es) fs p q = (p.0, p.1, p.2, pairs_append actor es fs p.3 q)
pairs_append actor (Say a command reply ∷ es) fs p q = absurd p
pairs_append actor (Put a n by learned ∷ es) fs p q = absurd p
pairs_append actor (Back a n ∷ es) fs p q = absurd p
pairs_append actor (Take a n ∷ []) fs p q = absurd p
pairs_append actor (Take a n ∷ Say b command reply ∷ es) fs p q = absurd p
pairs_append actor (Take a n ∷ Take b m ∷ es) fs p q = absurd p
pairs_append actor (Take a n ∷ Back b m ∷ es) fs p q = absurd p

-- nothing was made
pub none_searched : (p q : Hand) → q.made ≡ p.made → out_at p.actor p.made ≡ None → IsSearched p q 0 []
none_searched p q same idle =
    record { entries = []; made = same ∙ sym (append-nil p.made); paired = tt; count = refl; idle = ap (out_at p.actor) same ∙ idle }

-- one after the other
pub searched_more : (p q r : Hand) (m n : ℕ) (rest : History) → q.actor ≡ p.actor → IsSearched p q m [] → IsSearched q r n rest → IsSearched p r (m + n) rest
searched_more p q r m n rest same s t =
    let es = s.entries in
    let fs = t.entries in
    let before : q.made ≡ p.made ++ es = s.made ∙ ap (λ (l : History). p.made ++ l) (append-nil es) in
    let after : (p.made ++ es) ++ (fs ++ rest) ≡ p.made ++ ((es ++ fs) ++ rest) = append_assoc p.made es (fs ++ rest) ∙ ap (λ (l : History). p.made ++ l) (sym (append_assoc es fs rest)) in
    record {
      entries = es ++ fs;
      made = t.made ∙ (ap (λ (l : History). l ++ (fs ++ rest)) before ∙ after);
      paired = pairs_append p.actor es fs s.paired (subst (λ (a : ℕ). ArePairs a fs) same t.paired);
      count = omega (arith, length-append es fs, s.count, t.count);
      idle = subst (λ (a : ℕ). out_at a r.made ≡ None) same t.idle;
    }

-- a leaf taken and split
pub one_pair : (p q r : Hand) (leaf : ℕ) (by : By) (learned : List Line) → q.actor ≡ p.actor → q.made ≡ p.made ++ Take p.actor leaf ∷ [] → r.made ≡ q.made ++ Put q.actor leaf by learned ∷ [] → IsSearched p r 1 []
one_pair p q r leaf by learned same take put =
    let put' : r.made ≡ q.made ++ Put p.actor leaf by learned ∷ [] = put ∙ ap (λ (a : ℕ). q.made ++ Put a leaf by learned ∷ []) same in
    record {
      entries = Take p.actor leaf ∷ Put p.actor leaf by learned ∷ [];
      made = put' ∙ (ap (λ (l : History). l ++ Put p.actor leaf by learned ∷ []) take ∙ append_assoc p.made (Take p.actor leaf ∷ []) (Put p.actor leaf by learned ∷ []));
      paired = (refl, refl, refl, tt);
      count = refl;
      idle = ap (out_at p.actor) put' ∙ out_at-put q.made p.actor leaf by learned;
    }

-- a leaf taken and given back
pub one_back : (p q r : Hand) (leaf : ℕ) → q.actor ≡ p.actor → q.made ≡ p.made ++ Take p.actor leaf ∷ [] → r.made ≡ q.made ++ Back q.actor leaf ∷ [] → IsSearched p r 0 (Take p.actor leaf ∷ Back p.actor leaf ∷ [])
one_back p q r leaf same take back =
    let back' : r.made ≡ q.made ++ Back p.actor leaf ∷ [] = back ∙ ap (λ (a : ℕ). q.made ++ Back a leaf ∷ []) same in
    record {
      entries = [];
      made = back' ∙ (ap (λ (l : History). l ++ Back p.actor leaf ∷ []) take ∙ append_assoc p.made (Take p.actor leaf ∷ []) (Back p.actor leaf ∷ []));
      paired = tt;
      count = refl;
      idle = ap (out_at p.actor) back' ∙ out_at-back q.made p.actor leaf;
    }

-- the same pass, one call after the other
pub same_more : (p q r : Pass) → IsSame p q → IsSame q r → IsSame p r
same_more p q r s t = record { table = t.table ∙ s.table; stops = t.stops ∙ s.stops; start = t.start ∙ s.start; actor = t.actor ∙ s.actor }

-- a leaf was taken
pub made_take : (p q : Pass) (before : History) (answer : Taken) (job : Job) → answer ≡ Work job → IsTurn p before (taken p.hand.actor (Ok answer)) q → q.hand.made ≡ p.hand.made ++ Take p.hand.actor job.leaf ∷ []
made_take p q before answer job is turn = turn.made ∙ ap (λ (t : Taken). p.hand.made ++ taken p.hand.actor (Ok t)) is

-- a call that added nothing was answered at what the pass has seen
asked_for : (p q : Pass) (before : History) (answer : Taken) → IsTurn p before [] q → IsTaken p.hand.start.setting before p.hand.actor answer → IsAskedFor q answer
asked_for p q before answer turn right =
    let setting : p.hand.start.setting ≡ q.hand.start.setting = ap (λ (s : Session). s.setting) (sym turn.start) in
    let seen : before ≡ q.hand.seen = sym (turn.seen ∙ append-nil before) in
    let actor : p.hand.actor ≡ q.hand.actor = sym turn.actor in
    subst (λ (x : Setting × History × ℕ). IsTaken x.0 x.1 x.2 answer) (λ i. (setting i, seen i, actor i)) right

-- every wanted leaf is with somebody
pub all_out : (p q : Pass) (before : History) (answer : Taken) (leaf : ℕ) → answer ≡ AllOut leaf → IsTurn p before (taken p.hand.actor (Ok answer)) q → IsTaken p.hand.start.setting before p.hand.actor answer
    → out_at p.hand.actor p.hand.made ≡ None → IsSearched p.hand q.hand 0 [] × IsAskedFor q (AllOut leaf)
all_out p q before answer leaf is turn right idle =
    let turn' : IsTurn p before [] q = subst (λ (t : Taken). IsTurn p before (taken p.hand.actor (Ok t)) q) is turn in
    let right' = subst (λ (t : Taken). IsTaken p.hand.start.setting before p.hand.actor t) is right in
    (none_searched p.hand q.hand (turn'.made ∙ append-nil p.hand.made) idle, asked_for p q before (AllOut leaf) turn' right')

-- a worker went on
pub worked_more : (p q r : Pass) (m n : ℕ) (rest : History) → IsSame p q → IsSame q r → IsSearched p.hand q.hand m [] → IsSearched q.hand r.hand n rest → IsGivenUp q.hand.actor rest → IsWorked p r
worked_more p q r m n rest same again s t up =
    record {
      same = same_more p q r same again;
      pairs = m + n;
      rest = rest;
      searched = searched_more p.hand q.hand r.hand m n rest same.actor s t;
      given_up = subst (λ (a : ℕ). IsGivenUp a rest) same.actor up;
    }
