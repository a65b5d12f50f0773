-- A leaf that is out behind some pairs, and how it is ended.
use Rattle.std.proofs.Common.{◌≡◌, ◌+◌, ◌<◌, ◌⊎◌, inl, inr, ℕ, List, [], ◌∷◌, ◌++◌, refl, ap, sym, subst, ◌∙◌, arith, append_assoc, append-nil, None, Result, Ok, Err}
use Rattle.resolver_model.specs.declared.lines.Line.{Line}
use Rattle.resolver_model.specs.declared.history.By.{By}
use Rattle.resolver_model.specs.declared.history.Entry.TheVariants.{Take, Put, Back}
use Rattle.resolver_model.specs.Histories.{History, out_at}
use Rattle.resolver_model.specs.Answers.{Setting}
use Rattle.search_core.specs.Sessions.{Session, IsTaken}
use Rattle.search_core.specs.Ways.{way}
use Rattle.search_core.specs.declared.jobs.Job.{Job}
use Rattle.search_core.specs.declared.jobs.Taken.{Taken}
use Rattle.search_core.specs.declared.jobs.Taken.TheVariants as took
use Rattle.cell_rule.specs.declared.view.Hand.{Hand}
use Rattle.session_cell.specs.declared.next.Next.{Next}
use Rattle.session_cell.specs.declared.next.Next.TheVariants as next
use Rattle.session_cell.specs.Calls.{taken, ArePut, ArePutAndTaken, HeedsStop}
use Rattle.session_cell.specs.Passes.{Pass, IsTurn, HasTaken, HasNext, knowing}
use Rattle.search_thread.specs.declared.SliceEnd.{SliceEnd}
use Rattle.search_thread.specs.declared.SliceEnd.TheVariants.{Made, Ready, Done, Stopped, AllOut, NoMemory}
use Rattle.search_thread.specs.Slices.{IsSearched, IsAskedFor, IsCause, IsBegun, IsGoneOn, IsEndedBySplit, IsEndedByBack, EndsAs, job_or_end}
use Rattle.search_thread.proofs.Pairs.{none_searched, searched_more, one_pair, one_back}

-- ---- between two leaves

-- so many pairs, and then a leaf that is out
abbrev pub IsHeld : Hand → Hand → ℕ → ℕ → Type 0
IsHeld p q leaf pairs = (mid : Hand) × IsSearched p mid pairs [] × (mid.actor ≡ p.actor) × (q.actor ≡ mid.actor) × (q.made ≡ mid.made ++ Take mid.actor leaf ∷ [])

pub held_first : (p q : Hand) (leaf : ℕ) → q.actor ≡ p.actor → out_at p.actor p.made ≡ None → q.made ≡ p.made ++ Take p.actor leaf ∷ [] → IsHeld p q leaf 0
held_first p q leaf same idle take = (p, none_searched p p refl idle, refl, same, take)

pub held_split : (p q r : Hand) (leaf pairs : ℕ) (by : By) (learned : List Line) → IsHeld p q leaf pairs → r.made ≡ q.made ++ Put q.actor leaf by learned ∷ [] → IsSearched p r (pairs + 1) []
held_split p q r leaf pairs by learned held put =
    let mid = held.0 in searched_more p mid r pairs 1 [] held.2 held.1 (one_pair mid q r leaf by learned held.3 held.4 put)

pub held_back : (p q r : Hand) (leaf pairs : ℕ) → IsHeld p q leaf pairs → r.made ≡ q.made ++ Back q.actor leaf ∷ [] → IsSearched p r pairs (Take p.actor leaf ∷ Back p.actor leaf ∷ [])
held_back p q r leaf pairs held back =
    let mid = held.0 in
    let last : IsSearched mid r 0 (Take p.actor leaf ∷ Back p.actor leaf ∷ []) = subst (λ (a : ℕ). IsSearched mid r 0 (Take a leaf ∷ Back a leaf ∷ [])) held.2 (one_back mid q r leaf held.3 held.4 back) in
    let all = searched_more p mid r pairs 0 (Take p.actor leaf ∷ Back p.actor leaf ∷ []) held.2 held.1 last in
    let same : pairs + 0 ≡ pairs = omega arith in
    subst (λ (n : ℕ). IsSearched p r n (Take p.actor leaf ∷ Back p.actor leaf ∷ [])) same all

pub held_next : (p q r : Hand) (leaf after pairs : ℕ) (by : By) (learned : List Line) → r.actor ≡ q.actor → IsHeld p q leaf pairs → r.made ≡ q.made ++ Put q.actor leaf by learned ∷ Take q.actor after ∷ []
    → IsHeld p r after (pairs + 1)
held_next p q r leaf after pairs by learned same held made =
    let mid : Hand = record q { made = q.made ++ Put q.actor leaf by learned ∷ [] } in
    (mid, held_split p q mid leaf pairs by learned held refl, held.3 ∙ held.2, same, made ∙ sym (append_assoc q.made (Put q.actor leaf by learned ∷ []) (Take q.actor after ∷ [])))

-- a leaf that is out is the last one of so many
pub record IsHeldAt (p q : Hand) (leaf count : ℕ) : Type 0 where
  pub pairs : ℕ
  pub next : pairs + 1 ≡ count
  pub held : IsHeld p q leaf pairs

pub held_step : (p q r : Hand) (leaf after count : ℕ) (by : By) (learned : List Line) → r.actor ≡ q.actor → IsHeldAt p q leaf count → r.made ≡ q.made ++ Put q.actor leaf by learned ∷ Take q.actor after ∷ []
    → IsHeldAt p r after (count + 1)
held_step p q r leaf after count by learned same at made = record {
  pairs = at.pairs + 1;
  next = ap (λ (n : ℕ). n + 1) at.next;
  held = held_next p q r leaf after at.pairs by learned same at.held made;
}

-- ---- how a slice ends

pub ended_as : (p r : Pass) (round most pairs : ℕ) (ended : SliceEnd) → IsCause r round ended → pairs < most → IsSearched p.hand r.hand pairs [] → EndsAs p r round most ended
ended_as p r round most pairs (Made count) cause below s = absurd cause
ended_as p r round most pairs Ready cause below s = ((pairs, below, s), cause.0, cause.1)
ended_as p r round most pairs Done cause below s = ((pairs, below, s), cause.0, cause.1)
ended_as p r round most pairs (AllOut leaf) cause below s = ((pairs, below, s), cause.0, cause.1)
ended_as p r round most pairs (Stopped value) cause below s = ((pairs, below, s), cause.0, cause.1)
ended_as p r round most pairs NoMemory cause below s = ([], (pairs, below, s), inl refl, cause)

pub back_as : (p q r : Pass) (round most leaf pairs : ℕ) → IsHeld p.hand q.hand leaf pairs → IsEndedByBack q leaf r → r.stop < round → pairs < most → EndsAs p r round most NoMemory
back_as p q r round most leaf pairs held back early below =
    (Take p.hand.actor leaf ∷ Back p.hand.actor leaf ∷ [], (pairs, below, held_back p.hand q.hand r.hand leaf pairs held back), inr (leaf, refl), early)

pub gone_as : (p q r : Pass) (round most leaf pairs : ℕ) (ended : SliceEnd) → IsHeld p.hand q.hand leaf pairs → IsGoneOn q leaf r round (Err ended) → pairs + 1 < most → EndsAs p r round most ended
gone_as p q r round most leaf pairs ended held gone below = at gone.0
  where
    at : IsEndedBySplit q leaf r ⊎ ((ended ≡ NoMemory) × IsEndedByBack q leaf r) → EndsAs p r round most ended
    at (inl split) = ended_as p r round most (pairs + 1) ended gone.1 below (held_split p.hand q.hand r.hand leaf pairs split.0 split.1 held split.2)
    at (inr back) =
        let early : IsCause r round NoMemory = subst (IsCause r round) back.0 gone.1 in
        subst (EndsAs p r round most) (sym back.0) (back_as p q r round most leaf pairs held back.1 early (omega (arith, below)))

pub all_made : (p q r : Pass) (round most leaf count : ℕ) → IsHeldAt p.hand q.hand leaf count → count ≡ most → IsEndedBySplit q leaf r → r.stop ≡ q.stop → q.stop < round → EndsAs p r round most (Made most)
all_made p q r round most leaf count at all split stop early =
    let searched = held_split p.hand q.hand r.hand leaf at.pairs split.0 split.1 at.held split.2 in
    (refl, subst (λ (n : ℕ). IsSearched p.hand r.hand n []) (at.next ∙ all) searched, subst (λ (n : ℕ). n < round) (sym stop) early)

-- ---- what the calls of the cell make of it

asked_at : (old new : Pass) (at : History) (actor : ℕ) (answer : Taken) → new.hand.start ≡ old.hand.start → new.hand.seen ≡ at → new.hand.actor ≡ actor → IsTaken old.hand.start.setting at actor answer → IsAskedFor new answer
asked_at old new at actor answer start seen same right =
    let setting : old.hand.start.setting ≡ new.hand.start.setting = ap (λ (s : Session). s.setting) (sym start) in
    subst (λ (x : Setting × History × ℕ). IsTaken x.0 x.1 x.2 answer) (λ i. (setting i, sym seen i, sym same i)) right

-- a leaf was taken, or none was
pub begun : (old new : Pass) (before : History) (answer : Taken) (round : ℕ) → IsTurn old before (taken old.hand.actor (Ok answer)) new → IsTaken old.hand.start.setting before old.hand.actor answer → HasTaken new answer → new.stop < round
    → IsBegun old new round (job_or_end (next.Taken answer))
begun old new before (took.Work job) round turn right out early = (turn.made, out, early)
begun old new before (took.Ready leaf) round turn right out early =
    (turn.made ∙ append-nil old.hand.made, ((leaf, asked_at old new before old.hand.actor (took.Ready leaf) turn.start (turn.seen ∙ append-nil before) turn.actor right), early))
begun old new before took.Done round turn right out early =
    (turn.made ∙ append-nil old.hand.made, (asked_at old new before old.hand.actor took.Done turn.start (turn.seen ∙ append-nil before) turn.actor right, early))
begun old new before (took.AllOut leaf) round turn right out early =
    (turn.made ∙ append-nil old.hand.made, (asked_at old new before old.hand.actor (took.AllOut leaf) turn.start (turn.seen ∙ append-nil before) turn.actor right, early))

-- what the pass knew of a stop before makes no difference
pub begun_anyhow : (old new : Pass) (stop round : ℕ) (r : Result Job SliceEnd) → IsBegun (knowing old stop) new round r → IsBegun old new round r
begun_anyhow old new stop round (Ok job) b = b
begun_anyhow old new stop round (Err ended) b = b

-- a leaf was put, and another taken
put_and_next : (old new : Pass) (job after : Job) (before entries : History) → job.actor ≡ old.hand.actor → IsTurn (knowing old new.stop) before entries new → ArePutAndTaken old.hand.start.setting before job (Ok (next.Taken (took.Work after))) entries
    → (by : By) × (learned : List Line) × (new.hand.made ≡ old.hand.made ++ Put old.hand.actor job.leaf by learned ∷ Take old.hand.actor after.leaf ∷ [])
put_and_next old new job after before entries same turn put =
    let by = way old.hand.start.setting.problem job.node job.choice in
    let learned = put.1.0 in
    let both : entries ≡ Put job.actor job.leaf by learned ∷ Take job.actor after.leaf ∷ [] = put.2 ∙ ap (λ (es : History). es ++ Take job.actor after.leaf ∷ []) put.1.1 in
    let own = both ∙ ap (λ (a : ℕ). Put a job.leaf by learned ∷ Take a after.leaf ∷ []) same in
    (by, learned, turn.made ∙ ap (λ (es : History). old.hand.made ++ es) own)

-- a leaf was put, and none taken
put_alone : (old new : Pass) (job : Job) (before entries put : History) → job.actor ≡ old.hand.actor → IsTurn (knowing old new.stop) before entries new → ArePut old.hand.start.setting before job (Ok tt) put → entries ≡ put ++ []
    → IsEndedBySplit old job.leaf new
put_alone old new job before entries put same turn are alone =
    let by = way old.hand.start.setting.problem job.node job.choice in
    let learned = are.0 in
    let own : entries ≡ Put old.hand.actor job.leaf by learned ∷ [] = alone ∙ (append-nil put ∙ (are.1 ∙ ap (λ (a : ℕ). Put a job.leaf by learned ∷ []) same)) in
    (by, learned, turn.made ∙ ap (λ (es : History). old.hand.made ++ es) own)

-- the answer to an actor that put a leaf and got none
asked_behind : (old new : Pass) (job : Job) (before entries put : History) (answer : Taken) → job.actor ≡ old.hand.actor → IsTurn (knowing old new.stop) before entries new → entries ≡ put ++ []
    → IsTaken old.hand.start.setting (before ++ put) job.actor answer → IsAskedFor new answer
asked_behind old new job before entries put answer same turn alone right =
    let seen : new.hand.seen ≡ before ++ put = turn.seen ∙ ap (λ (es : History). before ++ es) (alone ∙ append-nil put) in
    asked_at old new (before ++ put) job.actor answer turn.start seen (turn.actor ∙ sym same) right

-- a leaf was put, and then the next one taken, or none
pub gone_on : (old new : Pass) (job : Job) (got : Next) (before entries : History) (round : ℕ) → job.actor ≡ old.hand.actor → IsTurn (knowing old new.stop) before entries new → ArePutAndTaken old.hand.start.setting before job (Ok got) entries
    → HeedsStop round new.stop got → HasNext new got → IsGoneOn old job.leaf new round (job_or_end got)
gone_on old new job (next.Taken (took.Work after)) before entries round same turn put heeds out =
    let both = put_and_next old new job after before entries same turn put in
    (both.0, both.1, both.2, out, heeds)
gone_on old new job (next.Taken (took.Ready leaf)) before entries round same turn put heeds out =
    (inl (put_alone old new job before entries put.0 same turn put.1 put.2), ((leaf, asked_behind old new job before entries put.0 (took.Ready leaf) same turn put.2 put.3), heeds))
gone_on old new job (next.Taken took.Done) before entries round same turn put heeds out =
    (inl (put_alone old new job before entries put.0 same turn put.1 put.2), (asked_behind old new job before entries put.0 took.Done same turn put.2 put.3, heeds))
gone_on old new job (next.Taken (took.AllOut leaf)) before entries round same turn put heeds out =
    (inl (put_alone old new job before entries put.0 same turn put.1 put.2), (asked_behind old new job before entries put.0 (took.AllOut leaf) same turn put.2 put.3, heeds))
gone_on old new job (next.Stopped value) before entries round same turn put heeds out = (inl (put_alone old new job before entries put.0 same turn put.1 put.2), heeds)
gone_on old new job next.NoMemory before entries round same turn put heeds out = (inl (put_alone old new job before entries put.0 same turn put.1 put.2), heeds)
