-- Which entries make an end.
use Rattle.std.proofs.Common.{inl, inr, ◌≡◌, ◌⊎◌, List, [], ◌∷◌, ◌++◌, Bool, true, not, eqb, Option, Some, None, refl, ap, sym, ◌∙◌, length, length-append, arith}
use Rattle.std.specs.List.{list_all, fold}
use Rattle.std.specs.Option.{is_some}
use Rattle.std.proofs.lemmas.Bool.{and_parts, and_from}
use Rattle.std.proofs.lemmas.List.Folds.{list_all-append}
use Rattle.lists.proofs.Cuts.{cases_last}
use Rattle.lists.proofs.Tests.{list_all_weaker}
use Rattle.resolver_model.specs.declared.history.Entry.{Entry}
use Rattle.resolver_model.specs.declared.history.Entry.TheVariants.{Say, Take, Put, Back}
use Rattle.resolver_model.specs.Histories.{History}
use Rattle.lone_search.specs.Answers.{is_step, is_try}
use Rattle.run_status.specs.declared.Status.{Status}
use Rattle.talk.specs.Transcripts.{end_of, end_by, end_after, end_at}
use Rattle.talk.specs.Runs.{EndsOnce, is_own}
use Rattle.talk.specs.Turns.{goes_on}

-- makes no end
abbrev pub never_ends : Entry → Bool
never_ends entry = not (is_some (end_by entry))

none_of : (end : Option Status) → not (is_some end) ≡ true → end ≡ None
none_of None h = refl
none_of (Some end) h = absurd (cc)

going_never : (e : Entry) → goes_on e ≡ true → never_ends e ≡ true
going_never (Say actor command said) h = (and_parts (eqb actor 0) (not (is_some (end_of said))) h).1
going_never (Take actor leaf) h = refl
going_never (Put actor leaf by learned) h = refl
going_never (Back actor leaf) h = refl

going_own : (e : Entry) → goes_on e ≡ true → is_own e ≡ true
going_own (Say actor command said) h = (and_parts (eqb actor 0) (not (is_some (end_of said))) h).0
going_own (Take actor leaf) h = h
going_own (Put actor leaf by learned) h = h
going_own (Back actor leaf) h = h

step_going : (e : Entry) → is_step e ≡ true → goes_on e ≡ true
step_going (Say actor command said) h = absurd (cc)
step_going (Take actor leaf) h = h
step_going (Put actor leaf by learned) h = h
step_going (Back actor leaf) h = h

try_never : (e : Entry) → is_try e ≡ true → never_ends e ≡ true
try_never (Say actor command said) h = absurd (cc)
try_never (Take actor leaf) h = refl
try_never (Put actor leaf by learned) h = refl
try_never (Back actor leaf) h = refl

both : (p : Entry → Bool) (xs ys : History) → list_all p xs ≡ true → list_all p ys ≡ true → list_all p (xs ++ ys) ≡ true
both p xs ys h k = list_all-append p xs ys ∙ and_from (list_all p xs) (list_all p ys) h k

pub own_going : (history : History) → list_all goes_on history ≡ true → list_all is_own history ≡ true
own_going history h = list_all_weaker goes_on is_own going_own history h

pub never_going : (history : History) → list_all goes_on history ≡ true → list_all never_ends history ≡ true
never_going history h = list_all_weaker goes_on never_ends going_never history h

pub never_tries : (history tries : History) → list_all goes_on history ≡ true → list_all is_try tries ≡ true → list_all never_ends (history ++ tries) ≡ true
never_tries history tries h k = both never_ends history tries (never_going history h) (list_all_weaker is_try never_ends try_never tries k)

pub going_steps : (history steps : History) → list_all goes_on history ≡ true → list_all is_step steps ≡ true → list_all goes_on (history ++ steps) ≡ true
going_steps history steps h k = both goes_on history steps h (list_all_weaker is_step goes_on step_going steps k)

pub going_more : (history : History) (entry : Entry) → list_all goes_on history ≡ true → goes_on entry ≡ true → list_all goes_on (history ++ entry ∷ []) ≡ true
going_more history entry h k = both goes_on history (entry ∷ []) h (and_from (goes_on entry) true k refl)

pub own_more : (history : History) (entry : Entry) → list_all goes_on history ≡ true → is_own entry ≡ true → list_all is_own (history ++ entry ∷ []) ≡ true
own_more history entry h k = both is_own history (entry ∷ []) (own_going history h) (and_from (is_own entry) true k refl)

all_at : (p : Entry → Bool) (xs before : History) (x : Entry) (after : History) → xs ≡ before ++ x ∷ after → list_all p xs ≡ true → p x ≡ true
all_at p xs before x after e h =
    let whole : list_all p (before ++ x ∷ after) ≡ true = ap (list_all p) (sym e) ∙ h in
    let cut = and_parts (list_all p before) (list_all p (x ∷ after)) (sym (list_all-append p before (x ∷ after)) ∙ whole) in
    (and_parts (p x) (list_all p after) cut.1).0

pub ends_never : (history : History) → list_all never_ends history ≡ true → EndsOnce history
ends_never history h = λ before entry after e. inl (none_of (end_by entry) (all_at never_ends history before entry after e h))

empty : {X : Type 0} (xs : List X) → length xs ≡ 0 → xs ≡ []
empty [] h = refl
empty (x ∷ xs) h = absurd (omega (arith, h))

nothing_behind : (front : History) (last : Entry) (before : History) (entry : Entry) (after : History) → front ++ last ∷ [] ≡ before ++ entry ∷ after → before ≡ front → after ≡ []
nothing_behind front last before entry after e same =
    let whole : length (front ++ last ∷ []) ≡ length (before ++ entry ∷ after) = ap length e in
    let fronts : length before ≡ length front = ap length same in
    empty after (omega (arith, whole, fronts, length-append front (last ∷ []), length-append before (entry ∷ after)))

pub ends_last : (front : History) (last : Entry) → list_all never_ends front ≡ true → EndsOnce (front ++ last ∷ [])
ends_last front last h = λ before entry after e.
    elim (cases_last front last before entry after e) as (λ _. (end_by entry ≡ None) ⊎ (after ≡ [])) [
      | inl same ↦ inr (nothing_behind front last before entry after e same.0)
      | inr more ↦ inl (none_of (end_by entry) (all_at never_ends front before entry more.0 more.1 h))
    ]

no_end : (history : History) → list_all never_ends history ≡ true → fold end_after None history ≡ None
no_end [] h = refl
no_end (Say actor command said ∷ more) h =
    let parts = and_parts (never_ends (Say actor command said)) (list_all never_ends more) h in
    ap (λ e. fold end_after e more) (none_of (end_of said) parts.0) ∙ no_end more parts.1
no_end (Take actor leaf ∷ more) h = no_end more (and_parts (never_ends (Take actor leaf)) (list_all never_ends more) h).1
no_end (Put actor leaf by learned ∷ more) h = no_end more (and_parts (never_ends (Put actor leaf by learned)) (list_all never_ends more) h).1
no_end (Back actor leaf ∷ more) h = no_end more (and_parts (never_ends (Back actor leaf)) (list_all never_ends more) h).1

pub end_at-never : (history : History) → list_all never_ends history ≡ true → end_at history ≡ None
end_at-never history h = no_end history h
