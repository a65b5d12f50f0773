-- Two histories that answer the same commands, and nothing by "not yet", answer each of them alike.
use Rattle.std.proofs.Common.{inl, inr, ◌≡◌, ◌++◌, ◌||◌, ℕ, List, [], ◌∷◌, true, false, Bool, refl, ap, sym, subst, ◌∙◌, append_assoc, append-nil}
use Rattle.std.specs.List.{list_any}
use Rattle.std.proofs.lemmas.List.Elements.{filter-append}
use Rattle.resolver_model.specs.declared.history.Command.{Command}
use Rattle.resolver_model.specs.declared.history.Reply.{Reply}
use Rattle.resolver_model.specs.declared.history.Reply.TheVariants.{NotYet}
use Rattle.resolver_model.specs.declared.history.Entry.{Entry}
use Rattle.resolver_model.specs.declared.history.Entry.TheVariants.{Say, Take, Put, Back}
use Rattle.resolver_model.specs.Histories.{History}
use Rattle.resolver_model.specs.Answers.{Setting}
use Rattle.resolver_model.specs.Legal.{Follows, IsLegal}
use Rattle.laws_session.specs.Laws.{Asking, asked, told, is_told, is_wait, IsSameQuestion, AreAnsweredAlike}
use Rattle.laws_session.proofs.Free.{AreFreeOfSchedule-all}

-- What is left of two histories: the parts before are told alike, and in what is left nothing waits.
record IsSplit (one other before after front back : History) : Type 0 where
  one_is : one ≡ before ++ after
  other_is : other ≡ front ++ back
  alike : told before ≡ told front
  asked_alike : asked after ≡ asked back
  no_wait : list_any is_wait after ≡ false
  no_wait_too : list_any is_wait back ≡ false

-- one entry moves from what is left to what was before
moved : (one before : History) (entry : Entry) (after : History) → one ≡ before ++ entry ∷ after → one ≡ (before ++ entry ∷ []) ++ after
moved one before entry after e = e ∙ sym (append_assoc before (entry ∷ []) after)

told_quiet : (before : History) (entry : Entry) → told (entry ∷ []) ≡ [] → told (before ++ entry ∷ []) ≡ told before
told_quiet before entry e = filter-append is_told before (entry ∷ []) ∙ ap (λ l. told before ++ l) e ∙ append-nil (told before)

told_more : (before front : History) (entry mate : Entry) → told before ≡ told front → entry ≡ mate → told (before ++ entry ∷ []) ≡ told (front ++ mate ∷ [])
told_more before front entry mate e same =
    filter-append is_told before (entry ∷ []) ∙ ap (λ l. l ++ told (entry ∷ [])) e ∙ ap (λ m. told front ++ told (m ∷ [])) same ∙ sym (filter-append is_told front (mate ∷ []))

or_first : (a b : Bool) → (a || b) ≡ false → a ≡ false
or_first false b h = refl
or_first true b h = absurd (cc)

or_second : (a b : Bool) → (a || b) ≡ false → b ≡ false
or_second false b h = h
or_second true b h = absurd (cc)

told_say : (actor : ℕ) (command : Command) (reply : Reply) → is_wait (Say actor command reply) ≡ false → is_told (Say actor command reply) ≡ true
told_say actor command (NotYet steps) h = absurd (cc)
told_say actor command reply h = refl

no_wait_turned : (actor : ℕ) (said command : Command) (reply : Reply) → is_wait (Say actor said reply) ≡ false → is_wait (Say actor command reply) ≡ false
no_wait_turned actor said command (NotYet steps) h = absurd (cc)
no_wait_turned actor said command reply h = refl

told_head : (entry : Entry) (more : History) → is_told entry ≡ true → told (entry ∷ more) ≡ entry ∷ told more
told_head entry more h = rw h refl

abbrev first_of : Asking → List Asking → Asking
first_of other [] = other
first_of other (asking ∷ more) = asking

-- nothing is told where nothing is asked
none_told : (back : History) → asked back ≡ [] → told back ≡ []
none_told [] e = refl
none_told (Say actor command reply ∷ back) e = absurd (cc)
none_told (Take actor leaf ∷ back) e = none_told back e
none_told (Put actor leaf by learned ∷ back) e = none_told back e
none_told (Back actor leaf ∷ back) e = none_told back e

-- the other history goes on up to its next answer, and then both go on
meet : (s t : Setting) → IsSameQuestion s t → (one other before : History) → IsLegal s one → IsLegal t other → (actor : ℕ) (command : Command) (reply : Reply) (after : History)
    → ((front back : History) → IsSplit one other (before ++ Say actor command reply ∷ []) after front back → told after ≡ told back)
    → (back front : History) → IsSplit one other before (Say actor command reply ∷ after) front back → told (Say actor command reply ∷ after) ≡ told back
meet s t q one other before h k actor command reply after rest [] front cut = absurd (let e = cut.asked_alike in cc)
meet s t q one other before h k actor command reply after rest (Say mate said answer ∷ back) front cut =
    let e = cut.asked_alike in
    let actor_is : actor ≡ mate = ap (λ l. (first_of (record { actor = actor; command = command }) l).actor) e in
    let command_is : command ≡ said = ap (λ l. (first_of (record { actor = actor; command = command }) l).command) e in
    let more_is : asked after ≡ asked back = cc e in
    let told_one : is_told (Say actor command reply) ≡ true = told_say actor command reply (or_first (is_wait (Say actor command reply)) (list_any is_wait after) cut.no_wait) in
    let told_other : is_told (Say mate said answer) ≡ true = told_say mate said answer (or_first (is_wait (Say mate said answer)) (list_any is_wait back) cut.no_wait_too) in
    let P : Command → Type 0 = λ c. Follows t front (Say mate c answer) in
    let turned : Follows t front (Say mate command answer) = subst P (sym command_is) (k front (Say mate said answer) back cut.other_is) in
    let told_turned : is_told (Say mate command answer) ≡ true = told_say mate command answer (no_wait_turned mate said command answer (or_first (is_wait (Say mate said answer)) (list_any is_wait back) cut.no_wait_too)) in
    let reply_is : reply ≡ answer = AreFreeOfSchedule-all s t q before front actor mate command reply answer cut.alike (h before (Say actor command reply) after cut.one_is) turned told_one told_turned in
    let same : Say actor command reply ≡ Say mate said answer = cc (actor_is, command_is, reply_is) in
    let tail : told after ≡ told back = rest (front ++ Say mate said answer ∷ []) back (record {
      one_is = moved one before (Say actor command reply) after cut.one_is;
      other_is = moved other front (Say mate said answer) back cut.other_is;
      alike = told_more before front (Say actor command reply) (Say mate said answer) cut.alike same;
      asked_alike = more_is;
      no_wait = or_second (is_wait (Say actor command reply)) (list_any is_wait after) cut.no_wait;
      no_wait_too = or_second (is_wait (Say mate said answer)) (list_any is_wait back) cut.no_wait_too;
    }) in
    told_head (Say actor command reply) after told_one ∙ ap (λ m. m ∷ told after) same ∙ ap (λ l. Say mate said answer ∷ l) tail ∙ sym (told_head (Say mate said answer) back told_other)
meet s t q one other before h k actor command reply after rest (Take mate leaf ∷ back) front cut =
    meet s t q one other before h k actor command reply after rest back (front ++ Take mate leaf ∷ []) (record {
      one_is = cut.one_is;
      other_is = moved other front (Take mate leaf) back cut.other_is;
      alike = cut.alike ∙ sym (told_quiet front (Take mate leaf) refl);
      asked_alike = cut.asked_alike;
      no_wait = cut.no_wait;
      no_wait_too = cut.no_wait_too;
    })
meet s t q one other before h k actor command reply after rest (Put mate leaf by learned ∷ back) front cut =
    meet s t q one other before h k actor command reply after rest back (front ++ Put mate leaf by learned ∷ []) (record {
      one_is = cut.one_is;
      other_is = moved other front (Put mate leaf by learned) back cut.other_is;
      alike = cut.alike ∙ sym (told_quiet front (Put mate leaf by learned) refl);
      asked_alike = cut.asked_alike;
      no_wait = cut.no_wait;
      no_wait_too = cut.no_wait_too;
    })
meet s t q one other before h k actor command reply after rest (Back mate leaf ∷ back) front cut =
    meet s t q one other before h k actor command reply after rest back (front ++ Back mate leaf ∷ []) (record {
      one_is = cut.one_is;
      other_is = moved other front (Back mate leaf) back cut.other_is;
      alike = cut.alike ∙ sym (told_quiet front (Back mate leaf) refl);
      asked_alike = cut.asked_alike;
      no_wait = cut.no_wait;
      no_wait_too = cut.no_wait_too;
    })

-- both histories to their ends
go_on : (s t : Setting) → IsSameQuestion s t → (one other : History) → IsLegal s one → IsLegal t other → (after before front back : History) → IsSplit one other before after front back → told after ≡ told back
go_on s t q one other h k [] before front back cut = sym (none_told back (sym cut.asked_alike))
go_on s t q one other h k (Say actor command reply ∷ after) before front back cut =
    meet s t q one other before h k actor command reply after (λ front back cut. go_on s t q one other h k after (before ++ Say actor command reply ∷ []) front back cut) back front cut
go_on s t q one other h k (Take actor leaf ∷ after) before front back cut =
    go_on s t q one other h k after (before ++ Take actor leaf ∷ []) front back (record {
      one_is = moved one before (Take actor leaf) after cut.one_is;
      other_is = cut.other_is;
      alike = told_quiet before (Take actor leaf) refl ∙ cut.alike;
      asked_alike = cut.asked_alike;
      no_wait = cut.no_wait;
      no_wait_too = cut.no_wait_too;
    })
go_on s t q one other h k (Put actor leaf by learned ∷ after) before front back cut =
    go_on s t q one other h k after (before ++ Put actor leaf by learned ∷ []) front back (record {
      one_is = moved one before (Put actor leaf by learned) after cut.one_is;
      other_is = cut.other_is;
      alike = told_quiet before (Put actor leaf by learned) refl ∙ cut.alike;
      asked_alike = cut.asked_alike;
      no_wait = cut.no_wait;
      no_wait_too = cut.no_wait_too;
    })
go_on s t q one other h k (Back actor leaf ∷ after) before front back cut =
    go_on s t q one other h k after (before ++ Back actor leaf ∷ []) front back (record {
      one_is = moved one before (Back actor leaf) after cut.one_is;
      other_is = cut.other_is;
      alike = told_quiet before (Back actor leaf) refl ∙ cut.alike;
      asked_alike = cut.asked_alike;
      no_wait = cut.no_wait;
      no_wait_too = cut.no_wait_too;
    })

pub AreAnsweredAlike-all : (s t : Setting) → IsSameQuestion s t → AreAnsweredAlike s t
AreAnsweredAlike-all s t q one other h k same quiet quiet_too = go_on s t q one other h k one [] [] other (record {
  one_is = refl;
  other_is = refl;
  alike = refl;
  asked_alike = same;
  no_wait = quiet;
  no_wait_too = quiet_too;
})
