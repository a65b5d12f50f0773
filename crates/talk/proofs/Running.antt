-- How the turns of a run make up the whole.
use Rattle.std.proofs.Common.{inl, inr, ◌≡◌, ◌⊎◌, ◌≤◌, ◌<◌, ◌+◌, ℕ, List, [], ◌∷◌, ◌++◌, true, not, Option, Some, None, Result, Ok, Err, IfSome, IfErr, OnOk, length, refl, ap, sym, subst, ◌∙◌, arith, length-append, append_assoc, append-nil}
use Rattle.std.specs.List.{list_all}
use Rattle.std.specs.Option.{is_some}
use Rattle.lists.proofs.Cuts.{not_cut}
use Rattle.std.specs.Io.KnownBytes.{prepend_known, append_known}
use Rattle.apt_base.specs.Faults.{Rose, IsLater}
use Rattle.apt_base.specs.Bytes.{SourceState, SinkState, TakesBeside}
use Rattle.apt_base.specs.Lines.{lines_of}
use Rattle.apt_base.proofs.Counts.{IsLater-refl, IsLater-trans, Rose-before}
use Rattle.apt_base.proofs.Known.{append_known-nil, append_known-append, prepend_known-nil}
use Rattle.problem.specs.declared.limits.Which.TheVariants.{LineBytes, DialogueLines}
use Rattle.resolver_model.specs.declared.history.Command.{Command}
use Rattle.resolver_model.specs.declared.history.Reply.{Reply}
use Rattle.resolver_model.specs.declared.history.Reply.TheVariants as reply
use Rattle.resolver_model.specs.declared.history.Entry.TheVariants.{Say}
use Rattle.resolver_model.specs.Histories.{History, cursor_at}
use Rattle.resolver_model.specs.Answers.{delivery_count}
use Rattle.lone_search.specs.Answers.{is_try}
use Rattle.dialogue.specs.Texts.{greeting, prompt}
use Rattle.run_status.specs.declared.Status.{Status}
use Rattle.run_status.specs.declared.Status.TheVariants.{Accepted, Ended, ReadFault, WriteFault, NoMemory, Limit}
use Rattle.talk.specs.Transcripts.{Script, reply_of, prompt_after, entries_text, end_of, end_at, spoken, transcript}
use Rattle.talk.specs.Ends.{Scene, most_lines, commands_in, answered, IsEnd}
use Rattle.talk.specs.Runs.{IsFront, IsWritten, IsCutShort, IsTranscript, AreOfLines, IsLeftBehind, IsLinesRead, IsLaterSource, IsLaterSink, IsOver, is_own}
use Rattle.talk.specs.Turns.{IsUnsaid, IsLineTaken, IsNoLine, IsEntered, IsUnanswered, IsReply, IsReplied, IsLeft, IsSoFar, GoesOn, GoesOut}
use Rattle.talk.proofs.Quiet.{quiet_steps, quiet_tries, commands_in-quiet, commands_in-more, spoken-quiet, spoken_at, prompt_after-quiet, end_at-say}
use Rattle.talk.proofs.Spoken.{front_self, front_more, transcript_at_prompt, transcript_in_reply}
use Rattle.talk.proofs.Ending.{own_going, never_going, never_tries, going_steps, going_more, own_more, ends_never, ends_last, end_at-never}
use Rattle.talk.proofs.Remaining.{left_start, left_more, of_lines, left_behind, takes_nothing, all_read, next_long, one_further}

-- ---- inputs and outputs, later on

pub written_nothing : (a : SinkState) → IsWritten a a []
written_nothing a = sym (append_known-nil a.written)

written_twice : (a b c : SinkState) (x y : List ℕ) → IsWritten a b x → IsWritten b c y → IsWritten a c (x ++ y)
written_twice a b c x y h k = k ∙ ap (λ o. append_known o y) h ∙ append_known-append a.written x y

pub same_source : (a : SourceState) → IsLaterSource a a
same_source a = record { sure = refl; faults = IsLater-refl a.faults }

later_source : (a b c : SourceState) → IsLaterSource a b → IsLaterSource b c → IsLaterSource a c
later_source a b c h k = record { sure = k.sure ∙ h.sure; faults = IsLater-trans _ _ _ h.faults k.faults }

pub same_sink : (a : SinkState) → IsLaterSink a a
same_sink a = record { room = refl; faults = IsLater-refl a.faults }

pub later_sink : (a b c : SinkState) → IsLaterSink a b → IsLaterSink b c → IsLaterSink a c
later_sink a b c h k = record { room = k.room ∙ h.room; faults = IsLater-trans _ _ _ h.faults k.faults }

-- nothing was written, for want of memory
pub unsaid_for_memory : (text : List ℕ) (a : SinkState) → IsUnsaid text a a NoMemory
unsaid_for_memory text a = record { part = []; told = written_nothing a; front = (text, refl); cut = inr refl }

pub prompt_is : (history : History) (cursor deliveries : ℕ) → cursor ≡ cursor_at history → deliveries ≡ delivery_count history → prompt cursor deliveries ≡ prompt_after history
prompt_is history cursor deliveries c d = ap (λ n. prompt n deliveries) c ∙ ap (λ n. prompt (cursor_at history) n) d

-- ---- causes

abbrev pub IsCut : Status → SinkState → SinkState → Type 0
IsCut status old new = ((status ≡ WriteFault) × Rose old.faults new.faults) ⊎ (status ≡ NoMemory)

cut_short : (status : Status) (old new : SinkState) → IsCut status old new → IsCutShort status
cut_short status old new cut = elim cut as (λ _. IsCutShort status) [ inl fault ↦ inl fault.0 | inr none ↦ inr none ]

end_of_cut : (first new : Scene) (mid : SinkState) (status : Status) → IsLater first.out.faults mid.faults → IsCut status mid new.out → IsEnd first new status
end_of_cut first new mid status later cut =
    let P : Status → Type 0 = λ s. IsEnd first new s in
    elim cut as (λ _. IsEnd first new status) [ inl fault ↦ subst P (sym fault.0) (Rose-before _ _ _ later fault.1) | inr none ↦ subst P (sym none) tt ]

lines_of_cut : (status : Status) (old new : SinkState) (lines : ℕ) → IsCut status old new → IsLinesRead status lines lines
lines_of_cut status old new lines cut =
    let P : Status → Type 0 = λ s. IsLinesRead s lines lines in
    elim cut as (λ _. IsLinesRead status lines lines) [ inl fault ↦ subst P (sym fault.0) refl | inr none ↦ subst P (sym none) (inl refl) ]

lines_of_none : (input : Option (List ℕ)) (old new : SourceState) (status : Status) (lines : ℕ) → IsNoLine input old new status → IsLinesRead status lines lines
lines_of_none input old new Ended lines none = refl
lines_of_none input old new ReadFault lines none = refl
lines_of_none input old new (Limit LineBytes count) lines none = refl
lines_of_none input old new NoMemory lines none = inl refl
lines_of_none input old new status lines none = absurd none

-- why no line came is why the run ends
end_of_none : (s : Script) (first now : Scene) (new : SourceState) (out : SinkState) (held : List ℕ) (status : Status) (lines : ℕ) → IsSoFar s lines held first now → IsNoLine (prepend_known held now.input.left) now.input new status
    → IsEnd first (record { history = now.history; input = new; out = out }) status
end_of_none s first now new out held Ended lines so none = inr (all_read s (commands_in now.history) first.input.left (prepend_known held now.input.left) so.left none)
end_of_none s first now new out held ReadFault lines so none = Rose-before _ _ _ so.input.faults none
end_of_none s first now new out held (Limit LineBytes count) lines so none = (none.0, next_long s (commands_in now.history) first.input.left (prepend_known held now.input.left) so.left none.1)
end_of_none s first now new out held NoMemory lines so none = tt
end_of_none s first now new out held status lines so none = absurd none

-- an end that a reply makes
end_of_said : (first new : Scene) (said : Reply) (status : Status) → end_at new.history ≡ end_of said → end_of said ≡ Some status → IsEnd first new status
end_of_said first new reply.Accepted status at e = let P : Status → Type 0 = λ s. IsEnd first new s in let is : Accepted ≡ status = cc in subst P is at
end_of_said first new reply.Ended status at e = let P : Status → Type 0 = λ s. IsEnd first new s in let is : Ended ≡ status = cc in subst P is (inl at)
end_of_said first new said status at e = absurd (cc)

lines_of_said : (said : Reply) (status : Status) (lines : ℕ) → end_of said ≡ Some status → IsLinesRead status lines lines
lines_of_said reply.Accepted status lines e = let P : Status → Type 0 = λ s. IsLinesRead s lines lines in let is : Accepted ≡ status = cc in subst P is refl
lines_of_said reply.Ended status lines e = let P : Status → Type 0 = λ s. IsLinesRead s lines lines in let is : Ended ≡ status = cc in subst P is refl
lines_of_said said status lines e = absurd (cc)

-- ---- runs that end at a prompt

greeted : (s : Script) (history : History) (more : List ℕ) → IsFront (greeting s.problem) (spoken s history ++ more)
greeted s history more =
    front_more (greeting s.problem) (spoken s history) (spoken s history ++ more) (front_self (greeting s.problem) (entries_text s [] history)) (front_self (spoken s history) more)

-- nothing more was answered
pub over_at_prompt : (s : Script) (status : Status) (lines lines_now : ℕ) (held : List ℕ) (first now : Scene) (tries history : History) (input : SourceState) (out : SinkState) (part : List ℕ)
    → IsSoFar s lines held first now → lines ≤ most_lines → history ≡ now.history ++ tries → list_all is_try tries ≡ true → (status ≡ NoMemory) ⊎ (tries ≡ [])
    → IsWritten now.out out part → IsFront part (prompt_after now.history) → IsCutShort status ⊎ (part ≡ prompt_after now.history)
    → IsLinesRead status lines lines_now → TakesBeside 4097 held now.input.left input.left → IsEnd first (record { history = history; input = input; out = out }) status
    → IsLaterSource now.input input → IsLaterSink now.out out
    → IsOver s status lines_now first (record { history = history; input = input; out = out })
over_at_prompt s status lines lines_now held first now tries history input out part so few entered own unanswered told front whole read takes cause later_input later_out =
    let O : History → Type 0 = λ h. IsOver s status lines_now first (record { history = h; input = input; out = out }) in
    let E : History → Type 0 = λ h. IsEnd first (record { history = h; input = input; out = out }) status in
    let after = now.history ++ tries in
    let before = commands_in now.history in
    let quiet = quiet_tries tries own in
    let same : commands_in after ≡ before = commands_in-quiet now.history tries quiet in
    let prompt_is : prompt_after after ≡ prompt_after now.history = prompt_after-quiet now.history tries quiet in
    let never = never_tries now.history tries so.going own in
    let none : end_at after ≡ None = end_at-never after never in
    let T : List ℕ → Type 0 = λ t. IsTranscript s status after (t ++ part) in
    let F : List ℕ → Type 0 = λ p. IsFront part p in
    let W : List ℕ → Type 0 = λ p. IsCutShort status ⊎ (part ≡ p) in
    let C : List Command → Type 0 = λ cs. IfSome first.input.left (AreOfLines s cs) in
    let L : List Command → Type 0 = λ cs. IfSome first.input.left (λ bytes. IsLeftBehind (length cs) bytes input.left) in
    let N : ℕ → Type 0 = λ n. IsLinesRead status n lines_now in
    let K : Option Status → Type 0 = λ e. IfSome e (λ end. IsCutShort status ⊎ (status ≡ end)) in
    let count : lines ≡ answered after = so.lines_are ∙ sym (ap length same) in
    subst O (sym entered) (record {
      written = spoken s now.history ++ part;
      told = written_twice first.out now.out out (spoken s now.history) part so.told told;
      transcript = subst T (spoken-quiet s now.history tries quiet) (transcript_at_prompt s status after part none (subst F (sym prompt_is) front) (subst W (sym prompt_is) whole));
      untouched = inl (greeted s now.history part);
      commands = subst C (sym same) (of_lines s before first.input.left (prepend_known held now.input.left) so.left);
      few = omega (arith, count, few);
      lines_are = subst N count read;
      left = subst L (sym same) (left_behind s before held first.input.left now.input.left input.left so.left takes);
      ends = ends_never after never;
      own = elim unanswered as (λ _. (status ≡ NoMemory) ⊎ (list_all is_own after ≡ true)) [
        | inl memory ↦ inl memory
        | inr nothing ↦ inr (ap (λ t. list_all is_own (now.history ++ t)) nothing ∙ ap (list_all is_own) (append-nil now.history) ∙ own_going now.history so.going)
      ];
      cause = subst E entered cause;
      closing = subst K (sym none) tt;
      input = later_source first.input now.input input so.input later_input;
      out = later_sink first.out now.out out so.out later_out;
    })

-- ---- runs that end in a reply

cut_closing : (status : Status) (end : Option Status) → IsCutShort status → IfSome end (λ e. IsCutShort status ⊎ (status ≡ e))
cut_closing status None cut = tt
cut_closing status (Some e) cut = inl cut

pub over_in_reply : (s : Script) (status : Status) (lines : ℕ) (held held_now : List ℕ) (first now : Scene) (command : Command) (said : Reply) (history : History) (input : SourceState) (mid out : SinkState) (part : List ℕ)
    → IsSoFar s lines held first now → lines < most_lines → IsEntered command said now.history history → IsLineTaken s held held_now now.input input command
    → IsWritten now.out mid (prompt_after now.history) → IsWritten mid out part → IsFront part (reply_of s said)
    → IsCutShort status ⊎ ((part ≡ reply_of s said) × (end_of said ≡ Some status))
    → IsLinesRead status (lines + 1) (lines + 1) → (end_at history ≡ end_of said → IsEnd first (record { history = history; input = input; out = out }) status)
    → IsLaterSource now.input input → IsLaterSink now.out out
    → IsOver s status (lines + 1) first (record { history = history; input = input; out = out })
over_in_reply s status lines held held_now first now command said history input mid out part so few e taken prompted told begun whole read cause later_input later_out =
    let O : History → Type 0 = λ h. IsOver s status (lines + 1) first (record { history = h; input = input; out = out }) in
    let E : History → Type 0 = λ h. IsEnd first (record { history = h; input = input; out = out }) status in
    let before = now.history ++ e.steps in
    let entry = Say 0 command said in
    let after = before ++ entry ∷ [] in
    let quiet = quiet_steps e.steps e.own in
    let more = commands_in now.history ++ command ∷ [] in
    let same : commands_in after ≡ more = commands_in-more now.history e.steps 0 command said quiet in
    let asked = spoken s now.history ++ prompt_after now.history in
    let asked_is : spoken s before ++ prompt_after before ≡ asked =
    ap (λ t. t ++ prompt_after before) (spoken-quiet s now.history e.steps quiet) ∙ ap (λ p. spoken s now.history ++ p) (prompt_after-quiet now.history e.steps quiet) in
    let going = going_steps now.history e.steps so.going e.own in
    let left = left_more s (commands_in now.history) first.input.left (prepend_known held now.input.left) (prepend_known held_now input.left) taken.line command so.left taken.read taken.command_is in
    let T : List ℕ → Type 0 = λ t. IsTranscript s status after (t ++ part) in
    let C : List Command → Type 0 = λ cs. IfSome first.input.left (AreOfLines s cs) in
    let L : List Command → Type 0 = λ cs. IfSome first.input.left (λ bytes. IsLeftBehind (length cs) bytes input.left) in
    let N : ℕ → Type 0 = λ n. IsLinesRead status n (lines + 1) in
    let K : Option Status → Type 0 = λ o. IfSome o (λ end. IsCutShort status ⊎ (status ≡ end)) in
    let at : end_at after ≡ end_of said = end_at-say before 0 command said in
    let count : lines + 1 ≡ answered after =
    let size : answered after ≡ length more = ap length same in omega (arith, size, so.lines_are, length-append (commands_in now.history) (command ∷ [])) in
    subst O (sym e.entered) (record {
      written = asked ++ part;
      told = written_twice first.out mid out asked part (written_twice first.out now.out mid (spoken s now.history) (prompt_after now.history) so.told prompted) told;
      transcript = subst T asked_is (transcript_in_reply s status before command said part begun whole);
      untouched = inl (front_more (greeting s.problem) asked (asked ++ part) (greeted s now.history (prompt_after now.history)) (front_self asked part));
      commands = subst C (sym same) (of_lines s more first.input.left (prepend_known held_now input.left) left);
      few = omega (arith, count, few);
      lines_are = subst N count read;
      left = subst L (sym same) (left_behind s more held_now first.input.left input.left input.left left (takes_nothing held_now input.left taken.held_few));
      ends = ends_last before entry (never_going before going);
      own = inr (own_more before entry going refl);
      cause = subst E e.entered (cause (ap end_at e.entered ∙ at));
      closing = elim whole as (λ _. IfSome (end_at after) (λ end. IsCutShort status ⊎ (status ≡ end))) [
        | inl cut ↦ cut_closing status (end_at after) cut
        | inr full ↦ subst K (sym (at ∙ full.1)) (inr refl)
      ];
      input = later_source first.input now.input input so.input later_input;
      out = later_sink first.out now.out out so.out later_out;
    })

-- ---- runs that go on

pub so_far_more : (s : Script) (lines : ℕ) (held held_now : List ℕ) (now : Scene) (command : Command) (said : Reply) (history : History) (input : SourceState) (mid out : SinkState)
    → IsEntered command said now.history history → IsLineTaken s held held_now now.input input command → IsWritten now.out mid (prompt_after now.history) → IsReply s said None mid out
    → IsLaterSource now.input input → IsLaterSink now.out out
    → GoesOn s lines (lines + 1) held held_now now (record { history = history; input = input; out = out })
so_far_more s lines held held_now now command said history input mid out e taken prompted answer later_input later_out = λ first so.
    let O : History → Type 0 = λ h. IsSoFar s (lines + 1) held_now first (record { history = h; input = input; out = out }) in
    let before = now.history ++ e.steps in
    let entry = Say 0 command said in
    let after = before ++ entry ∷ [] in
    let quiet = quiet_steps e.steps e.own in
    let more = commands_in now.history ++ command ∷ [] in
    let same : commands_in after ≡ more = commands_in-more now.history e.steps 0 command said quiet in
    let asked = spoken s now.history ++ prompt_after now.history in
    let asked_is : spoken s before ++ prompt_after before ≡ asked =
    ap (λ t. t ++ prompt_after before) (spoken-quiet s now.history e.steps quiet) ∙ ap (λ p. spoken s now.history ++ p) (prompt_after-quiet now.history e.steps quiet) in
    let spoken_now : spoken s after ≡ asked ++ reply_of s said = spoken_at s before 0 command said [] refl ∙ ap (λ t. t ++ reply_of s said) asked_is in
    let left = left_more s (commands_in now.history) first.input.left (prepend_known held now.input.left) (prepend_known held_now input.left) taken.line command so.left taken.read taken.command_is in
    let W : List ℕ → Type 0 = λ t. IsWritten first.out out t in
    let I : List Command → Type 0 = λ cs. IsLeft s cs first.input.left (prepend_known held_now input.left) in
    let S : Option Status → Type 0 = λ o. not (is_some o) ≡ true in
    let size : answered after ≡ length more = ap length same in
    subst O (sym e.entered) (record {
      lines_are = omega (arith, size, so.lines_are, length-append (commands_in now.history) (command ∷ []));
      told = subst W (sym spoken_now) (written_twice first.out mid out asked (reply_of s said) (written_twice first.out now.out mid (spoken s now.history) (prompt_after now.history) so.told prompted) answer.told);
      left = subst I (sym same) left;
      held_few = taken.held_few;
      going = going_more before entry (going_steps now.history e.steps so.going e.own) (subst S (sym answer.ends) refl);
      input = later_source first.input now.input input so.input later_input;
      out = later_sink first.out now.out out so.out later_out;
    })

-- ---- the ends of a turn

-- the prompt was not written whole
pub out_unprompted : (s : Script) (status : Status) (lines : ℕ) (held : List ℕ) (now : Scene) (out : SinkState) → lines ≤ most_lines → IsUnsaid (prompt_after now.history) now.out out status → IsLaterSink now.out out
    → GoesOut s status lines lines held now (record { history = now.history; input = now.input; out = out })
out_unprompted s status lines held now out few unsaid later = λ first so.
    over_at_prompt s status lines lines held first now [] now.history now.input out unsaid.part so few (sym (append-nil now.history)) refl (inr refl)
    unsaid.told unsaid.front (inl (cut_short status now.out out unsaid.cut)) (lines_of_cut status now.out out lines unsaid.cut)
    (takes_nothing held now.input.left so.held_few) (end_of_cut first (record { history = now.history; input = now.input; out = out }) now.out status so.out.faults unsaid.cut)
    (same_source now.input) later

-- no line came
pub out_lineless : (s : Script) (status : Status) (lines : ℕ) (held : List ℕ) (now : Scene) (input : SourceState) (out : SinkState) → lines ≤ most_lines → IsWritten now.out out (prompt_after now.history) → IsLaterSink now.out out
    → IsNoLine (prepend_known held now.input.left) now.input input status → TakesBeside 4097 held now.input.left input.left → IsLaterSource now.input input
    → GoesOut s status lines lines held now (record { history = now.history; input = input; out = out })
out_lineless s status lines held now input out few told later none takes read = λ first so.
    over_at_prompt s status lines lines held first now [] now.history input out (prompt_after now.history) so few (sym (append-nil now.history)) refl (inr refl)
    told ([], sym (append-nil (prompt_after now.history))) (inr refl) (lines_of_none (prepend_known held now.input.left) now.input input status lines none)
    takes (end_of_none s first now input out held status lines so none) read later

-- a line came that is one too many
pub out_too_many : (s : Script) (lines : ℕ) (held held_now : List ℕ) (now : Scene) (command : Command) (input : SourceState) (out : SinkState) → lines ≡ most_lines → IsWritten now.out out (prompt_after now.history) → IsLaterSink now.out out
    → IsLineTaken s held held_now now.input input command → TakesBeside 4097 held now.input.left input.left → IsLaterSource now.input input
    → GoesOut s (Limit DialogueLines 100001) lines (lines + 1) held now (record { history = now.history; input = input; out = out })
out_too_many s lines held held_now now command input out full told later taken takes read = λ first so.
    let status : Status = Limit DialogueLines 100001 in
    let count : answered now.history ≡ most_lines = sym so.lines_are ∙ full in
    let N : ℕ → Type 0 = λ n. IfSome first.input.left (λ bytes. n < length (lines_of bytes)) in
    let further = one_further s (commands_in now.history) first.input.left (prepend_known held now.input.left) (prepend_known held_now input.left) taken.line so.left taken.read in
    over_at_prompt s status lines (lines + 1) held first now [] now.history input out (prompt_after now.history) so (omega (arith, full)) (sym (append-nil now.history)) refl (inr refl)
    told ([], sym (append-nil (prompt_after now.history))) (inr refl) (ap (λ n. n + 1) full)
    takes (refl, count, subst N count further) read later

-- a line came, and memory was wanting for its answer
out_unanswered : (s : Script) (status : Status) (lines : ℕ) (held held_now : List ℕ) (now : Scene) (history : History) (input : SourceState) (out : SinkState) → lines < most_lines → IsWritten now.out out (prompt_after now.history) → IsLaterSink now.out out
    → IsUnanswered status now.history history → TakesBeside 4097 held now.input.left input.left → IsLaterSource now.input input
    → GoesOut s status lines (lines + 1) held now (record { history = history; input = input; out = out })
out_unanswered s status lines held held_now now history input out few told later none takes read = λ first so.
    let N : Status → Type 0 = λ t. IsLinesRead t lines (lines + 1) in
    let E : Status → Type 0 = λ t. IsEnd first (record { history = history; input = input; out = out }) t in
    over_at_prompt s status lines (lines + 1) held first now none.tries history input out (prompt_after now.history) so (omega (arith, few)) none.entered none.own (inl none.cause)
    told ([], sym (append-nil (prompt_after now.history))) (inr refl) (subst N (sym none.cause) (inr refl))
    takes (subst E (sym none.cause) tt) read later

-- what a reply makes of a turn
pub after_reply_out : (s : Script) (lines : ℕ) (held held_now : List ℕ) (now : Scene) (command : Command) (history : History) (input : SourceState) (mid out : SinkState) (status : Status) → lines < most_lines
    → IsLineTaken s held held_now now.input input command → TakesBeside 4097 held now.input.left input.left → IsLaterSource now.input input
    → IsWritten now.out mid (prompt_after now.history) → IsLaterSink now.out mid → IsLaterSink mid out
    → IsReplied s command now.history history mid out (Err status)
    → GoesOut s status lines (lines + 1) held now (record { history = history; input = input; out = out })
after_reply_out s lines held held_now now command history input mid out status few taken takes read prompted first_later last_later (inl answer) = λ first so.
    let said = answer.0 in
    let later = later_sink now.out mid out first_later last_later in
    let new : Scene = record { history = history; input = input; out = out } in
    elim answer.2 as (λ _. IsOver s status (lines + 1) first new) [
      | inl closed ↦
          over_in_reply s status lines held held_now first now command said history input mid out (reply_of s said) so few answer.1 taken prompted closed.told ([], sym (append-nil (reply_of s said)))
          (inr (refl, closed.ends)) (lines_of_said said status (lines + 1) closed.ends) (λ at. end_of_said first new said status at closed.ends) read later
      | inr cut ↦
          over_in_reply s status lines held held_now first now command said history input mid out cut.part so few answer.1 taken prompted cut.told cut.front
          (inl (cut_short status mid out cut.cut)) (lines_of_cut status mid out (lines + 1) cut.cut) (λ _. end_of_cut first new mid status (later_sink first.out now.out mid so.out first_later).faults cut.cut) read later
    ]
after_reply_out s lines held held_now now command history input mid out status few taken takes read prompted first_later last_later (inr none) =
    let G : SinkState → Type 0 = λ o. GoesOut s status lines (lines + 1) held now (record { history = history; input = input; out = o }) in
    subst G (sym none.1) (out_unanswered s status lines held held_now now history input mid few prompted first_later none.0 takes read)

pub after_reply : (s : Script) (lines : ℕ) (held held_now : List ℕ) (now : Scene) (command : Command) (history : History) (input : SourceState) (mid out : SinkState) (result : Result (Unit {0}) Status)
    → IsLineTaken s held held_now now.input input command → IsLaterSource now.input input
    → IsWritten now.out mid (prompt_after now.history) → IsLaterSink now.out mid → IsLaterSink mid out
    → IsReplied s command now.history history mid out result
    → OnOk result (GoesOn s lines (lines + 1) held held_now now (record { history = history; input = input; out = out }))
after_reply s lines held held_now now command history input mid out (Ok done) taken read prompted first_later last_later answer =
    so_far_more s lines held held_now now command answer.0 history input mid out answer.1 taken prompted answer.2 read (later_sink now.out mid out first_later last_later)
after_reply s lines held held_now now command history input mid out (Err status) taken read prompted first_later last_later answer = tt

pub after_reply_end : (s : Script) (lines : ℕ) (held held_now : List ℕ) (now : Scene) (command : Command) (history : History) (input : SourceState) (mid out : SinkState) (result : Result (Unit {0}) Status) → lines < most_lines
    → IsLineTaken s held held_now now.input input command → TakesBeside 4097 held now.input.left input.left → IsLaterSource now.input input
    → IsWritten now.out mid (prompt_after now.history) → IsLaterSink now.out mid → IsLaterSink mid out
    → IsReplied s command now.history history mid out result
    → IfErr result (λ status. GoesOut s status lines (lines + 1) held now (record { history = history; input = input; out = out }))
after_reply_end s lines held held_now now command history input mid out (Ok done) few taken takes read prompted first_later last_later answer = tt
after_reply_end s lines held held_now now command history input mid out (Err status) few taken takes read prompted first_later last_later answer =
    after_reply_out s lines held held_now now command history input mid out status few taken takes read prompted first_later last_later answer

-- ---- the beginning

not_first : (before : History) (actor : ℕ) (command : Command) (said : Reply) (after : History) → [] ≡ before ++ Say actor command said ∷ after → ⊥
not_first before actor command said after e = not_cut before (Say actor command said) after e

no_end_yet : end_at [] ≡ None
no_end_yet = refl

-- the greeting was not written whole
pub over_ungreeted : (s : Script) (status : Status) (first : Scene) (out : SinkState) → first.history ≡ [] → IsUnsaid (greeting s.problem) first.out out status → IsLaterSink first.out out
    → IsOver s status 0 first (record { history = first.history; input = first.input; out = out })
over_ungreeted s status first out none unsaid later =
    let O : History → Type 0 = λ h. IsOver s status 0 first (record { history = h; input = first.input; out = out }) in
    let left = left_start s first.input.left in
    let greet : spoken s [] ≡ greeting s.problem = append-nil (greeting s.problem) in
    let whole : transcript s [] ≡ (unsaid.part ++ unsaid.front.0) ++ prompt_after [] = ap (λ t. t ++ prompt_after []) (greet ∙ unsaid.front.1) in
    let short = cut_short status first.out out unsaid.cut in
    subst O (sym none) (record {
      written = unsaid.part;
      told = unsaid.told;
      transcript = record {
        front = (unsaid.front.0 ++ prompt_after [], whole ∙ append_assoc unsaid.part unsaid.front.0 (prompt_after []));
        whole = inl short;
        begins = λ before actor command said after e quiet. absurd (not_first before actor command said after e);
      };
      untouched = inr refl;
      commands = of_lines s [] first.input.left first.input.left left;
      few = omega arith;
      lines_are = lines_of_cut status first.out out 0 unsaid.cut;
      left = first_left s first.input.left;
      ends = λ before entry after e. absurd (not_cut before entry after e);
      own = inr refl;
      cause = end_of_cut first (record { history = []; input = first.input; out = out }) first.out status (IsLater-refl first.out.faults) unsaid.cut;
      closing = tt;
      input = same_source first.input;
      out = later;
    })
  where
    first_left : (s : Script) (input : Option (List ℕ)) → IfSome input (λ bytes. IsLeftBehind 0 bytes input)
    first_left s None = tt
    first_left s (Some bytes) = ([], omega arith, refl)

pub so_far_greeted : (s : Script) (first : Scene) (out : SinkState) → first.history ≡ [] → IsWritten first.out out (greeting s.problem) → IsLaterSink first.out out
    → IsSoFar s 0 [] first (record { history = first.history; input = first.input; out = out })
so_far_greeted s first out none told later =
    let O : History → Type 0 = λ h. IsSoFar s 0 [] first (record { history = h; input = first.input; out = out }) in
    let W : List ℕ → Type 0 = λ t. IsWritten first.out out t in
    let I : Option (List ℕ) → Type 0 = λ i. IsLeft s [] first.input.left i in
    subst O (sym none) (record {
      lines_are = refl;
      told = subst W (sym (append-nil (greeting s.problem))) told;
      left = subst I (sym (prepend_known-nil first.input.left)) (left_start s first.input.left);
      held_few = omega arith;
      going = refl;
      input = same_source first.input;
      out = later;
    })
