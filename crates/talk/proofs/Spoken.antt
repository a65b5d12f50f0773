-- Transcripts of histories that end at a prompt or in a reply.
use Rattle.std.proofs.Common.{inl, inr, ◌≡◌, ◌⊎◌, ℕ, List, [], ◌∷◌, ◌++◌, Option, Some, None, refl, ap, sym, subst, ◌∙◌, append_assoc, append-nil, length, arith}
use Rattle.lists.proofs.Cuts.{cases_last}
use Rattle.resolver_model.specs.declared.history.Command.{Command}
use Rattle.resolver_model.specs.declared.history.Reply.{Reply}
use Rattle.resolver_model.specs.declared.history.Entry.TheVariants.{Say}
use Rattle.resolver_model.specs.Histories.{History}
use Rattle.run_status.specs.declared.Status.{Status}
use Rattle.talk.specs.Transcripts.{Script, reply_of, prompt_after, end_of, end_at, prompt_unless, spoken, transcript}
use Rattle.talk.specs.Ends.{commands_in, answered}
use Rattle.talk.specs.Runs.{IsFront, IsCutShort, IsTranscript}
use Rattle.talk.proofs.Quiet.{answered_at, spoken_at, end_at-say}

pub front_self : (a b : List ℕ) → IsFront a (a ++ b)
front_self a b = (b, refl)

pub front_more : (a b c : List ℕ) → IsFront a b → IsFront b c → IsFront a c
front_more a b c h k = (h.0 ++ k.0, k.1 ∙ ap (λ x. x ++ k.0) h.1 ∙ append_assoc a h.0 k.0)

front_unless : (text : List ℕ) (history : History) (end : Option Status) → IsFront (text ++ prompt_unless end history) (text ++ prompt_after history)
front_unless text history None = ([], sym (append-nil (text ++ prompt_after history)))
front_unless text history (Some end) = (prompt_after history, ap (λ t. t ++ prompt_after history) (sym (append-nil text)))

transcript_front : (s : Script) (history : History) → IsFront (transcript s history) (spoken s history ++ prompt_after history)
transcript_front s history = front_unless (spoken s history) history (end_at history)

-- what begins with all that was spoken begins with the transcript before the last answer
begins_spoken : (s : Script) (history : History) (written : List ℕ) → IsFront (spoken s history) written → (before : History) (actor : ℕ) (command : Command) (said : Reply) (after : History)
    → history ≡ before ++ Say actor command said ∷ after → commands_in after ≡ [] → IsFront (transcript s before) written
begins_spoken s history written h before actor command said after e quiet =
    let asked = spoken s before ++ prompt_after before in
    front_more (transcript s before) asked written (transcript_front s before)
    (front_more asked (spoken s history) written (reply_of s said, ap (spoken s) e ∙ spoken_at s before actor command said after quiet) h)

-- a run that ends at a prompt
pub transcript_at_prompt : (s : Script) (status : Status) (history : History) (part : List ℕ) → end_at history ≡ None → IsFront part (prompt_after history) → IsCutShort status ⊎ (part ≡ prompt_after history)
    → IsTranscript s status history (spoken s history ++ part)
transcript_at_prompt s status history part none front whole =
    let last : prompt_unless (end_at history) history ≡ prompt_after history = ap (λ e. prompt_unless e history) none in
    record {
      front = (front.0, ap (λ t. spoken s history ++ t) (last ∙ front.1) ∙ sym (append_assoc (spoken s history) part front.0));
      whole = elim whole as (λ _. IsCutShort status ⊎ (spoken s history ++ part ≡ transcript s history)) [
        | inl cut ↦ inl cut
        | inr full ↦ inr (ap (λ t. spoken s history ++ t) (full ∙ sym last))
      ];
      begins = begins_spoken s history (spoken s history ++ part) (front_self (spoken s history) part);
    }

too_many : (front : History) (x y : Command) (one two : Reply) (a b : ℕ) (before after rest : History) → front ++ Say a x one ∷ [] ≡ before ++ Say b y two ∷ after → commands_in after ≡ [] → front ≡ before ++ Say b y two ∷ rest → ⊥
too_many front x y one two a b before after rest e quiet f =
    let none : answered after ≡ 0 = ap length quiet in
    let left = answered_at front a x one [] in
    let right = answered_at before b y two after in
    let inner = answered_at before b y two rest in
    let whole : answered (front ++ Say a x one ∷ []) ≡ answered (before ++ Say b y two ∷ after) = ap answered e in
    let part : answered front ≡ answered (before ++ Say b y two ∷ rest) = ap answered f in
    omega (arith, none, left, right, inner, whole, part)

-- a run that ends in a reply
pub transcript_in_reply : (s : Script) (status : Status) (front : History) (command : Command) (said : Reply) (part : List ℕ) → IsFront part (reply_of s said)
    → IsCutShort status ⊎ ((part ≡ reply_of s said) × (end_of said ≡ Some status))
    → IsTranscript s status (front ++ Say 0 command said ∷ []) ((spoken s front ++ prompt_after front) ++ part)
transcript_in_reply s status front command said part begun whole =
    let now = front ++ Say 0 command said ∷ [] in
    let asked = spoken s front ++ prompt_after front in
    let last = prompt_unless (end_at now) now in
    let spoken_now : spoken s now ≡ asked ++ reply_of s said = spoken_at s front 0 command said [] refl in
    record {
      front = (
        begun.0 ++ last,
        ap (λ t. t ++ last) (spoken_now ∙ ap (λ t. asked ++ t) begun.1 ∙ sym (append_assoc asked part begun.0)) ∙ append_assoc (asked ++ part) begun.0 last,
      );
      whole = elim whole as (λ _. IsCutShort status ⊎ (asked ++ part ≡ transcript s now)) [
        | inl cut ↦ inl cut
        | inr full ↦
            let nothing : last ≡ [] = ap (λ e. prompt_unless e now) (end_at-say front 0 command said ∙ full.1) in
            inr (ap (λ t. asked ++ t) full.0 ∙ sym spoken_now ∙ sym (ap (λ t. spoken s now ++ t) nothing ∙ append-nil (spoken s now)))
      ];
      begins = λ before actor other answer after e quiet.
          elim (cases_last front (Say 0 command said) before (Say actor other answer) after e) as (λ _. IsFront (transcript s before) (asked ++ part)) [
            | inl same ↦
                let P : History → Type 0 = λ b. IsFront (transcript s b) (asked ++ part) in
                subst P (sym same.0) (front_more (transcript s front) asked (asked ++ part) (transcript_front s front) (front_self asked part))
            | inr more ↦ absurd (too_many front command other said answer 0 actor before after more.0 e quiet more.1)
          ];
    }
