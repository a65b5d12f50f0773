-- Entries that are no answers leave what is written and where the dialogue stands as it was.
use Rattle.std.proofs.Common.{◌≡◌, ◌+◌, ℕ, [], ◌∷◌, ◌++◌, Bool, true, false, Option, None, refl, ap, sym, ◌∙◌, append_assoc, append-nil, length, length-append, arith}
use Rattle.std.specs.List.{list_all, fold}
use Rattle.std.specs.Option.{unwrap_or}
use Rattle.std.proofs.lemmas.Bool.{and_parts, both_ways}
use Rattle.std.proofs.lemmas.List.Sums.{fold-append}
use Rattle.std.proofs.lemmas.List.Elements.{filter_map-append}
use Rattle.resolver_model.specs.declared.history.Command.{Command}
use Rattle.resolver_model.specs.declared.history.Reply.{Reply}
use Rattle.resolver_model.specs.declared.history.Entry.{Entry}
use Rattle.resolver_model.specs.declared.history.Entry.TheVariants.{Say, Take, Put, Back}
use Rattle.resolver_model.specs.Histories.{History, cursor_at, shown_by, given_at, delivery_of}
use Rattle.resolver_model.specs.Answers.{delivery_count}
use Rattle.lone_search.specs.Answers.{is_step, is_try}
use Rattle.dialogue.specs.Texts.{greeting, prompt}
use Rattle.run_status.specs.declared.Status.{Status}
use Rattle.talk.specs.Transcripts.{Script, reply_of, prompt_after, entry_text, entries_text, end_of, end_after, end_at, spoken}
use Rattle.talk.specs.Ends.{command_in, commands_in, answered}

-- entries of which none is an answer
quiet_all : (p : Entry → Bool) → ((actor : ℕ) (command : Command) (said : Reply) → p (Say actor command said) ≡ false) → (more : History) → list_all p more ≡ true → commands_in more ≡ []
quiet_all p none [] h = refl
quiet_all p none (Say actor command said ∷ more) h = absurd (both_ways (p (Say actor command said)) (none actor command said) (and_parts (p (Say actor command said)) (list_all p more) h).0)
quiet_all p none (Take actor leaf ∷ more) h = quiet_all p none more (and_parts (p (Take actor leaf)) (list_all p more) h).1
quiet_all p none (Put actor leaf by learned ∷ more) h = quiet_all p none more (and_parts (p (Put actor leaf by learned)) (list_all p more) h).1
quiet_all p none (Back actor leaf ∷ more) h = quiet_all p none more (and_parts (p (Back actor leaf)) (list_all p more) h).1

pub quiet_steps : (steps : History) → list_all is_step steps ≡ true → commands_in steps ≡ []
quiet_steps steps h = quiet_all is_step (λ _ _ _. refl) steps h

pub quiet_tries : (tries : History) → list_all is_try tries ≡ true → commands_in tries ≡ []
quiet_tries tries h = quiet_all is_try (λ _ _ _. refl) tries h

pub commands_in-append : (front back : History) → commands_in (front ++ back) ≡ commands_in front ++ commands_in back
commands_in-append front back = filter_map-append command_in front back

pub commands_in-quiet : (history more : History) → commands_in more ≡ [] → commands_in (history ++ more) ≡ commands_in history
commands_in-quiet history more quiet = commands_in-append history more ∙ ap (λ cs. commands_in history ++ cs) quiet ∙ append-nil (commands_in history)

-- one more answer, behind steps
pub commands_in-more : (history steps : History) (actor : ℕ) (command : Command) (said : Reply) → commands_in steps ≡ [] → commands_in (history ++ steps ++ Say actor command said ∷ []) ≡ commands_in history ++ command ∷ []
commands_in-more history steps actor command said quiet =
    commands_in-append (history ++ steps) (Say actor command said ∷ []) ∙ ap (λ cs. cs ++ command ∷ []) (commands_in-quiet history steps quiet)

pub answered_at : (before : History) (actor : ℕ) (command : Command) (said : Reply) (after : History) → answered (before ++ Say actor command said ∷ after) ≡ answered before + 1 + answered after
answered_at before actor command said after =
    let e : answered (before ++ Say actor command said ∷ after) ≡ length (commands_in before ++ command ∷ commands_in after) = ap length (commands_in-append before (Say actor command said ∷ after)) in
    omega (arith, e, length-append (commands_in before) (command ∷ commands_in after))

-- ---- texts

entries_text-quiet : (s : Script) (before more : History) → commands_in more ≡ [] → entries_text s before more ≡ []
entries_text-quiet s before [] h = refl
entries_text-quiet s before (Say actor command said ∷ more) h = let g : command ∷ commands_in more ≡ [] = h in absurd (cc)
entries_text-quiet s before (Take actor leaf ∷ more) h = entries_text-quiet s (before ++ Take actor leaf ∷ []) more h
entries_text-quiet s before (Put actor leaf by learned ∷ more) h = entries_text-quiet s (before ++ Put actor leaf by learned ∷ []) more h
entries_text-quiet s before (Back actor leaf ∷ more) h = entries_text-quiet s (before ++ Back actor leaf ∷ []) more h

entries_text-append : (s : Script) (before front back : History) → entries_text s before (front ++ back) ≡ entries_text s before front ++ entries_text s (before ++ front) back
entries_text-append s before [] back = ap (λ h. entries_text s h back) (sym (append-nil before))
entries_text-append s before (x ∷ front) back =
    let next = before ++ x ∷ [] in
    ap (λ t. entry_text s before x ++ t) (entries_text-append s next front back ∙ ap (λ h. entries_text s next front ++ entries_text s h back) (append_assoc before (x ∷ []) front))
    ∙ sym (append_assoc (entry_text s before x) (entries_text s next front) (entries_text s (before ++ x ∷ front) back))

pub spoken-quiet : (s : Script) (history more : History) → commands_in more ≡ [] → spoken s (history ++ more) ≡ spoken s history
spoken-quiet s history more quiet =
    ap (λ t. greeting s.problem ++ t) (entries_text-append s [] history more ∙ ap (λ t. entries_text s [] history ++ t) (entries_text-quiet s history more quiet) ∙ append-nil (entries_text s [] history))

-- what was said before the last answer, and the answer
pub spoken_at : (s : Script) (before : History) (actor : ℕ) (command : Command) (said : Reply) (after : History) → commands_in after ≡ []
    → spoken s (before ++ Say actor command said ∷ after) ≡ (spoken s before ++ prompt_after before) ++ reply_of s said
spoken_at s before actor command said after quiet =
    let greet = greeting s.problem in
    let first = entries_text s [] before in
    let last = prompt_after before ++ reply_of s said in
    let rest = entries_text s (before ++ Say actor command said ∷ []) after in
    ap (λ t. greet ++ t) (entries_text-append s [] before (Say actor command said ∷ after) ∙ ap (λ t. first ++ (last ++ t)) (entries_text-quiet s (before ++ Say actor command said ∷ []) after quiet) ∙ ap (λ t. first ++ t) (append-nil last))
    ∙ sym (append_assoc greet first last)
    ∙ sym (append_assoc (greet ++ first) (prompt_after before) (reply_of s said))

-- ---- where the dialogue stands

given_at-quiet : (more : History) → commands_in more ≡ [] → given_at more ≡ []
given_at-quiet [] h = refl
given_at-quiet (Say actor command said ∷ more) h = let g : command ∷ commands_in more ≡ [] = h in absurd (cc)
given_at-quiet (Take actor leaf ∷ more) h = given_at-quiet more h
given_at-quiet (Put actor leaf by learned ∷ more) h = given_at-quiet more h
given_at-quiet (Back actor leaf ∷ more) h = given_at-quiet more h

cursor-quiet : (more : History) (cursor : ℕ) → commands_in more ≡ [] → fold (λ (now : ℕ) (entry : Entry). unwrap_or (shown_by entry) now) cursor more ≡ cursor
cursor-quiet [] cursor h = refl
cursor-quiet (Say actor command said ∷ more) cursor h = let g : command ∷ commands_in more ≡ [] = h in absurd (cc)
cursor-quiet (Take actor leaf ∷ more) cursor h = cursor-quiet more cursor h
cursor-quiet (Put actor leaf by learned ∷ more) cursor h = cursor-quiet more cursor h
cursor-quiet (Back actor leaf ∷ more) cursor h = cursor-quiet more cursor h

pub prompt_after-quiet : (history more : History) → commands_in more ≡ [] → prompt_after (history ++ more) ≡ prompt_after history
prompt_after-quiet history more quiet =
    let cursor : cursor_at (history ++ more) ≡ cursor_at history =
    fold-append (λ (now : ℕ) (entry : Entry). unwrap_or (shown_by entry) now) 0 history more ∙ cursor-quiet more (cursor_at history) quiet in
    let count : delivery_count (history ++ more) ≡ delivery_count history =
    ap length (filter_map-append delivery_of history more ∙ ap (λ g. given_at history ++ g) (given_at-quiet more quiet) ∙ append-nil (given_at history)) in
    ap (λ n. prompt n (delivery_count (history ++ more))) cursor ∙ ap (λ n. prompt (cursor_at history) n) count

end-quiet : (more : History) (end : Option Status) → commands_in more ≡ [] → fold end_after end more ≡ end
end-quiet [] end h = refl
end-quiet (Say actor command said ∷ more) end h = let g : command ∷ commands_in more ≡ [] = h in absurd (cc)
end-quiet (Take actor leaf ∷ more) end h = end-quiet more end h
end-quiet (Put actor leaf by learned ∷ more) end h = end-quiet more end h
end-quiet (Back actor leaf ∷ more) end h = end-quiet more end h

pub end_at-quiet : (history more : History) → commands_in more ≡ [] → end_at (history ++ more) ≡ end_at history
end_at-quiet history more quiet = fold-append end_after None history more ∙ end-quiet more (end_at history) quiet

pub end_at-say : (history : History) (actor : ℕ) (command : Command) (said : Reply) → end_at (history ++ Say actor command said ∷ []) ≡ end_of said
end_at-say history actor command said = fold-append end_after None history (Say actor command said ∷ [])
