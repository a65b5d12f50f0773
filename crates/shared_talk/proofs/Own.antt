-- What depends on answers alone is the same for all entries and for those of actor 0, where only actor 0 is answered.
use Rattle.std.proofs.Common.{inl, inr, ◌≡◌, ◌⊎◌, ◌==◌, ℕ, List, [], ◌∷◌, ◌++◌, Bool, true, false, cond, Option, Some, None, refl, ap, sym, subst, ◌∙◌, append-nil, length}
use Rattle.std.specs.List.{list_all, fold, filter_map, cons_option}
use Rattle.std.specs.Option.{unwrap_or}
use Rattle.std.proofs.lemmas.Bool.{and_parts, and_from, both_ways}
use Rattle.std.proofs.lemmas.List.Folds.{list_all-append}
use Rattle.resolver_model.specs.declared.history.Entry.{Entry}
use Rattle.resolver_model.specs.declared.history.Entry.TheVariants.{Say, Take, Put, Back}
use Rattle.resolver_model.specs.Histories.{History, cursor_at, shown_by, delivery_of}
use Rattle.resolver_model.specs.Answers.{delivery_count}
use Rattle.cell_rule.specs.Views.{actor_of}
use Rattle.cell_rule.proofs.Basics.{entries_more}
use Rattle.dialogue.specs.Texts.{greeting, prompt}
use Rattle.run_status.specs.declared.Status.{Status}
use Rattle.talk.specs.Transcripts.{Script, reply_of, prompt_after, prompt_unless, entry_text, entries_text, end_by, end_after, end_at, spoken, transcript}
use Rattle.talk.specs.Ends.{Scene, command_in, commands_in}
use Rattle.talk.specs.Runs.{IsFront, IsCutShort, IsTranscript, IsOver, EndsOnce}
use Rattle.shared_talk.specs.Shared.{is_talkers, own_part, own_scene, EndsLast, IsOverShared}

-- ---- entries of others

-- no answer
other_quiet : (e : Entry) → is_talkers e ≡ true → (actor_of e == 0) ≡ false → command_in e ≡ None
other_quiet (Say actor command said) ours other = absurd (both_ways (actor == 0) other ours)
other_quiet (Take actor leaf) ours other = refl
other_quiet (Put actor leaf by learned) ours other = refl
other_quiet (Back actor leaf) ours other = refl

kept : (e : Entry) (es : History) → (actor_of e == 0) ≡ true → own_part (e ∷ es) ≡ e ∷ own_part es
kept e es is = ap (λ b. cond b (e ∷ own_part es) (own_part es)) is

dropped : (e : Entry) (es : History) → (actor_of e == 0) ≡ false → own_part (e ∷ es) ≡ own_part es
dropped e es is = ap (λ b. cond b (e ∷ own_part es) (own_part es)) is

first_alone : (e : Entry) (es : History) → list_all is_talkers (e ∷ es) ≡ true → is_talkers e ≡ true
first_alone e es alone = (and_parts (is_talkers e) (list_all is_talkers es) alone).0

rest_alone : (e : Entry) (es : History) → list_all is_talkers (e ∷ es) ≡ true → list_all is_talkers es ≡ true
rest_alone e es alone = (and_parts (is_talkers e) (list_all is_talkers es) alone).1

pub front_alone : (front back : History) → list_all is_talkers (front ++ back) ≡ true → list_all is_talkers front ≡ true
front_alone front back alone = (and_parts (list_all is_talkers front) (list_all is_talkers back) (sym (list_all-append is_talkers front back) ∙ alone)).0

pub back_alone : (front back : History) → list_all is_talkers (front ++ back) ≡ true → list_all is_talkers back ≡ true
back_alone front back alone = (and_parts (list_all is_talkers front) (list_all is_talkers back) (sym (list_all-append is_talkers front back) ∙ alone)).1

-- ---- folds and lists over answers

module _ {A : Type 0} (f : A → Entry → A) (quiet : (a : A) (e : Entry) → command_in e ≡ None → f a e ≡ a) where
  fold_own : (a : A) (es : History) → list_all is_talkers es ≡ true → fold f a (own_part es) ≡ fold f a es
  fold_own a [] alone = refl
  fold_own a (e ∷ es) alone = at (actor_of e == 0) refl (fold_own (f a e) es (rest_alone e es alone)) (fold_own a es (rest_alone e es alone))
    where
      at : (b : Bool) → (actor_of e == 0) ≡ b → fold f (f a e) (own_part es) ≡ fold f (f a e) es → fold f a (own_part es) ≡ fold f a es
          → fold f a (own_part (e ∷ es)) ≡ fold f a (e ∷ es)
      at true is next same = ap (fold f a) (kept e es is) ∙ next
      at false is next same = ap (fold f a) (dropped e es is) ∙ same ∙ sym (ap (λ x. fold f x es) (quiet a e (other_quiet e (first_alone e es alone) is)))

module _ {B : Type 0} (g : Entry → Option B) (quiet : (e : Entry) → command_in e ≡ None → g e ≡ None) where
  list_own : (es : History) → list_all is_talkers es ≡ true → filter_map g (own_part es) ≡ filter_map g es
  list_own [] alone = refl
  list_own (e ∷ es) alone = at (actor_of e == 0) refl (list_own es (rest_alone e es alone))
    where
      at : (b : Bool) → (actor_of e == 0) ≡ b → filter_map g (own_part es) ≡ filter_map g es → filter_map g (own_part (e ∷ es)) ≡ filter_map g (e ∷ es)
      at true is next = ap (filter_map g) (kept e es is) ∙ ap (cons_option (g e)) next
      at false is next = ap (filter_map g) (dropped e es is) ∙ next ∙ sym (ap (λ o. cons_option o (filter_map g es)) (quiet e (other_quiet e (first_alone e es alone) is)))

shown_quiet : (cursor : ℕ) (e : Entry) → command_in e ≡ None → unwrap_or (shown_by e) cursor ≡ cursor
shown_quiet cursor (Say actor command said) none = let f : Some command ≡ None = none in absurd (cc)
shown_quiet cursor (Take actor leaf) none = refl
shown_quiet cursor (Put actor leaf by learned) none = refl
shown_quiet cursor (Back actor leaf) none = refl

end_quiet : (end : Option Status) (e : Entry) → command_in e ≡ None → end_after end e ≡ end
end_quiet end (Say actor command said) none = let f : Some command ≡ None = none in absurd (cc)
end_quiet end (Take actor leaf) none = refl
end_quiet end (Put actor leaf by learned) none = refl
end_quiet end (Back actor leaf) none = refl

delivery_quiet : (e : Entry) → command_in e ≡ None → delivery_of e ≡ None
delivery_quiet (Say actor command said) none = let f : Some command ≡ None = none in absurd (cc)
delivery_quiet (Take actor leaf) none = refl
delivery_quiet (Put actor leaf by learned) none = refl
delivery_quiet (Back actor leaf) none = refl

pub cursor_own : (h : History) → list_all is_talkers h ≡ true → cursor_at (own_part h) ≡ cursor_at h
cursor_own h alone = fold_own (λ (now : ℕ) (entry : Entry). unwrap_or (shown_by entry) now) shown_quiet 0 h alone

pub count_own : (h : History) → list_all is_talkers h ≡ true → delivery_count (own_part h) ≡ delivery_count h
count_own h alone = ap length (list_own delivery_of delivery_quiet h alone)

pub end_own : (h : History) → list_all is_talkers h ≡ true → end_at (own_part h) ≡ end_at h
end_own h alone = fold_own end_after end_quiet None h alone

pub commands_own : (h : History) → list_all is_talkers h ≡ true → commands_in (own_part h) ≡ commands_in h
commands_own h alone = list_own command_in (λ e none. none) h alone

-- ---- texts

pub prompt_own : (h : History) → list_all is_talkers h ≡ true → prompt_after (own_part h) ≡ prompt_after h
prompt_own h alone = ap (λ n. prompt n (delivery_count (own_part h))) (cursor_own h alone) ∙ ap (prompt (cursor_at h)) (count_own h alone)

text_quiet : (s : Script) (before : History) (e : Entry) → command_in e ≡ None → entry_text s before e ≡ []
text_quiet s before (Say actor command said) none = let f : Some command ≡ None = none in absurd (cc)
text_quiet s before (Take actor leaf) none = refl
text_quiet s before (Put actor leaf by learned) none = refl
text_quiet s before (Back actor leaf) none = refl

text_own : (s : Script) (before : History) (e : Entry) → list_all is_talkers before ≡ true → entry_text s (own_part before) e ≡ entry_text s before e
text_own s before (Say actor command said) alone = ap (λ t. t ++ reply_of s said) (prompt_own before alone)
text_own s before (Take actor leaf) alone = refl
text_own s before (Put actor leaf by learned) alone = refl
text_own s before (Back actor leaf) alone = refl

one_alone : (before : History) (e : Entry) → list_all is_talkers before ≡ true → is_talkers e ≡ true → list_all is_talkers (before ++ e ∷ []) ≡ true
one_alone before e alone one = list_all-append is_talkers before (e ∷ []) ∙ and_from (list_all is_talkers before) (list_all is_talkers (e ∷ [])) alone (and_from (is_talkers e) true one refl)

texts_own : (s : Script) (before es : History) → list_all is_talkers before ≡ true → list_all is_talkers es ≡ true → entries_text s (own_part before) (own_part es) ≡ entries_text s before es
texts_own s before [] first alone = refl
texts_own s before (e ∷ es) first alone =
    at (actor_of e == 0) refl (texts_own s (before ++ e ∷ []) es (one_alone before e first (first_alone e es alone)) (rest_alone e es alone))
  where
    at : (b : Bool) → (actor_of e == 0) ≡ b → entries_text s (own_part (before ++ e ∷ [])) (own_part es) ≡ entries_text s (before ++ e ∷ []) es
        → entries_text s (own_part before) (own_part (e ∷ es)) ≡ entries_text s before (e ∷ es)
    at true is next =
        let more : own_part before ++ e ∷ [] ≡ own_part (before ++ e ∷ []) = ap (λ l. own_part before ++ l) (sym (kept e [] is)) ∙ sym (entries_more 0 before (e ∷ [])) in
        ap (entries_text s (own_part before)) (kept e es is)
        ∙ ap (λ t. t ++ entries_text s (own_part before ++ e ∷ []) (own_part es)) (text_own s before e first)
        ∙ ap (λ l. entry_text s before e ++ entries_text s l (own_part es)) more
        ∙ ap (λ t. entry_text s before e ++ t) next
    at false is next =
        let more : own_part before ≡ own_part (before ++ e ∷ []) = sym (append-nil (own_part before)) ∙ ap (λ l. own_part before ++ l) (sym (dropped e [] is)) ∙ sym (entries_more 0 before (e ∷ [])) in
        let nothing : entry_text s before e ≡ [] = text_quiet s before e (other_quiet e (first_alone e es alone) is) in
        ap (entries_text s (own_part before)) (dropped e es is)
        ∙ ap (λ l. entries_text s l (own_part es)) more
        ∙ next
        ∙ sym (ap (λ t. t ++ entries_text s (before ++ e ∷ []) es) nothing)

pub spoken_own : (s : Script) (h : History) → list_all is_talkers h ≡ true → spoken s (own_part h) ≡ spoken s h
spoken_own s h alone = ap (λ t. greeting s.problem ++ t) (texts_own s [] h refl alone)

pub transcript_own : (s : Script) (h : History) → list_all is_talkers h ≡ true → transcript s (own_part h) ≡ transcript s h
transcript_own s h alone =
    ap (λ t. t ++ prompt_unless (end_at (own_part h)) (own_part h)) (spoken_own s h alone)
    ∙ ap (λ e. spoken s h ++ prompt_unless e (own_part h)) (end_own h alone)
    ∙ ap (λ t. spoken s h ++ t) (last (end_at h))
  where
    last : (end : Option Status) → prompt_unless end (own_part h) ≡ prompt_unless end h
    last None = prompt_own h alone
    last (Some end) = refl

-- ---- cuts

-- where all entries are cut at an answer, its actor's are too
cut_own : (h before : History) (e : Entry) (after : History) → (actor_of e == 0) ≡ true → h ≡ before ++ e ∷ after → own_part h ≡ own_part before ++ e ∷ own_part after
cut_own h before e after is cut = ap own_part cut ∙ entries_more 0 before (e ∷ after) ∙ ap (λ l. own_part before ++ l) (kept e after is)

at_cut : (h before : History) (e : Entry) (after : History) → h ≡ before ++ e ∷ after → list_all is_talkers h ≡ true → list_all is_talkers (before ++ e ∷ after) ≡ true
at_cut h before e after cut alone = ap (list_all is_talkers) (sym cut) ∙ alone

after_alone : (before : History) (e : Entry) (after : History) → list_all is_talkers (before ++ e ∷ after) ≡ true → list_all is_talkers after ≡ true
after_alone before e after alone = rest_alone e after (back_alone before (e ∷ after) alone)

pub transcript_all : (s : Script) (status : Status) (h : History) (written : List ℕ) → list_all is_talkers h ≡ true → IsTranscript s status (own_part h) written → IsTranscript s status h written
transcript_all s status h written alone own =
    let whole : transcript s (own_part h) ≡ transcript s h = transcript_own s h alone in
    let F : List ℕ → Type 0 = λ t. IsFront written t in
    let W : List ℕ → Type 0 = λ t. IsCutShort status ⊎ (written ≡ t) in
    record {
      front = subst F whole own.front;
      whole = subst W whole own.whole;
      begins = λ before actor command said after cut quiet.
          let e = Say actor command said in
          let all = at_cut h before e after cut alone in
          let is : (actor == 0) ≡ true = first_alone e after (back_alone before (e ∷ after) all) in
          let P : List ℕ → Type 0 = λ t. IsFront t written in
          subst P (transcript_own s before (front_alone before (e ∷ after) all))
          (own.begins (own_part before) actor command said (own_part after) (cut_own h before e after is cut) (commands_own after (after_alone before e after all) ∙ quiet));
    }

no_end_by : (e : Entry) → command_in e ≡ None → end_by e ≡ None
no_end_by (Say actor command said) none = let f : Some command ≡ None = none in absurd (cc)
no_end_by (Take actor leaf) none = refl
no_end_by (Put actor leaf by learned) none = refl
no_end_by (Back actor leaf) none = refl

pub ends_all : (h : History) → list_all is_talkers h ≡ true → EndsOnce (own_part h) → EndsLast h
ends_all h alone once before e after cut = at (actor_of e == 0) refl
  where
    all : list_all is_talkers (before ++ e ∷ after) ≡ true
    all = at_cut h before e after cut alone

    at : (b : Bool) → (actor_of e == 0) ≡ b → (end_by e ≡ None) ⊎ (commands_in after ≡ [])
    at true is =
        elim (once (own_part before) e (own_part after) (cut_own h before e after is cut)) as (λ _. (end_by e ≡ None) ⊎ (commands_in after ≡ [])) [
          | inl none ↦ inl none
          | inr nothing ↦ inr (sym (commands_own after (after_alone before e after all)) ∙ ap commands_in nothing)
        ]
    at false is = inl (no_end_by e (other_quiet e (first_alone e after (back_alone before (e ∷ after) all)) is))

-- a run that is over for actor 0 is over for all
pub over_shared : (s : Script) (status : Status) (lines : ℕ) (old new : Scene) → list_all is_talkers new.history ≡ true → IsOver s status lines old (own_scene new) → IsOverShared s status lines old new
over_shared s status lines old new alone own = record {
  alone = alone;
  own = own;
  commands = sym (commands_own new.history alone);
  end = sym (end_own new.history alone);
  transcript = transcript_all s status new.history own.written alone own.transcript;
  ends = ends_all new.history alone own.ends;
}
