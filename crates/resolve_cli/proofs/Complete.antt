-- A run to which nothing is wanting ends well.
use Rattle.std.proofs.Common.{inl, inr, ◌≡◌, ◌⊎◌, ◌≤◌, ◌<◌, ◌∷◌, ℕ, List, [], Option, Some, None, IfSome, IsTrue, length, refl, sym, subst, ◌∙◌, arith}
use Rattle.std.specs.Option.{IsSomeAnd}
use Rattle.apt_base.specs.Faults.{Rose, ByName, at_name, faults_of}
use Rattle.apt_base.specs.Lines.{lines_of, before_newline, most_line_bytes}
use Rattle.clap.specs.Words.{Text}
use Rattle.grounds.specs.Grounds.{refusal}
use Rattle.lists.proofs.Members.{Member, Member-append_right}
use Rattle.problem.specs.declared.limits.Which.TheVariants.{FileBytes, LineBytes, DialogueLines}
use Rattle.resolve_cli.specs.Beginnings.{IsAtWords, IsAtTexts, IsAtGround, IsRefusal}
use Rattle.resolve_cli.specs.Completeness.{AreLinesFit, IsThere, IsWellProvided, EndsWell}
use Rattle.resolve_cli.specs.Reports.{World, scene_in, IsRun}
use Rattle.resolve_cli.specs.Words.{is_accepted, settings_in, names_in}
use Rattle.resolve_cli.specs.declared.run.Report.{Report}
use Rattle.resolve_cli.proofs.Ended.{IsEndedBy, ended_alone}
use Rattle.resolve_cli.proofs.Accepted.{names_are, not_refused}
use Rattle.run_status.specs.declared.Status.{Status}
use Rattle.run_status.specs.declared.Status.TheVariants.{Accepted, Ended, Usage, ReadFault, WriteFault, NoMemory, Limit}
use Rattle.sources.specs.Sources.{AreSources, IsUnread, IsCut, AreUnread}
use Rattle.talk.specs.Ends.{Scene, most_lines, behind_lines, answered, IsEnd}
use Rattle.universe_model.specs.Limits.{most_file_bytes}

at_words_ends : (words : List Text) (status : Status) → IsTrue (is_accepted words) → IsAtWords words status → EndsWell status
at_words_ends words (Usage fault) accepted h = absurd (not_refused words fault accepted h)
at_words_ends words NoMemory accepted h = inr (inr refl)
at_words_ends words status accepted h = absurd h

-- a file that is there and small is not long
not_long : (found : Option (List ℕ)) (text : List ℕ) → found ≡ Some text → length text ≤ most_file_bytes → IsSomeAnd found (λ t. most_file_bytes < length t) → ⊥
not_long None text there small long = absurd (cc)
not_long (Some t) text there small long =
    let same : t ≡ text = cc in
    let more : most_file_bytes < length text = subst (λ x. most_file_bytes < length x) same long in
    absurd (omega (arith, more, small))

read_ends : (told : ByName (List ℕ)) (before now : ByName ℕ) (name : List ℕ) (status : Status) → IsThere told name → (Rose (faults_of before name) (faults_of now name) → ⊥) → IsUnread (Some told) before now name status → EndsWell status
read_ends told before now name ReadFault there sound unread = absurd (sound unread)
read_ends told before now name (Limit FileBytes count) there sound unread = absurd (not_long (at_name told name) there.0 there.1 there.2 unread.1)
read_ends told before now name NoMemory there sound unread = inr (inr refl)
read_ends told before now name status there sound unread = absurd unread

cut_ends : (words : List Text) (old new : World) (status : Status) → IsWellProvided words old new → IsCut old.shelf.files old.shelf.asked new.shelf.asked (names_in words) status → EndsWell status
cut_ends words old new status w cut =
    let member : Member cut.name (names_in words) = subst (λ n. Member cut.name n) (sym cut.order) (Member-append_right cut.name cut.read (cut.name ∷ cut.unasked) (inl refl)) in
    let F : Option (ByName (List ℕ)) → Type 0 = λ files. IsUnread files old.shelf.asked new.shelf.asked cut.name status in
    read_ends w.files old.shelf.asked new.shelf.asked cut.name status (w.there cut.name member) (w.shelf_sound cut.name member) (subst F w.told cut.cause)

at_texts_ends : (words : List Text) (old new : World) (status : Status) → IsWellProvided words old new → IsAtTexts words old.shelf new.shelf status → EndsWell status
at_texts_ends words old new status w h =
    let N : List (List ℕ) → Type 0 = λ names. AreUnread old.shelf.files old.shelf.asked new.shelf.asked names status in
    elim (subst N (sym (names_are words h.accepted)) h.unread) as (λ _. EndsWell status) [ inl none ↦ inr (inr none.0) | inr cut ↦ cut_ends words old new status w cut ]

not_both : (found : Option Status) (status : Status) → found ≡ None → found ≡ Some status → ⊥
not_both found status none some = let e : None ≡ Some status = sym none ∙ some in absurd (cc)

at_ground_ends : (words : List Text) (old new : World) (status : Status) → IsWellProvided words old new → IsAtGround words old.shelf status → EndsWell status
at_ground_ends words old new status w h =
    let F : Option (ByName (List ℕ)) → Type 0 = λ files. AreSources files (settings_in words) h.texts in
    let none : refusal (settings_in words) h.texts ≡ None = w.unrefused h.texts (subst F w.told h.read) in
    elim h.refused as (λ _. EndsWell status) [ inl memory ↦ inr (inr memory) | inr some ↦ absurd (not_both (refusal (settings_in words) h.texts) status none some) ]

refusal_ends : (words : List Text) (old new : World) (status : Status) → IsWellProvided words old new → IsRefusal words old.shelf new.shelf status → EndsWell status
refusal_ends words old new status w cause =
    elim cause as (λ _. EndsWell status) [ inl h ↦ at_words_ends words status w.accepted h | inr later ↦ refusal_later words old new status w later ]
  where
    refusal_later : (words : List Text) (old new : World) (status : Status) → IsWellProvided words old new → IsAtTexts words old.shelf new.shelf status ⊎ IsAtGround words old.shelf status → EndsWell status
    refusal_later words old new status w later =
        elim later as (λ _. EndsWell status) [ inl h ↦ at_texts_ends words old new status w h | inr h ↦ at_ground_ends words old new status w h ]

-- what a clause says of a told input
of_told : (input : Option (List ℕ)) (bytes : List ℕ) (P : List ℕ → Type 0) → input ≡ Some bytes → IfSome input P → P bytes
of_told None bytes P e h = absurd (cc)
of_told (Some b) bytes P e h = let same : b ≡ bytes = cc in subst P same h

end_ends : (old new : Scene) (bytes : List ℕ) (status : Status) → old.input.left ≡ Some bytes → AreLinesFit bytes → (Rose old.input.faults new.input.faults → ⊥) → (Rose old.out.faults new.out.faults → ⊥) → IsEnd old new status → EndsWell status
end_ends old new bytes Accepted e fit r o h = inl refl
end_ends old new bytes Ended e fit r o h = inr (inl refl)
end_ends old new bytes ReadFault e fit r o h = absurd (r h)
end_ends old new bytes WriteFault e fit r o h = absurd (o h)
end_ends old new bytes (Limit LineBytes count) e fit r o h =
    let long = of_told old.input.left bytes (λ b. most_line_bytes < length (before_newline (behind_lines (answered new.history) b))) e h.1 in
    absurd (omega (arith, long, fit.short (answered new.history)))
end_ends old new bytes (Limit DialogueLines count) e fit r o h =
    let many = of_told old.input.left bytes (λ b. most_lines < length (lines_of b)) e h.2 in
    absurd (omega (arith, many, fit.few))
end_ends old new bytes NoMemory e fit r o h = inr (inr refl)
end_ends old new bytes status e fit r o h = absurd h

pub ended_ends : (words : List Text) (old new : World) (status : Status) → IsEndedBy words old new status → IsWellProvided words old new → EndsWell status
ended_ends words old new status ended w =
    elim ended as (λ _. EndsWell status) [
      | inl refused ↦ refusal_ends words old new status w refused
      | inr d ↦ end_ends (scene_in old []) (scene_in new d.history) w.input status w.input_told w.lines w.input_sound w.out_sound d.cause
    ]

pub run_ends : (words : List Text) (old new : World) (r : Report) → IsRun words old new r → IsWellProvided words old new → EndsWell r.status
run_ends words old new r run w = ended_ends words old new r.status (ended_alone words old new r run) w
