-- Over sure objects no fault is answered.
use Rattle.std.proofs.Common.{inl, inr, ◌≡◌, ◌⊎◌, ◌≤◌, ◌<◌, ◌∷◌, ℕ, zero, suc, Bool, true, false, cond, List, [], Option, Some, None, IfSome, IsSome, IsTrue, length, refl, sym, subst, ◌∙◌, arith}
use Rattle.std.specs.Option.{IsSomeAnd, option_map, option_or}
use Rattle.apt_base.specs.Bytes.{SourceState, IsSourceState, SinkState, IsSinkState}
use Rattle.apt_base.specs.Faults.{Rose, ByName, at_name, faults_of}
use Rattle.apt_base.specs.Files.{ShelfState, IsShelfState, KeepsFiles, told_file}
use Rattle.apt_base.proofs.Counts.{not_zero}
use Rattle.clap.specs.Words.{Text}
use Rattle.grounds.specs.Grounds as ground
use Rattle.hint_file.specs.Hinting.{first_fault, lines_of}
use Rattle.hint_file.specs.Prices.{is_past}
use Rattle.hint_file.specs.declared.ends.HintEnd.{HintEnd}
use Rattle.hint_file.specs.declared.ends.HintEnd.TheVariants as hint_end
use Rattle.lists.proofs.Members.{Member, Member-append_right}
use Rattle.resolve_cli.specs.Beginnings.{IsAtTexts, IsAtGround, IsRefusal}
use Rattle.resolve_cli.specs.Reports.{World, scene_in, IsRun}
use Rattle.resolve_cli.specs.Sureness.{IsSure, IsFull}
use Rattle.resolve_cli.specs.Words.{settings_in, names_in}
use Rattle.resolve_cli.specs.declared.run.Report.{Report}
use Rattle.resolve_cli.proofs.Ended.{IsEndedBy, ended_alone}
use Rattle.resolve_cli.proofs.Accepted.{names_are}
use Rattle.problem.specs.declared.limits.Which.{Which}
use Rattle.problem.specs.declared.limits.Which.TheVariants.{LevelAmount}
use Rattle.resolve_words.specs.Given.{Given}
use Rattle.resolve_words.specs.declared.ends.UsageFault.TheVariants.{Action}
use Rattle.run_status.specs.declared.Status.{Status}
use Rattle.run_status.specs.declared.Status.TheVariants.{Usage, BadInput, ReadFault, WriteFault, NoMemory, Limit}
use Rattle.sources.specs.Sources.{Sources, IsCut, AreUnread, names_of}
use Rattle.talk.specs.Ends.{IsEnd}
use Rattle.universe_model.specs.Limits.{build_refusal}
use Rattle.universe_model.specs.declared.BuildEnd.{BuildEnd}
use Rattle.universe_model.specs.declared.BuildEnd.TheVariants as build_end
use Rattle.wanted.specs.Wanting.{first_bad}

-- ---- what is refused is refused for its text or for want of memory

abbrev pub IsOfText : Status → Type 0
IsOfText (Usage fault) = Unit {0}
IsOfText (BadInput file line kind) = Unit {0}
IsOfText (Limit which count) = Unit {0}
IsOfText NoMemory = Unit {0}
IsOfText _ = ⊥

of_build : (end : BuildEnd) → IsOfText (ground.status_of_build end)
of_build (build_end.BadInput file line kind) = tt
of_build (build_end.Limit which count) = tt
of_build build_end.NoMemory = tt

of_hint : (end : HintEnd) → IsOfText (ground.status_of_hint end)
of_hint (hint_end.HintFault line kind) = tt
of_hint hint_end.NoMemory = tt

of_either : (one other : Option Status) → IfSome one IsOfText → IfSome other IsOfText → IfSome (option_or one other) IsOfText
of_either None other h k = k
of_either (Some status) other h k = h

of_map : {X : Type 0} (f : X → Status) (o : Option X) → ((x : X) → IsOfText (f x)) → IfSome (option_map f o) IsOfText
of_map f None each = tt
of_map f (Some x) each = each x

of_if : (past : Bool) (which : Which) (count : ℕ) → IfSome (cond past (Some (Limit which count)) None) IsOfText
of_if true which count = tt
of_if false which count = tt

refusal_of_text : (g : Given) (s : Sources) → IfSome (ground.refusal g s) IsOfText
refusal_of_text g s =
    let u = ground.universe_of g s in
    let build = ground.text_refusal (ground.texts_of g s) in
    let hint = ground.hint_refusal u s.hints in
    let action = ground.action_refusal u g.actions in
    let scene = ground.scene_of g s in
    let price = ground.price_refusal scene (ground.hints_in g s) (ground.levels_of g) in
    of_either build (option_or hint (option_or action price)) (of_map ground.status_of_build (build_refusal (ground.texts_of g s)) of_build)
    (of_either hint (option_or action price) (of_map ground.status_of_hint (first_fault u (lines_of s.hints)) of_hint)
    (of_either action price (of_map (λ word. Usage (Action word)) (first_bad u g.actions) (λ word. tt)) (of_if (is_past scene (ground.hints_in g s) (ground.levels_of g)) LevelAmount 4294967296)))

told_of_text : (found : Option Status) (status : Status) → IfSome found IsOfText → found ≡ Some status → IsOfText status
told_of_text found status h e = let F : Option Status → Type 0 = λ o. IfSome o IsOfText in subst F e h

ground_of_text : (words : List Text) (old : ShelfState) (status : Status) → IsAtGround words old status → IsOfText status
ground_of_text words old status h =
    elim h.refused as (λ _. IsOfText status) [
      | inl none ↦ subst IsOfText (sym none) tt
      | inr some ↦ told_of_text (ground.refusal (settings_in words) h.texts) status (refusal_of_text (settings_in words) h.texts) some
    ]

-- ---- no read fault

-- a sure shelf has not failed for a file that is there
not_failed : (files : Option (ByName (List ℕ))) (asked : ByName ℕ) (name : List ℕ) → IsSome (told_file files name) → IsSomeAnd files (λ told. (n : List ℕ) → IsSome (at_name told n) → faults_of asked n ≡ 0) → faults_of asked name ≡ 0
not_failed None asked name there law = absurd law
not_failed (Some told) asked name there law = law name there

cut_is_no_fault : (words : List Text) (old : World) (new : ShelfState) → IsSure words old → KeepsFiles old.shelf new → IsShelfState new → IsCut old.shelf.files old.shelf.asked new.asked (names_in words) ReadFault → ⊥
cut_is_no_fault words old new s kept law cut =
    let member : Member cut.name (names_in words) = subst (λ n. Member cut.name n) (sym cut.order) (Member-append_right cut.name cut.read (cut.name ∷ cut.unasked) (inl refl)) in
    let L : Option (ByName (List ℕ)) → Type 0 = λ f. IsSomeAnd f (λ told. (n : List ℕ) → IsSome (at_name told n) → faults_of new.asked n ≡ 0) in
    let told = subst L kept.files (law (kept.sure ∙ s.shelf)) in
    not_zero (faults_of old.shelf.asked cut.name) (faults_of new.asked cut.name) cut.cause (not_failed old.shelf.files new.asked cut.name (s.there cut.name member) told)

no_memory_is_no_fault : ReadFault ≡ NoMemory → ⊥
no_memory_is_no_fault e = let P : Status → Type 0 = IsOfText in subst P (sym e) tt

texts_are_no_fault : (words : List Text) (old : World) (new : ShelfState) → IsSure words old → KeepsFiles old.shelf new → IsShelfState new → IsAtTexts words old.shelf new ReadFault → ⊥
texts_are_no_fault words old new s kept law h =
    let N : List (List ℕ) → Type 0 = λ names. AreUnread old.shelf.files old.shelf.asked new.asked names ReadFault in
    elim (subst N (sym (names_are words h.accepted)) h.unread) as (λ _. ⊥) [ inl none ↦ no_memory_is_no_fault none.0 | inr cut ↦ cut_is_no_fault words old new s kept law cut ]

later_is_no_fault : (words : List Text) (old : World) (new : ShelfState) → IsSure words old → KeepsFiles old.shelf new → IsShelfState new → IsAtTexts words old.shelf new ReadFault ⊎ IsAtGround words old.shelf ReadFault → ⊥
later_is_no_fault words old new s kept law later =
    elim later as (λ _. ⊥) [ inl h ↦ texts_are_no_fault words old new s kept law h | inr h ↦ ground_of_text words old.shelf ReadFault h ]

refusal_is_no_fault : (words : List Text) (old : World) (new : ShelfState) → IsSure words old → KeepsFiles old.shelf new → IsShelfState new → IsRefusal words old.shelf new ReadFault → ⊥
refusal_is_no_fault words old new s kept law cause =
    elim cause as (λ _. ⊥) [ inl h ↦ h | inr later ↦ later_is_no_fault words old new s kept law later ]

-- a sure source has not failed
end_is_no_fault : (old new : SourceState) → IsTrue old.sure → new.sure ≡ old.sure → IsSourceState new → Rose old.faults new.faults → ⊥
end_is_no_fault old new sure kept law rose = not_zero old.faults new.faults rose (law (kept ∙ sure))

pub ended_no_read_fault : (words : List Text) (old new : World) (status : Status) → IsSure words old → KeepsFiles old.shelf new.shelf → IsShelfState new.shelf → IsSourceState new.input → IsEndedBy words old new status → status ≡ ReadFault → ⊥
ended_no_read_fault words old new status s kept shelf_law input_law ended e =
    let R : Status → Type 0 = λ x. IsRefusal words old.shelf new.shelf x in
    elim ended as (λ _. ⊥) [
      | inl refused ↦ refusal_is_no_fault words old new.shelf s kept shelf_law (subst R e refused)
      | inr d ↦ let E : Status → Type 0 = λ x. IsEnd (scene_in old []) (scene_in new d.history) x in
          end_is_no_fault old.input new.input s.input d.sure input_law (subst E e d.cause)
    ]

pub no_read_fault : (words : List Text) (old new : World) (r : Report) → IsSure words old → KeepsFiles old.shelf new.shelf → IsShelfState new.shelf → IsSourceState new.input → IsRun words old new r → r.status ≡ ReadFault → ⊥
no_read_fault words old new r s kept shelf_law input_law run e = ended_no_read_fault words old new r.status s kept shelf_law input_law (ended_alone words old new r run) e

-- ---- a write fault, where the room is full

full_by : (room length faults : ℕ) → (length < room → faults ≡ 0) → 1 ≤ faults → (length < room) ⊎ (room ≤ length) → room ≤ length
full_by room length faults law some which = elim which as (λ _. room ≤ length) [ inl less ↦ let none = law less in absurd (omega (arith, none, some)) | inr more ↦ more ]

lt_or_le : (a b : ℕ) → (a < b) ⊎ (b ≤ a)
lt_or_le a zero = inr (omega arith)
lt_or_le zero (suc b) = inl (omega arith)
lt_or_le (suc a) (suc b) = elim (lt_or_le a b) as (λ _. (suc a < suc b) ⊎ (suc b ≤ suc a)) [ inl h ↦ inl (omega (arith, h)) | inr h ↦ inr (omega (arith, h)) ]

full_room : (room : Option ℕ) (written : Option (List ℕ)) (faults : ℕ) → IsSome room → IfSome room (λ r. IsSomeAnd written (λ bytes. length bytes < r → faults ≡ 0)) → 1 ≤ faults → IsSomeAnd room (λ r. IsSomeAnd written (λ bytes. r ≤ length bytes))
full_room None written faults there law some = absurd (cc)
full_room (Some r) None faults there law some = absurd law
full_room (Some r) (Some bytes) faults there law some = full_by r (length bytes) faults law some (lt_or_le (length bytes) r)

end_is_full : (old new : SinkState) → IsSome old.room → new.room ≡ old.room → IsSinkState new → Rose old.faults new.faults → IsFull new
end_is_full old new there kept law rose =
    let R : Option ℕ → Type 0 = λ r. IsSome r in
    let some : 1 ≤ new.faults = omega (arith, rose) in
    full_room new.room new.written new.faults (subst R (sym kept) there) law some

write_fault_in_words : (words : List Text) (old new : ShelfState) → IsRefusal words old new WriteFault → ⊥
write_fault_in_words words old new cause =
    elim cause as (λ _. ⊥) [ inl h ↦ h | inr later ↦ in_later later ]
  where
    in_unread : AreUnread old.files old.asked new.asked (names_of (settings_in words)) WriteFault → ⊥
    in_unread unread = elim unread as (λ _. ⊥) [ inl none ↦ let P : Status → Type 0 = IsOfText in subst P (sym none.0) tt | inr cut ↦ cut.cause ]

    in_later : IsAtTexts words old new WriteFault ⊎ IsAtGround words old WriteFault → ⊥
    in_later later = elim later as (λ _. ⊥) [ inl h ↦ in_unread h.unread | inr h ↦ ground_of_text words old WriteFault h ]

pub ended_full : (words : List Text) (old new : World) (status : Status) → IsSome old.out.room → IsSinkState new.out → IsEndedBy words old new status → status ≡ WriteFault → IsFull new.out
ended_full words old new status there law ended e =
    let R : Status → Type 0 = λ x. IsRefusal words old.shelf new.shelf x in
    elim ended as (λ _. IsFull new.out) [
      | inl refused ↦ absurd (write_fault_in_words words old.shelf new.shelf (subst R e refused))
      | inr d ↦ let E : Status → Type 0 = λ x. IsEnd (scene_in old []) (scene_in new d.history) x in
          end_is_full old.out new.out there d.room law (subst E e d.cause)
    ]

pub full_at_fault : (words : List Text) (old new : World) (r : Report) → IsSome old.out.room → IsSinkState new.out → IsRun words old new r → r.status ≡ WriteFault → IsFull new.out
full_at_fault words old new r there law run e = ended_full words old new r.status there law (ended_alone words old new r run) e
