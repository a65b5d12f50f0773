-- Runs whose session other threads may search beside the dialogue.
use Rattle.std.proofs.Common.{inl, inr, ◌≡◌, ◌+◌, ◌<◌, ◌++◌, ◌∷◌, ℕ, zero, suc, List, [], length, refl, sym, ap, subst, ◌∙◌, arith, length-append}
use Rattle.apt_base.specs.Bytes.{SourceState, SinkState}
use Rattle.clap.specs.Words.{Text}
use Rattle.grounds.specs.Grounds as ground
use Rattle.resolve_cli.specs.Beginnings.{IsPrepared, setting_by, script_by, IsRefusal}
use Rattle.resolve_cli.specs.Beside.{IsSpokenBeside, IsSpeechBeside, setting_for_all, setting_beside, IsDialogueBeside, IsRunBeside}
use Rattle.resolve_cli.specs.Reports.{World, scene, scene_in, script_in, IsSilent, IsSpeech}
use Rattle.resolve_cli.specs.Words.{settings_in}
use Rattle.resolve_cli.specs.declared.prepared.Prepared.{Prepared}
use Rattle.resolve_cli.specs.declared.run.Report.{Report}
use Rattle.resolve_cli.proofs.Beginning.{setting_is, script_is}
use Rattle.resolve_words.specs.Given.{Given}
use Rattle.resolver_model.specs.Answers.{Setting}
use Rattle.run_status.specs.declared.Status.{Status}
use Rattle.run_status.specs.declared.Status.TheVariants.{NoMemory}
use Rattle.sources.specs.Sources.{Sources}
use Rattle.talk.specs.Ends.{Scene}
use Rattle.talk.specs.Transcripts.{Script}
use Rattle.shared_talk.proofs.Alone.{over_alone}
use Rattle.search_core.specs.Sessions.{Session}
use Rattle.session_cell.specs.Passes.{Cell, Pass, new_pass, passes_below}

-- where there are actors there are passes
pub some_below : (cell : Cell) (start : Session) (n : ℕ) (passes : List Pass) → 0 < n → passes ≡ passes_below cell.table cell.stops start n → 0 < length passes
some_below cell start zero passes some is = absurd (omega (arith, some))
some_below cell start (suc n) passes some is =
    let front : List Pass = passes_below cell.table cell.stops start n in
    let last : List Pass = new_pass cell.table cell.stops start n ∷ [] in
    omega (arith, ap (λ (l : List Pass). length l) is, length-append front last)

setting_all_is : (g : Given) (texts : Sources) (p : Prepared) → ground.IsGround g texts p.ground → p.slice ≡ g.slice → p.workers ≡ g.workers → setting_for_all p ≡ setting_beside g texts
setting_all_is g texts p stands slice workers =
    ap (λ (s : Setting). record s { actors = p.workers + 1 }) (setting_is g texts p stands slice) ∙ ap (λ (n : ℕ). record (setting_beside g texts) { actors = n + 1 }) workers

-- where one thread did all
pub speech_alone : (p : Prepared) (old : Scene) (input : SourceState) (out : SinkState) (r : Report) → p.workers ≡ 0 → IsSpeech (setting_by p) (script_by p) old (scene r.history.items input out) r
    → IsSpeechBeside (setting_for_all p) (script_by p) old (scene r.history.items input out) r
speech_alone p old input out r none speech =
    let new : Scene = scene r.history.items input out in
    let same : setting_by p ≡ setting_for_all p = ap (λ (n : ℕ). record (setting_by p) { actors = n + 1 }) (sym none) in
    let S : Setting → Type 0 = λ s. IsSpokenBeside s (script_by p) old new r in
    elim speech as (λ _. IsSpeechBeside (setting_for_all p) (script_by p) old new r) [
      | inl silent ↦ inl silent
      | inr spoken ↦ inr (subst S same (record { legal = spoken.legal; over = over_alone (setting_by p) (script_by p) r.status r.lines_read old new refl spoken.legal spoken.over }))
    ]

without : (words : List Text) (old new : World) (p : Prepared) (r : Report) → IsPrepared words old.shelf.files p → r.status ≡ NoMemory → IsSilent (scene_in old []) (scene_in new r.history.items) r → IsRunBeside words old new r
without words old new p r h none silent =
    inl (record {
      silent = record { empty = silent.empty; unread = silent.unread; input = silent.input; out = silent.out };
      cause = inr (inr (record { accepted = h.accepted; texts = h.texts; read = h.read; refused = inl none }));
    })

with_session : (words : List Text) (old new : World) (p : Prepared) (r : Report) → IsPrepared words old.shelf.files p → IsSpokenBeside (setting_for_all p) (script_by p) (scene_in old []) (scene_in new r.history.items) r
    → IsRunBeside words old new r
with_session words old new p r h spoken =
    let g = settings_in words in
    let S : Setting → Type 0 = λ s. IsSpokenBeside s (script_by p) (scene_in old []) (scene_in new r.history.items) r in
    let T : Script → Type 0 = λ t. IsSpokenBeside (setting_beside g h.texts) t (scene_in old []) (scene_in new r.history.items) r in
    inr (record {
      accepted = h.accepted;
      texts = h.texts;
      read = h.read;
      unrefused = h.stands.taken;
      spoken = subst T (script_is g h.texts p h.stands) (subst S (setting_all_is g h.texts p h.stands h.slice_is h.workers_are) spoken);
    })

pub run_beside_by : (words : List Text) (old new : World) (p : Prepared) (r : Report) → IsPrepared words old.shelf.files p → IsSpeechBeside (setting_for_all p) (script_by p) (scene_in old []) (scene_in new r.history.items) r
    → IsRunBeside words old new r
run_beside_by words old new p r h speech =
    elim speech as (λ _. IsRunBeside words old new r) [ inl silent ↦ without words old new p r h silent.0 silent.1 | inr spoken ↦ with_session words old new p r h spoken ]

pub refused_beside : (words : List Text) (old new : World) (r : Report) (status : Status) → r.status ≡ status → r.history.items ≡ [] → r.lines_read ≡ 0 → new.input ≡ old.input → new.out ≡ old.out
    → IsRefusal words old.shelf new.shelf status → IsRunBeside words old new r
refused_beside words old new r status is empty unread input out cause =
    let C : Status → Type 0 = λ s. IsRefusal words old.shelf new.shelf s in
    inl (record { silent = record { empty = empty; unread = unread; input = input; out = out }; cause = subst C (sym is) cause })
