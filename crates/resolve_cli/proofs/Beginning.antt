-- What a run stands on, or why it has no session, from what its parts answered.
use Rattle.std.proofs.Common.{inl, inr, ◌≡◌, ℕ, List, [], Option, sym, ap, subst, ◌∙◌}
use Rattle.apt_base.specs.Faults.{ByName}
use Rattle.apt_base.specs.Files.{ShelfState}
use Rattle.clap.specs.Words.{Text}
use Rattle.grounds.specs.Grounds as ground
use Rattle.resolve_cli.specs.Beginnings.{IsPrepared, setting_by, script_by, IsRefusal}
use Rattle.resolve_cli.specs.Reports.{World, scene_in, setting_in, script_in, IsSilent, IsSpoken, IsSpeech, IsRun}
use Rattle.resolve_cli.specs.Words.{settings_in, names_in}
use Rattle.resolve_cli.specs.declared.prepared.Prepared.{Prepared}
use Rattle.resolve_cli.specs.declared.run.Report.{Report}
use Rattle.resolve_cli.proofs.Accepted.{accepted_by, names_are}
use Rattle.resolve_words.specs.Given.{Given, given_by, AreSettings}
use Rattle.resolve_words.specs.declared.settings.Settings.{Settings}
use Rattle.resolver_model.specs.Answers.{Setting}
use Rattle.resolver_model.specs.Costs.{Table}
use Rattle.resolver_model.specs.Problems.{Problem}
use Rattle.resolver_model.specs.Rules.{Rules}
use Rattle.run_status.specs.declared.Status.{Status}
use Rattle.run_status.specs.declared.Status.TheVariants.{NoMemory}
use Rattle.search_core.specs.Sessions.{setting_of}
use Rattle.sources.specs.Sources.{Sources, AreSources, CountsAmong, AreUnread, names_of}
use Rattle.talk.specs.Transcripts.{Script}
use Rattle.universe_model.specs.Universes.{Universe}

-- ---- before the session

pub asked_by : (words : List Text) (s : Settings) (before now : ByName ℕ) → AreSettings words s → CountsAmong (names_of (given_by s)) before now → CountsAmong (names_in words) before now
asked_by words s before now taken counts =
    let names : names_in words ≡ names_of (given_by s) = names_are words (accepted_by words s taken) ∙ sym (ap names_of taken.given) in
    subst (λ n. CountsAmong n before now) (sym names) counts

pub at_texts : (words : List Text) (s : Settings) (old new : ShelfState) (status : Status) → AreSettings words s → AreUnread old.files old.asked new.asked (names_of (given_by s)) status → IsRefusal words old new status
at_texts words s old new status taken unread =
    let G : Given → Type 0 = λ g. AreUnread old.files old.asked new.asked (names_of g) status in
    inr (inl (record { accepted = accepted_by words s taken; unread = subst G taken.given unread }))

pub at_ground : (words : List Text) (s : Settings) (texts : Sources) (old new : ShelfState) (status : Status) → AreSettings words s → AreSources old.files (given_by s) texts → ground.IsRefused (ground.refusal (given_by s) texts) status → IsRefusal words old new status
at_ground words s texts old new status taken read refused =
    let R : Given → Type 0 = λ g. AreSources old.files g texts in
    let G : Given → Type 0 = λ g. ground.IsRefused (ground.refusal g texts) status in
    inr (inr (record { accepted = accepted_by words s taken; texts = texts; read = subst R taken.given read; refused = subst G taken.given refused }))

pub prepared_by : (words : List Text) (s : Settings) (texts : Sources) (files : Option (ByName (List ℕ))) (p : Prepared) → AreSettings words s → AreSources files (given_by s) texts → ground.IsGround (given_by s) texts p.ground → p.slice ≡ s.slice → p.workers ≡ s.workers → IsPrepared words files p
prepared_by words s texts files p taken read stands slice workers =
    let R : Given → Type 0 = λ g. AreSources files g texts in
    let G : Given → Type 0 = λ g. ground.IsGround g texts p.ground in
    record {
      accepted = accepted_by words s taken;
      texts = texts;
      read = subst R taken.given read;
      stands = subst G taken.given stands;
      slice_is = slice ∙ ap (λ (g : Given). g.slice) taken.given;
      workers_are = workers ∙ ap (λ (g : Given). g.workers) taken.given;
    }

-- ---- the session

abbrev script_from : Universe → Problem → Table → Script
script_from u p t = record { universe = u; problem = p; table = t }

pub setting_is : (g : Given) (texts : Sources) (p : Prepared) → ground.IsGround g texts p.ground → p.slice ≡ g.slice → setting_by p ≡ setting_in g texts
setting_is g texts p stands slice =
    ap (λ (q : Problem). setting_of q p.ground.basis.table p.ground.rules p.slice 1) stands.problem_is
    ∙ ap (λ (t : Table). setting_of (ground.problem_of g texts) t p.ground.rules p.slice 1) stands.table_is
    ∙ ap (λ (r : Rules). setting_of (ground.problem_of g texts) (ground.table_in g texts) r p.slice 1) stands.rules_are
    ∙ ap (λ (n : ℕ). setting_of (ground.problem_of g texts) (ground.table_in g texts) (ground.rules_in g texts) n 1) slice

pub script_is : (g : Given) (texts : Sources) (p : Prepared) → ground.IsGround g texts p.ground → script_by p ≡ script_in g texts
script_is g texts p stands =
    ap (λ (u : Universe). script_from u p.ground.basis.problem p.ground.basis.table) stands.universe_is
    ∙ ap (λ (q : Problem). script_from (ground.universe_of g texts) q p.ground.basis.table) stands.problem_is
    ∙ ap (λ (t : Table). script_from (ground.universe_of g texts) (ground.problem_of g texts) t) stands.table_is

without : (words : List Text) (old new : World) (p : Prepared) (r : Report) → IsPrepared words old.shelf.files p → r.status ≡ NoMemory → IsSilent (scene_in old []) (scene_in new r.history.items) r → IsRun words old new r
without words old new p r h none silent =
    inl (record {
      silent = record { empty = silent.empty; unread = silent.unread; input = silent.input; out = silent.out };
      cause = inr (inr (record { accepted = h.accepted; texts = h.texts; read = h.read; refused = inl none }));
    })

with_session : (words : List Text) (old new : World) (p : Prepared) (r : Report) → IsPrepared words old.shelf.files p → IsSpoken (setting_by p) (script_by p) (scene_in old []) (scene_in new r.history.items) r → IsRun words old new r
with_session words old new p r h spoken =
    let g = settings_in words in
    let S : Setting → Type 0 = λ s. IsSpoken s (script_by p) (scene_in old []) (scene_in new r.history.items) r in
    let T : Script → Type 0 = λ t. IsSpoken (setting_in g h.texts) t (scene_in old []) (scene_in new r.history.items) r in
    inr (record {
      accepted = h.accepted;
      texts = h.texts;
      read = h.read;
      unrefused = h.stands.taken;
      spoken = subst T (script_is g h.texts p h.stands) (subst S (setting_is g h.texts p h.stands h.slice_is) spoken);
    })

pub run_by : (words : List Text) (old new : World) (p : Prepared) (r : Report) → IsPrepared words old.shelf.files p → IsSpeech (setting_by p) (script_by p) (scene_in old []) (scene_in new r.history.items) r → IsRun words old new r
run_by words old new p r h speech =
    elim speech as (λ _. IsRun words old new r) [ inl silent ↦ without words old new p r h silent.0 silent.1 | inr spoken ↦ with_session words old new p r h spoken ]

pub refused_by : (words : List Text) (old new : World) (r : Report) (status : Status) → r.status ≡ status → r.history.items ≡ [] → r.lines_read ≡ 0 → new.input ≡ old.input → new.out ≡ old.out → IsRefusal words old.shelf new.shelf status → IsRun words old new r
refused_by words old new r status is empty unread input out cause =
    let C : Status → Type 0 = λ s. IsRefusal words old.shelf new.shelf s in
    inl (record { silent = record { empty = empty; unread = unread; input = input; out = out }; cause = subst C (sym is) cause })
