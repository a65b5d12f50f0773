use Rattle.std.proofs.Common.{ℕ, List, ap, sym, ◌∙◌, subst, map, MatchResult}
use Rattle.std.proofs.lemmas.Result.{err_from_is_err_and, MatchResult-weaker}
use Rattle.resolver_model.specs.Problems.{Problem}
use Rattle.universe_model.specs.Dependencies.{Requirement, requirements}
use Rattle.universe_parts.specs.Listed.{version_listed}
use Rattle.universe_parts.specs.declared.listed.ListedVersion.{ListedVersion}
use Rattle.meeting_index.specs.Indexes.{Indexed}
use Rattle.requirement_list.specs.Installed.{AreInstalled}
use Rattle.requirement_list.specs.Settings.{setting_of}
use Rattle.requirement_list.specs.RequirementLists.{IsEndOf, IsRequirementList}
use Rattle.requirement_list.proofs.Wholes.{same_setting, has_installed, whole_end, whole_left, list_over}
use Rattle.requirement_list.proofs.list_requirements.Goals as goal

pub add_versions-requires-clause-installed : goal.add_versions-requires-clause-installed
add_versions-requires-clause-installed c =
    let versions = map version_listed c.args.versions.now in
    let kept = map version_listed c.in_ok-kept.kept.items in
    let P : List ℕ → Type 0 = λ starts. AreInstalled starts versions kept in
    let starts = ap (λ (p : Problem). p.starts) (c.parts-2.ensures ∙ sym c.new-collected.ensures.builder) in
    has_installed c.new-collected.result.builder.starts c.args.native.now versions kept _ c.in_ok-all.ensures
    (c.in_ok-installed.ensures ∙ ap (λ (vs : List ListedVersion). let i : Indexed = record { native = c.args.native.now; versions = map version_listed vs } in i) c.as_slice.ensures.value)
    (subst P starts c.in_ok-kept.ensures.installed)

pub returns-in_err-add_versions : goal.returns-in_err-add_versions
returns-in_err-add_versions c =
    let same = same_setting c.in_ok-all.all (record { native = c.args.native.now; versions = map version_listed c.args.versions.now }) c.new-collected.result c.args.builder c.in_ok-all.ensures c.new-collected.ensures.builder in
    let rs = requirements (setting_of c.in_ok-all.all c.new-collected.result) in
    let end = whole_end rs c.new-collected.result _ (c.new-collected.ensures.left rs) c.in_err-add_versions.ensures.adds in
    let e = err_from_is_err_and c.from_residual-in_err-add_versions.result c.from_residual-in_err-add_versions.ensures.1 in
    let P : List Requirement → Type 0 = λ rs. IsEndOf rs c.in_err-add_versions.field-0.0 in
    rw (e.1, e.2) (subst P (ap requirements same) end)

pub returns : goal.returns
returns c =
    let same = same_setting c.in_ok-all.all (record { native = c.args.native.now; versions = map version_listed c.args.versions.now }) c.new-collected.result c.args.builder c.in_ok-all.ensures c.new-collected.ensures.builder in
    let old = c.new-collected.result in
    let new = c.add_versions.new.collected in
    let rs = requirements (setting_of c.in_ok-all.all old) in
    let come = c.in_ok-add_versions.ensures.adds in
    let left = whole_left rs old new (c.new-collected.ensures.left rs) come in
    let owners = come.owners ∙ ap (λ (p : Problem). p.owners) c.new-collected.ensures.builder in
    let starts = come.starts ∙ ap (λ (p : Problem). p.starts) c.new-collected.ensures.builder in
    subst (λ (rs : List Requirement). MatchResult c.finish.result (IsRequirementList c.args.builder rs) (IsEndOf rs)) (ap requirements same)
    (MatchResult-weaker c.finish.result (c.finish.ensures rs left) (λ list h. list_over new.builder c.args.builder rs list owners starts h) (λ _ h. h))
