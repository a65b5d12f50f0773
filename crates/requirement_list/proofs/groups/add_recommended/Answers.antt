-- A dependency that is broken now is not added; past the limit of targets another is counted.
use Rattle.std.proofs.Common.{◌≡◌, ◌∙◌, ap, sym, subst, ℕ, List, [], ◌∷◌, true, false}
use Rattle.resolver_model.specs.Problems.{Problem}
use Rattle.dep_fields.specs.Views.{group_items}
use Rattle.universe_model.specs.Dependencies.{Requirement, recommended, is_broken_now}
use Rattle.requirement_list.specs.Settings.{setting_in, setting_of}
use Rattle.requirement_list.specs.Fields.{requirement_of}
use Rattle.requirement_list.specs.declared.collected.Field.TheVariants.{Recommends}
use Rattle.requirement_list.specs.Collecting.{Adds, HasCome}
use Rattle.requirement_list.proofs.Collecting.{come_none}
use Rattle.requirement_list.proofs.KeptInstalled.{broken_goes, unbroken_counts}
use Rattle.requirement_list.proofs.groups.add_recommended.Goals as goal

pub returns-then-is_broken : goal.returns-then-is_broken
returns-then-is_broken c =
    let old = c.args.collected.now in
    let all = c.args.indexes.now.all in
    let items = group_items c.args.group.now in
    let s = setting_of all old in
    let r = recommended s c.args.source c.args.place items in
    let broken : is_broken_now s r ≡ true =
    ap (λ (p : Problem). is_broken_now (setting_in all p) (recommended (setting_in all p) c.args.source c.args.place items)) (sym c.parts-problem.ensures)
    ∙ sym (c.is_broken.ensures c.args.place) ∙ c.if-is_broken.true in
    let P : List Requirement → Type 0 = λ rs. HasCome rs [] old old in
    subst P (sym (broken_goes s r broken)) (come_none [] old)

pub returns-then-collected : goal.returns-then-collected
returns-then-collected c =
    let old = c.args.collected.now in
    let all = c.args.indexes.now.all in
    let items = group_items c.args.group.now in
    let s = setting_of all old in
    let r = recommended s c.args.source c.args.place items in
    let whole : is_broken_now s r ≡ false =
    ap (λ (p : Problem). is_broken_now (setting_in all p) (recommended (setting_in all p) c.args.source c.args.place items)) (sym c.parts-problem.ensures)
    ∙ sym (c.is_broken.ensures c.args.place) ∙ c.if-is_broken.false in
    let P : List Requirement → Type 0 = λ rs. Adds rs old c.count_one.result c.count_one.new.self in
    subst P (sym (unbroken_counts s r whole)) (c.count_one.ensures.adds r)

pub returns : goal.returns
returns c =
    let old = c.args.collected.now in
    let all = c.args.indexes.now.all in
    let items = group_items c.args.group.now in
    let s = setting_of all old in
    let r = recommended s c.args.source c.args.place items in
    let whole : is_broken_now s r ≡ false =
    ap (λ (p : Problem). is_broken_now (setting_in all p) (recommended (setting_in all p) c.args.source c.args.place items)) (sym c.parts-problem.ensures)
    ∙ sym (c.is_broken.ensures c.args.place) ∙ c.if-is_broken.false in
    let same : (requirement_of (Recommends c.args.place) c.args.source c.as_slice.result.now ∷ []) ≡ (r ∷ []) =
    ap (λ (ts : List ℕ). requirement_of (Recommends c.args.place) c.args.source ts ∷ []) (c.as_slice.ensures.value ∙ c.in_ok-list_targets.ensures.numbers) in
    let P : List Requirement → Type 0 = λ rs. Adds rs old c.add.result c.add.new.self in
    subst P (same ∙ sym (unbroken_counts s r whole)) c.add.ensures
