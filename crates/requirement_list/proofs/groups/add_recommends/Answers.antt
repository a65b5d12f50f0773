use Rattle.std.proofs.Common.{ℕ, [], ◌∷◌, ◌+◌, not, sym, subst}
use Rattle.std.specs.List.{filter}
use Rattle.std.proofs.lemmas.Result.{err_from_is_err_and}
use Rattle.dep_fields.specs.Checked.{alternatives_groups}
use Rattle.dep_fields.specs.Views.{sound_left, group_items}
use Rattle.universe_model.specs.Lists.{map_from}
use Rattle.universe_model.specs.Dependencies.{Requirement, Setting, recommended, of_recommends, is_broken_now}
use Rattle.requirement_list.specs.Collecting.{HasCome}
use Rattle.requirement_list.specs.Settings.{setting_of}
use Rattle.requirement_list.proofs.Collecting.{ended_more, ended_same, filter-front}
use Rattle.requirement_list.proofs.groups.add_recommends.Goals as goal

pub returns-in_err-add_recommended : goal.returns-in_err-add_recommended
returns-in_err-add_recommended c =
    let s = setting_of c.args.indexes.now.all c.args.collected.now in
    let f = recommended s c.args.source in
    let counts = λ (r : Requirement). not (is_broken_now s r) in
    let n = c.in_ok-place.place in
    let first = f n (group_items c.in-Some.group) in
    let left = map_from f (n + 1) (sound_left c.next.new.self) in
    let P : ℕ → Type 0 = λ k. HasCome (of_recommends s c.args.source (alternatives_groups c.args.field)) (filter counts (f k (group_items c.in-Some.group) ∷ map_from f (k + 1) (sound_left c.next.new.self)))
    c.args.collected.now c.loop-group.collected in
    let come = subst P (sym c.in_ok-place.ensures) (rw c.in-Some.ensures.steps at c.loop-group.invariant) in
    let split = rw (filter-front counts first left) at come in
    let counted = λ (t : Setting). filter (λ r. not (is_broken_now t r)) (recommended t c.args.source n (group_items c.in-Some.group) ∷ []) in
    let ended = ended_same c.args.indexes.now.all c.args.collected.now c.loop-group.collected counted _ c.loop-group.invariant.starts c.in_err-add_recommended.ensures in
    let p = err_from_is_err_and c.from_residual-in_err-add_recommended.result c.from_residual-in_err-add_recommended.ensures.1 in
    rw (p.1, p.2) (ended_more (of_recommends s c.args.source (alternatives_groups c.args.field)) (filter counts (first ∷ [])) (filter counts left) c.args.collected.now c.loop-group.collected _ split ended)
