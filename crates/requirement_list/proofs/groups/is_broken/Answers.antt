use Rattle.std.proofs.Common.{◌≡◌, ◌∙◌, ap, sym, true, ◌&&◌, not}
use Rattle.lists.specs.Sets.{has}
use Rattle.dep_fields.specs.Views.{group_items}
use Rattle.requirement_list.proofs.KeptInstalled.{broken_now}
use Rattle.requirement_list.proofs.groups.is_broken.Goals as goal

pub returns-then-is_installed : goal.returns-then-is_installed
returns-then-is_installed c place =
    let starts = c.args.problem.now.starts in
    let there : has starts c.args.source ≡ true = sym c.is_installed.ensures ∙ c.if-is_installed.true in
    sym (ap (λ b. b && not c.has_target.result) there)
    ∙ ap (λ b. has starts c.args.source && not b) c.has_target.ensures
    ∙ broken_now starts c.args.indexes.now c.args.source place (group_items c.args.group.now) c.requires.installed
