use Rattle.std.proofs.Common.{◌≡◌, rules, subst, length, List, ℕ}
use Rattle.hint_effects.specs.Sums.{AreSums}
use Rattle.hint_file.specs.Scenes.{scene_of}
use Rattle.hint_file.proofs.Capping.{row-next}
use Rattle.hint_file.proofs.rows.capped_row.Goals as goal

pub loop-term-preserved : goal.loop-term-preserved
loop-term-preserved c =
    let sums = subst (λ (name : List ℕ). AreSums c.args.hints.now name c.in_ok-sums.sums) c.as_slice.ensures c.in_ok-sums.ensures in
    let size : length c.add_term.new.row.items ≡ length c.loop-term.row.items = search rules in
    row-next (scene_of c.args.setting.now) c.args.hints.now c.args.terms.now c.loop-term.term-index c.term-item.result c.loop-term-test.true c.term-item.is
    c.loop-term.row.items c.add_term.new.row.items c.loop-term.invariant size (c.add_term.ensures.each c.args.hints.now sums)
