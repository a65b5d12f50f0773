use Rattle.std.proofs.Common.{rules, ◌<◌, length, get_or, nat_lt}
use Rattle.std.proofs.lemmas.Bool.{ltb-true}
use Rattle.problem.proofs.Indexes.{all_at}
use Rattle.problem.proofs.Filling.{noted_more}
use Rattle.problem.proofs.dep_lists.DepLists.note_all.Goals as goal

pub loop-number-preserved : goal.loop-number-preserved
loop-number-preserved c =
    let numbers = c.args.numbers.now in
    let i = c.loop-number.number-index in
    let lt : i < length numbers = search rules in
    let low : get_or numbers i 0 < length c.args.self.now.lists = ltb-true _ _ (all_at (λ k. nat_lt k (length c.args.self.now.lists)) numbers i c.requires.numbers lt) in
    noted_more c.args.dep c.args.self.now c.loop-number.self c.note.new.self numbers i lt low c.loop-number.invariant c.note.ensures
