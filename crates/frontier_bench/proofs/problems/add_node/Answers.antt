use Rattle.std.proofs.Common.{rules, ◌≡◌, List, Bool, true, false, cond, sym, subst}
use Rattle.std.specs.Prelude.{is_ok}
use Rattle.frontier.specs.declared.children.Child.{Child}
use Rattle.frontier.specs.Stores.{AreCosted}
use Rattle.frontier.proofs.Laws.{AreCosted-more}
use Rattle.frontier_bench.proofs.problems.add_node.Goals as goal

-- with one child more or without it
either : (P : List Child → Type 0) (old more new : List Child) (ok : Bool) → new ≡ cond ok more old → P old → P more → P new
either P old more new true e h k = subst P (sym e) k
either P old more new false e h k = subst P (sym e) h

pub returns : goal.returns
returns c =
    let table = c.args.table.now in
    let child : Child = record { node = c.args.node; closed = c.args.closed; cost = c.in_ok-cost.cost } in
    either (λ cs. AreCosted table cs) c.args.children.now _ c.push.new.self (is_ok c.push.result) c.push.ensures c.requires.costs (AreCosted-more table c.args.children.now child c.requires.costs (search rules))
