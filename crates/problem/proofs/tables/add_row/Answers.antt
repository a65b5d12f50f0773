use Rattle.std.proofs.Common.{rules, ◌≡◌, length}
use Rattle.problem.proofs.Flat.{tables_pushed, view_pushed}
use Rattle.problem.proofs.tables.add_row.Goals as goal

pub returns-in-Ok-clause-tables : goal.returns-in-Ok-clause-tables
returns-in-Ok-clause-tables c =
    let first : c.len-first.result ≡ length c.args.table.now.items = search rules in
    let end : c.len.result ≡ length c.extend_from_slice.new.self.items = search rules in
    rw c.in-Ok.ensures (tables_pushed c.args.rows.now.items c.args.table.now.items c.args.targets.now c.extend_from_slice.new.self.items c.args.source c.len-first.result c.len.result c.args.soft c.in_ok-extend_from_slice.ensures.items first end c.requires)

pub returns-in-Ok-clause-view : goal.returns-in-Ok-clause-view
returns-in-Ok-clause-view c =
    let first : c.len-first.result ≡ length c.args.table.now.items = search rules in
    let end : c.len.result ≡ length c.extend_from_slice.new.self.items = search rules in
    rw c.in-Ok.ensures (view_pushed c.args.rows.now.items c.args.table.now.items c.args.targets.now c.extend_from_slice.new.self.items c.args.source c.len-first.result c.len.result c.args.soft c.in_ok-extend_from_slice.ensures.items first end c.requires.parts)
