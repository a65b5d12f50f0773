use Rattle.std.proofs.Common.{rules, ◌≡◌, length}
use Rattle.requirement_list.proofs.FlatLeft.{entries_more, entries_pushed, left_pushed}
use Rattle.requirement_list.proofs.left.add_entry.Goals as goal

pub returns-in_err-push-clause-entries : goal.returns-in_err-push-clause-entries
returns-in_err-push-clause-entries c =
    rw (c.in_err-push.ensures.items, c.in_ok-extend_from_slice.ensures.items) (entries_more c.args.entries.now.items c.args.table.now.items c.args.versions.now c.requires)

pub returns-clause-entries : goal.returns-clause-entries
returns-clause-entries c =
    let first : c.len-first.result ≡ length c.args.table.now.items = search rules in
    let end : c.len-end.result ≡ length c.extend_from_slice.new.self.items = search rules in
    rw c.in_ok-push.ensures.items (entries_pushed c.args.entries.now.items c.args.table.now.items c.args.versions.now c.extend_from_slice.new.self.items c.args.owner c.len-first.result c.len-end.result c.in_ok-extend_from_slice.ensures.items first end c.requires)

pub returns-clause-added : goal.returns-clause-added
returns-clause-added c =
    let first : c.len-first.result ≡ length c.args.table.now.items = search rules in
    let end : c.len-end.result ≡ length c.extend_from_slice.new.self.items = search rules in
    rw c.in_ok-push.ensures.items (left_pushed c.args.entries.now.items c.args.table.now.items c.args.versions.now c.extend_from_slice.new.self.items c.args.owner c.len-first.result c.len-end.result c.in_ok-extend_from_slice.ensures.items first end c.requires)
