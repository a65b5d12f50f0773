-- A text goes to the end of the table, and those before it stay.
use Rattle.std.proofs.Common.{rules, ◌≡◌, length}
use Rattle.universe_parts.proofs.Spans.{spans-pushed, texts-pushed}
use Rattle.universe_parts.proofs.text_table.add_text.Goals as goal

pub returns-in-Ok-clause-within : goal.returns-in-Ok-clause-within
returns-in-Ok-clause-within c =
    let first : c.len-first.result ≡ length c.args.bytes.now.items = search rules in
    let end : c.len.result ≡ length c.extend_from_slice.new.self.items = search rules in
    rw c.in-Ok.ensures (spans-pushed c.args.spans.now.items c.args.bytes.now.items c.args.text.now c.extend_from_slice.new.self.items c.len-first.result c.len.result c.in_ok-extend_from_slice.ensures.items first end c.requires)

pub returns-in-Ok-clause-added : goal.returns-in-Ok-clause-added
returns-in-Ok-clause-added c =
    let first : c.len-first.result ≡ length c.args.bytes.now.items = search rules in
    let end : c.len.result ≡ length c.extend_from_slice.new.self.items = search rules in
    rw c.in-Ok.ensures (texts-pushed c.args.spans.now.items c.args.bytes.now.items c.args.text.now c.extend_from_slice.new.self.items c.len-first.result c.len.result c.in_ok-extend_from_slice.ensures.items first end c.requires)
