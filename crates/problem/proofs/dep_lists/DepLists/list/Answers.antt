use Rattle.std.proofs.Common.{◌≡◌, ◌<◌, ap, sym, subst, arith, length}
use Rattle.problem.specs.declared.dep_lists.Span.{Span}
use Rattle.problem.specs.Rooms.{Laid}
use Rattle.problem.proofs.Spans.{span_at, span_read, spans_count, end_inside}
use Rattle.problem.proofs.dep_lists.DepLists.list.Goals as goal

pub list_of-requires-clause-end : goal.list_of-requires-clause-end
list_of-requires-clause-end c =
    let spans = c.self.inside.spans.items in
    let table = c.self.inside.table.items in
    let P : Laid → Type 0 = λ l. c.args.number < length l.lists in
    let low : c.args.number < length spans = omega (arith, subst P (sym c.self.view_is) c.requires, spans_count spans table) in
    let read : c.index.result.now ≡ span_at spans c.args.number = span_read spans c.args.number c.index.result.now low c.index.ensures in
    omega (arith, ap (λ (s : Span). s.end) read, ap length c.as_slice.ensures.value, end_inside spans (length table) c.self.invariant c.args.number low)
