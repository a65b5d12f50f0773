-- Those within the bound, of carriers that have all numbers within it.
use Rattle.std.proofs.Common.{◌∙◌, ap, map, sym, subst, List}
use Rattle.std.specs.List.{Contains}
use Rattle.std.specs.List.Sorted.{IsSorted}
use Rattle.lists.specs.Sets.{has}
use Rattle.dep_fields.specs.Relationships.{bound_of}
use Rattle.meeting_index.specs.Fitting.{carried_number, carried_order, fits}
use Rattle.meeting_index.specs.declared.carried.Carried.{Carried}
use Rattle.meeting_index.proofs.CrowdLaws.{has-within}
use Rattle.meeting_index.proofs.Edges.{contains-filter, fitting-one, sorted-filter}
use Rattle.meeting_index.proofs.crowd.Crowd.members.Goals as goal

pub returns-clause-numbers : goal.returns-clause-numbers
returns-clause-numbers c = λ n.
    let bound = bound_of (c.args.op, c.args.version.now) in
    ap (λ ys. has (map carried_number ys) n) c.within.ensures
    ∙ has-within bound c.looked_at.result.now n
    ∙ c.looked_at.ensures.serves bound (sym c.span_of.ensures) n

pub returns-clause-sorted : goal.returns-clause-sorted
returns-clause-sorted c =
    subst (λ (ys : List Carried). IsSorted carried_order ys) (sym c.within.ensures)
    (sorted-filter (fits (bound_of (c.args.op, c.args.version.now))) c.looked_at.result.now c.looked_at.ensures.sorted)

pub returns-clause-inside : goal.returns-clause-inside
returns-clause-inside c = λ y there.
    let bound = bound_of (c.args.op, c.args.version.now) in
    let list = c.looked_at.result.now in
    let inside = contains-filter (fits bound) list y (subst (λ (ys : List Carried). Contains ys y) c.within.ensures there) in
    record {
      there = c.looked_at.ensures.part y inside.0;
      within = inside.1;
      serves = λ other same within.
          sym (c.looked_at.ensures.serves other (same ∙ sym c.span_of.ensures) y.number) ∙ fitting-one list other y inside.0 within;
    }
