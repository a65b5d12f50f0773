use Rattle.std.proofs.Common.{◌≡◌, ◌<◌, ◌+◌, ◌∷◌, ap, sym, subst, arith, [], length, get_or, set, ℕ, List}
use Rattle.std.specs.List.{sum}
use Rattle.std.proofs.lemmas.List.Sums.{get_or-le-sum_by}
use Rattle.problem.specs.Rooms.{Rooms, with_room}
use Rattle.problem.proofs.Counting.{number_is, ends_of, end_read, ends_counted}
use Rattle.problem.proofs.rooms.Rooms.count.Goals as goal

pub overflow_add-index_mut : goal.overflow_add-index_mut
overflow_add-index_mut c =
    let spans = c.self.inside.spans.items in
    let P : Rooms → Type 0 = λ r. c.args.number < length r.places in
    let Q : Rooms → Type 0 = λ r. sum r.places + 1 < 4294967296 in
    let low : c.args.number < length (ends_of spans) = subst P (sym c.self.view_is) c.requires.number in
    let few : sum (ends_of spans) + 1 < 4294967296 = subst Q (sym c.self.view_is) c.requires.few in
    let own : get_or (ends_of spans) c.args.number 0 ≡ c.index_mut.result.now.end = end_read spans c.args.number c.index_mut.result.now low c.index_mut.ensures.value in
    omega (arith, own, few, get_or-le-sum_by number_is (ends_of spans) c.args.number 0 low)

pub returns : goal.returns
returns c =
    let spans = c.self.inside.spans.items in
    let P : Rooms → Type 0 = λ r. c.args.number < length r.places in
    let low : c.args.number < length (ends_of spans) = subst P (sym c.self.view_is) c.requires.number in
    let same = ends_counted spans c.args.number c.index_mut.result.now low c.index_mut.ensures.value in
    let R : Rooms → Type 0 = λ r. (record { places = ends_of (set spans c.args.number (record { first = c.index_mut.result.now.first; end = c.index_mut.result.now.end + 1 })); size = length c.self.inside.table.items }) ≡ with_room r (c.args.number ∷ []) in
    subst R c.self.view_is (ap (λ (xs : List ℕ). record { places = xs; size = length c.self.inside.table.items }) same)
