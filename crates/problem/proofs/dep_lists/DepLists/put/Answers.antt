use Rattle.std.proofs.Common.{◌≡◌, ◌<◌, ◌+◌, ◌∙◌, ap, sym, subst, arith, rules, [], length, get_or, set, ℕ, List, suc}
use Rattle.std.specs.Vec.{vec_len}
use Rattle.problem.specs.declared.dep_lists.Span.{Span}
use Rattle.problem.specs.Rooms.{Laid, AreSpans, laid_of, room_of, with_put}
use Rattle.problem.proofs.Spans.{span_at, span_read, spans_count, firsts_of, room_left, room_end, put_end}
use Rattle.problem.proofs.dep_lists.DepLists.put.Goals as goal

-- what is known of the list that is put to
pub record Known (spans : List Span) (table : List ℕ) (k : ℕ) (s : Span) : Type 0 where
  pub number : k < length spans
  pub read : s ≡ span_at spans k
  pub room : (span_at spans k).end < get_or (firsts_of spans) (suc k) (length table)

known : (spans : List Span) (table : List ℕ) (k : ℕ) (s : Span) (now : Laid) → laid_of spans table ≡ now → AreSpans spans (length table) → k < length now.lists
    → length (get_or now.lists k []) < room_of now k → s ≡ get_or spans k s → Known spans table k s
known spans table k s now view h number room read =
    let P : Laid → Type 0 = λ l. k < length l.lists in
    let Q : Laid → Type 0 = λ l. length (get_or l.lists k []) < room_of l k in
    let low : k < length spans = omega (arith, subst P (sym view) number, spans_count spans table) in
    record { number = low; read = span_read spans k s low read; room = room_left spans table h k low (subst Q (sym view) room) }

pub index_mut-requires : goal.index_mut-requires
index_mut-requires c =
    let spans = c.self.inside.spans.items in
    let table = c.self.inside.table.items in
    let k = known spans table c.args.number c.index-span.result.now c.args.self.now c.self.view_is c.self.invariant c.requires.number c.requires.room c.index-span.ensures in
    let size : vec_len c.self.inside.table ≡ length table = search rules in
    omega (arith, size, ap (λ (s : Span). s.end) k.read, k.room, room_end spans (length table) c.self.invariant c.args.number k.number)

pub overflow_add-span : goal.overflow_add-span
overflow_add-span c =
    let spans = c.self.inside.spans.items in
    let table = c.self.inside.table.items in
    let k = known spans table c.args.number c.index-span.result.now c.args.self.now c.self.view_is c.self.invariant c.requires.number c.requires.room c.index-span.ensures in
    omega (arith, ap (λ (s : Span). s.end) k.read, k.room, room_end spans (length table) c.self.invariant c.args.number k.number, c.self.invariant.small)

pub invariant_of-self : goal.invariant_of-self
invariant_of-self c =
    let spans = c.self.inside.spans.items in
    let table = c.self.inside.table.items in
    let number = c.args.number in
    let dep = c.args.dep in
    let k = known spans table number c.index-span.result.now c.args.self.now c.self.view_is c.self.invariant c.requires.number c.requires.room c.index-span.ensures in
    let P : Span → Type 0 = λ s. AreSpans (set spans number (record { first = s.first; end = s.end + 1 })) (length (set table s.end dep)) in
    subst P (sym k.read) (put_end spans table c.self.invariant number dep k.number k.room).spans

pub returns : goal.returns
returns c =
    let spans = c.self.inside.spans.items in
    let table = c.self.inside.table.items in
    let number = c.args.number in
    let dep = c.args.dep in
    let k = known spans table number c.index-span.result.now c.args.self.now c.self.view_is c.self.invariant c.requires.number c.requires.room c.index-span.ensures in
    let P : Span → Type 0 = λ s. laid_of (set spans number (record { first = s.first; end = s.end + 1 })) (set table s.end dep) ≡ with_put (laid_of spans table) number dep in
    subst P (sym k.read) (put_end spans table c.self.invariant number dep k.number k.room).view ∙ ap (λ l. with_put l number dep) c.self.view_is
