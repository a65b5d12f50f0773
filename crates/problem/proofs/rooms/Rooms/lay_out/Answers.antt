use Rattle.std.proofs.Common.{◌≡◌, ◌<◌, ◌≤◌, ◌∙◌, ap, sym, subst, arith, length, get_or, take, replicate, [], ℕ, List}
use Rattle.std.specs.List.{sum}
use Rattle.std.proofs.lemmas.List.{length-take-le, length-map}
use Rattle.problem.specs.declared.dep_lists.Span.{Span}
use Rattle.problem.specs.Rooms.{Rooms, IsLaidOut, Laid, room_of}
use Rattle.problem.proofs.Spans.{span_at}
use Rattle.problem.proofs.Counting.{ends_of}
use Rattle.problem.proofs.Laying.{laid_spans, laid_room, laid_lists, sum_taken, taken_at}
use Rattle.problem.proofs.rooms.Rooms.lay_out.Goals as goal

-- what is known once the first lists are laid out and the table is cut to their room
record Known (spans cut laid : List Span) (table less : List ℕ) (count : ℕ) : Type 0 where
  many : length cut ≡ count
  laid_out : IsLaidOut cut laid
  size : length less ≡ sum (ends_of cut)
  small : length less < 4294967296
  enough : count ≤ length spans

known : (r : Rooms) (spans cut laid : List Span) (table less : List ℕ) (count end : ℕ) → (record { places = ends_of spans; size = length table }) ≡ r → count ≤ length r.places → sum r.places < 4294967296 → sum r.places ≤ r.size
    → cut ≡ take count spans → IsLaidOut cut laid → end ≡ sum (ends_of cut) → less ≡ take end table → Known spans cut laid table less count
known r spans cut laid table less count end view many few size e h total f =
    let P : Rooms → Type 0 = λ r. (count ≤ length r.places) × ((sum r.places < 4294967296) × (sum r.places ≤ r.size)) in
    let facts : (count ≤ length (ends_of spans)) × ((sum (ends_of spans) < 4294967296) × (sum (ends_of spans) ≤ length table)) = subst P (sym view) (many, (few, size)) in
    let enough : count ≤ length spans = omega (arith, facts.0, length-map spans (λ (s : Span). s.end)) in
    let within : sum (ends_of cut) ≤ sum (ends_of spans) = omega (arith, ap (λ xs. sum (ends_of xs)) e, sum_taken spans count) in
    let inside : end ≤ length table = omega (arith, total, within, facts.1.1) in
    let all : length less ≡ end = ap length f ∙ length-take-le end table inside in
    record {
      many = ap length e ∙ length-take-le count spans enough;
      laid_out = h;
      size = all ∙ total;
      small = omega (arith, all, total, within, facts.1.0);
      enough = enough;
    }

pub lay_out-end-requires : goal.lay_out-end-requires
lay_out-end-requires c =
    let P : Rooms → Type 0 = λ r. sum r.places < 4294967296 in
    let few : sum (ends_of c.self.inside.spans.items) < 4294967296 = subst P (sym c.self.view_is) c.requires.few in
    omega (arith, ap (λ xs. sum (ends_of xs)) c.truncate.ensures.items, sum_taken c.self.inside.spans.items c.args.count, few)

pub new-requires : goal.new-requires
new-requires c =
    let k = known c.args.self c.self.inside.spans.items c.truncate.new.self.items c.lay_out-end.new.spans.items c.self.inside.table.items c.truncate-2.new.self.items c.args.count c.lay_out-end.result
    c.self.view_is c.requires.many c.requires.few c.requires.size c.truncate.ensures.items c.lay_out-end.ensures.laid c.lay_out-end.ensures.end c.truncate-2.ensures.items in
    laid_spans c.truncate.new.self.items c.lay_out-end.new.spans.items (length c.truncate-2.new.self.items) k.laid_out k.size k.small

pub returns-clause-lists : goal.returns-clause-lists
returns-clause-lists c =
    let k = known c.args.self c.self.inside.spans.items c.truncate.new.self.items c.lay_out-end.new.spans.items c.self.inside.table.items c.truncate-2.new.self.items c.args.count c.lay_out-end.result
    c.self.view_is c.requires.many c.requires.few c.requires.size c.truncate.ensures.items c.lay_out-end.ensures.laid c.lay_out-end.ensures.end c.truncate-2.ensures.items in
    ap (λ (l : Laid). l.lists) c.new.ensures ∙ laid_lists c.truncate.new.self.items c.lay_out-end.new.spans.items c.truncate-2.new.self.items k.laid_out ∙ ap (λ n. replicate n []) k.many

pub returns-clause-rooms : goal.returns-clause-rooms
returns-clause-rooms c n lt =
    let k = known c.args.self c.self.inside.spans.items c.truncate.new.self.items c.lay_out-end.new.spans.items c.self.inside.table.items c.truncate-2.new.self.items c.args.count c.lay_out-end.result
    c.self.view_is c.requires.many c.requires.few c.requires.size c.truncate.ensures.items c.lay_out-end.ensures.laid c.lay_out-end.ensures.end c.truncate-2.ensures.items in
    let spans = c.self.inside.spans.items in
    ap (λ l. room_of l n) c.new.ensures
    ∙ laid_room c.truncate.new.self.items c.lay_out-end.new.spans.items c.truncate-2.new.self.items k.laid_out k.size n (omega (arith, lt, k.many))
    ∙ ap (λ xs. (span_at xs n).end) c.truncate.ensures.items ∙ taken_at spans c.args.count n lt k.enough ∙ ap (λ (r : Rooms). get_or r.places n 0) c.self.view_is
