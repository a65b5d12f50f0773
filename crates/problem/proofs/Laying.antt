-- Lists are laid out: the room of each begins where that of the one before it ends.
use Rattle.std.proofs.Common.{◌≡◌, ◌<◌, ◌≤◌, ◌-◌, ◌+◌, ℕ, suc, List, [], ◌∷◌, length, get_or, set, map, take, drop, replicate, refl, ap, sym, subst, ◌∙◌, arith, inl, inr}
use Rattle.std.specs.List.{sum}
use Rattle.std.proofs.lemmas.List.{get_or-map, get_or-set_same, get_or-set_other, get_or_past, get_or_read, get_or-take, length-map, length-set, take-map, take_all}
use Rattle.std.proofs.lemmas.List.Sums.{sum_by_more, sum_by-take-le}
use Rattle.std.proofs.lemmas.Bool.{cases_eq, cases_lt}
use Rattle.problem.specs.declared.dep_lists.Span.{Span}
use Rattle.problem.specs.Rooms.{AreSpans, IsLaidOut, no_span, list_of, laid_of, room_of}
use Rattle.problem.proofs.Spans.{span_at, firsts_of}
use Rattle.problem.proofs.Counting.{number_is, ends_of}

-- the room of the lists before one
abbrev pub room_before : List Span → ℕ → ℕ
room_before rooms k = sum (take k (ends_of rooms))

abbrev pub empty_at : ℕ → Span
empty_at first = record { first = first; end = first }

-- the first lists are laid out, the others have their room still
pub record IsLaidTo (rooms now : List Span) (i end : ℕ) : Type 0 where
  pub size : length now ≡ length rooms
  pub done : (k : ℕ) → k < i → span_at now k ≡ empty_at (room_before rooms k)
  pub rest : (k : ℕ) → i ≤ k → span_at now k ≡ span_at rooms k
  pub sum_is : end ≡ room_before rooms i

own_end : (rooms : List Span) (k : ℕ) → k < length rooms → get_or (ends_of rooms) k 0 ≡ (span_at rooms k).end
own_end rooms k lt = get_or-map (λ (s : Span). s.end) rooms k no_span 0 lt

room_next : (rooms : List Span) (k : ℕ) → k < length rooms → room_before rooms (k + 1) ≡ room_before rooms k + (span_at rooms k).end
room_next rooms k lt =
    omega (arith, sum_by_more number_is (ends_of rooms) k 0 (omega (arith, lt, length-map rooms (λ (s : Span). s.end))), own_end rooms k lt)

pub room_all : (rooms : List Span) → room_before rooms (length rooms) ≡ sum (ends_of rooms)
room_all rooms = ap sum (take_all (length rooms) (ends_of rooms) (omega (arith, length-map rooms (λ (s : Span). s.end))))

pub room_fits : (rooms : List Span) (k : ℕ) → room_before rooms k ≤ sum (ends_of rooms)
room_fits rooms k = sum_by-take-le number_is (ends_of rooms) k

pub laid_read : (rooms now : List Span) (i end : ℕ) (s : Span) → i < length rooms → IsLaidTo rooms now i end → s ≡ get_or now i s → s ≡ span_at rooms i
laid_read rooms now i end s lt h e = get_or_read now i s (omega (arith, lt, h.size)) e no_span ∙ h.rest i (omega arith)

pub laid_sum : (rooms now : List Span) (i end : ℕ) (s : Span) → i < length rooms → IsLaidTo rooms now i end → s ≡ get_or now i s → end + s.end ≡ room_before rooms (i + 1)
laid_sum rooms now i end s lt h e = omega (arith, h.sum_is, ap (λ (s : Span). s.end) (laid_read rooms now i end s lt h e), room_next rooms i lt)

pub laid_more : (rooms now : List Span) (i end : ℕ) (s : Span) → i < length rooms → IsLaidTo rooms now i end → s ≡ get_or now i s → IsLaidTo rooms (set now i (empty_at end)) (i + 1) (end + s.end)
laid_more rooms now i end s lt h e = record {
  size = length-set now i (empty_at end) ∙ h.size;
  done = λ k less. elim (cases_eq k i) [
    | inl same ↦
        subst (λ n. span_at (set now i (empty_at end)) n ≡ empty_at (room_before rooms n)) (sym same) (get_or-set_same now i (empty_at end) no_span (omega (arith, lt, h.size)) ∙ ap empty_at h.sum_is)
    | inr other ↦ get_or-set_other now i k (empty_at end) no_span other ∙ h.done k (below_other k less other)
  ];
  rest = λ k le. get_or-set_other now i k (empty_at end) no_span (λ same. absurd (omega (arith, same, le))) ∙ h.rest k (omega (arith, le));
  sum_is = laid_sum rooms now i end s lt h e;
}
  where
    below_other : (k : ℕ) → k < i + 1 → (k ≡ i → ⊥) → k < i
    below_other k less other =
        elim (cases_lt k i) [
          | inl low ↦ low
          | inr high ↦ absurd (other (omega (arith, less, high)))
        ]

pub laid_out : (rooms now : List Span) (i end : ℕ) → length rooms ≤ i → IsLaidTo rooms now i end → IsLaidOut rooms now
laid_out rooms now i end le h = record { size = h.size; each = λ k lt. h.done k (omega (arith, lt, le)) }

-- Lists that are laid out.

first_is : (rooms spans : List Span) → IsLaidOut rooms spans → (k : ℕ) → k < length rooms → (span_at spans k).first ≡ room_before rooms k
first_is rooms spans h k lt = ap (λ (s : Span). s.first) (h.each k lt)

end_is : (rooms spans : List Span) → IsLaidOut rooms spans → (k : ℕ) → k < length rooms → (span_at spans k).end ≡ room_before rooms k
end_is rooms spans h k lt = ap (λ (s : Span). s.end) (h.each k lt)

pub next_first : (rooms spans : List Span) (size : ℕ) → IsLaidOut rooms spans → size ≡ sum (ends_of rooms) → (k : ℕ) → k < length rooms → get_or (firsts_of spans) (suc k) size ≡ room_before rooms (k + 1)
next_first rooms spans size h total k lt =
    elim (cases_lt (suc k) (length rooms)) [
      | inl low ↦
          let next : suc k ≡ k + 1 = omega arith in
          get_or-map (λ (s : Span). s.first) spans (suc k) no_span size (omega (arith, low, h.size)) ∙ first_is rooms spans h (suc k) low ∙ ap (room_before rooms) next
      | inr high ↦
          let all : length rooms ≡ k + 1 = omega (arith, lt, high) in
          get_or_past (firsts_of spans) (suc k) size (omega (arith, high, h.size, length-map spans (λ (s : Span). s.first))) ∙ total ∙ sym (room_all rooms) ∙ ap (room_before rooms) all
    ]

pub laid_spans : (rooms spans : List Span) (size : ℕ) → IsLaidOut rooms spans → size ≡ sum (ends_of rooms) → size < 4294967296 → AreSpans spans size
laid_spans rooms spans size h total small = record {
  small = small;
  each = λ k lt. let low : k < length rooms = omega (arith, lt, h.size) in omega (arith, first_is rooms spans h k low, end_is rooms spans h k low);
  apart = λ k lt. let low : k < length rooms = omega (arith, lt, h.size) in omega (arith, end_is rooms spans h k low, next_first rooms spans size h total k low, room_next rooms k low);
}

pub laid_room : (rooms spans : List Span) (table : List ℕ) → IsLaidOut rooms spans → length table ≡ sum (ends_of rooms) → (k : ℕ) → k < length rooms → room_of (laid_of spans table) k ≡ (span_at rooms k).end
laid_room rooms spans table h total k lt =
    let own : get_or (firsts_of spans) k 0 ≡ (span_at spans k).first = get_or-map (λ (s : Span). s.first) spans k no_span 0 (omega (arith, lt, h.size)) in
    omega (arith, own, first_is rooms spans h k lt, next_first rooms spans (length table) h total k lt, room_next rooms k lt)

lists_empty : (table : List ℕ) (spans : List Span) → ((k : ℕ) → k < length spans → list_of table (span_at spans k) ≡ []) → map (list_of table) spans ≡ replicate (length spans) []
lists_empty table [] h = refl
lists_empty table (s ∷ spans) h = ap (λ xs. xs ∷ map (list_of table) spans) (h 0 (omega arith)) ∙ ap (λ xs. [] ∷ xs) (lists_empty table spans (λ k lt. h (suc k) (omega (arith, lt))))

pub laid_lists : (rooms spans : List Span) (table : List ℕ) → IsLaidOut rooms spans → (laid_of spans table).lists ≡ replicate (length rooms) []
laid_lists rooms spans table h =
    lists_empty table spans (λ k lt.
    let low : k < length rooms = omega (arith, lt, h.size) in
    let none : (span_at spans k).end - (span_at spans k).first ≡ 0 = omega (arith, first_is rooms spans h k low, end_is rooms spans h k low) in
    ap (λ n. take n (drop (span_at spans k).first table)) none)
    ∙ ap (λ n. replicate n []) h.size

-- The first of the lists.

pub ends_taken : (spans : List Span) (count : ℕ) → ends_of (take count spans) ≡ take count (ends_of spans)
ends_taken spans count = sym (take-map (λ (s : Span). s.end) count spans)

pub sum_taken : (spans : List Span) (count : ℕ) → sum (ends_of (take count spans)) ≤ sum (ends_of spans)
sum_taken spans count = omega (arith, ap sum (ends_taken spans count), sum_by-take-le number_is (ends_of spans) count)

pub taken_at : (spans : List Span) (count k : ℕ) → k < count → count ≤ length spans → (span_at (take count spans) k).end ≡ get_or (ends_of spans) k 0
taken_at spans count k lt le =
    ap (λ (s : Span). s.end) (get_or-take count spans k no_span lt) ∙ sym (own_end spans k (omega (arith, lt, le)))
