-- Lists in a table: what one more number at the end of one makes of them.
use Rattle.std.proofs.Common.{◌≡◌, ◌≢◌, ◌<◌, ◌≤◌, ◌-◌, ◌+◌, ℕ, zero, suc, List, [], ◌∷◌, ◌++◌, length, get_or, set, map, take, drop, refl, ap, sym, subst, ◌∙◌, arith, inl, inr}
use Rattle.std.specs.List.{slice_range}
use Rattle.std.proofs.lemmas.List.{get_or-set_same, get_or-set_other, get_or-map, map-set, length-set, length-map, length-drop, take-set-le, drop-set-lt, drop-set-add, take_more_set, get_or_past, get_or_read, length-take}
use Rattle.std.proofs.Math.Seq.{map-set_same}
use Rattle.std.proofs.Math.Nat.{eq-or-lt_of_le}
use Rattle.std.proofs.lemmas.Bool.{cases_eq, cases_order}
use Rattle.problem.specs.declared.dep_lists.Span.{Span}
use Rattle.problem.specs.Rooms.{AreSpans, no_span, list_of, laid_of, room_of, with_put}

abbrev pub span_at : List Span → ℕ → Span
span_at spans k = get_or spans k no_span

abbrev pub firsts_of : List Span → List ℕ
firsts_of spans = map (λ (s : Span). s.first) spans

first_at : (spans : List Span) (k size : ℕ) → k < length spans → get_or (firsts_of spans) k size ≡ (span_at spans k).first
first_at spans k size lt = get_or-map (λ (s : Span). s.first) spans k no_span size lt

-- a list ends before a later one begins
ends_before : (spans : List Span) (size : ℕ) → AreSpans spans size → (m j k : ℕ) → k ≡ suc (j + m) → k < length spans → (span_at spans j).end ≤ (span_at spans k).first
ends_before spans size h zero j k e lt =
    let next : suc j ≡ k = omega (arith, e) in
    let up : (span_at spans j).end ≤ get_or (firsts_of spans) k size = subst (λ n. (span_at spans j).end ≤ get_or (firsts_of spans) n size) next (h.apart j (omega (arith, e, lt))) in
    omega (arith, up, first_at spans k size lt)
ends_before spans size h (suc m) j k e lt =
    let own : (span_at spans j).end ≤ get_or (firsts_of spans) (suc j) size = h.apart j (omega (arith, e, lt)) in
    let up : (span_at spans (suc j)).first ≤ (span_at spans (suc j)).end = h.each (suc j) (omega (arith, e, lt)) in
    let rest : (span_at spans (suc j)).end ≤ (span_at spans k).first = ends_before spans size h m (suc j) k (omega (arith, e)) lt in
    omega (arith, own, up, rest, first_at spans (suc j) size (omega (arith, e, lt)))

-- and so does its room
pub room_before : (spans : List Span) (size : ℕ) → AreSpans spans size → (j k : ℕ) → j < k → k < length spans → get_or (firsts_of spans) (suc j) size ≤ (span_at spans k).first
room_before spans size h j k lt low =
    elim (eq-or-lt_of_le {n = suc j} {m = k} (omega (arith, lt))) [
      | inl e ↦ subst (λ n. get_or (firsts_of spans) n size ≤ (span_at spans k).first) (sym e) (omega (arith, first_at spans k size low))
      | inr less ↦
          let up : (span_at spans (suc j)).first ≤ (span_at spans (suc j)).end = h.each (suc j) (omega (arith, less, low)) in
          let rest : (span_at spans (suc j)).end ≤ (span_at spans k).first = ends_before spans size h (k - suc (suc j)) (suc j) k (omega (arith, less)) low in
          omega (arith, up, rest, first_at spans (suc j) size (omega (arith, less, low)))
    ]

-- the room of each list is within the table
room_inside : (spans : List Span) (size : ℕ) → AreSpans spans size → (m k : ℕ) → length spans ≡ suc (k + m) → get_or (firsts_of spans) (suc k) size ≤ size
room_inside spans size h zero k e =
    let past : get_or (firsts_of spans) (suc k) size ≡ size = get_or_past (firsts_of spans) (suc k) size (omega (arith, e, length-map spans (λ (s : Span). s.first))) in
    omega (arith, past)
room_inside spans size h (suc m) k e =
    let low : suc k < length spans = omega (arith, e) in
    let rest : get_or (firsts_of spans) (suc (suc k)) size ≤ size = room_inside spans size h m (suc k) (omega (arith, e)) in
    omega (arith, first_at spans (suc k) size low, h.each (suc k) low, h.apart (suc k) low, rest)

pub room_end : (spans : List Span) (size : ℕ) → AreSpans spans size → (k : ℕ) → k < length spans → get_or (firsts_of spans) (suc k) size ≤ size
room_end spans size h k lt = room_inside spans size h (length spans - suc k) k (omega (arith, lt))

pub end_inside : (spans : List Span) (size : ℕ) → AreSpans spans size → (k : ℕ) → k < length spans → (span_at spans k).end ≤ size
end_inside spans size h k lt = omega (arith, h.apart k lt, room_end spans size h k lt)

-- Reads of a table after a write.

range_before : (table : List ℕ) (a b e d : ℕ) → a ≤ b → b ≤ e → slice_range (set table e d) a b ≡ slice_range table a b
range_before table a b e d ab be =
    let place : e ≡ a + (e - a) = omega (arith, ab, be) in
    ap (λ n. take (b - a) (drop a (set table n d))) place ∙ ap (take (b - a)) (drop-set-add a table (e - a) d) ∙ take-set-le (b - a) (drop a table) (e - a) d (omega (arith, ab, be))

range_behind : (table : List ℕ) (a b e d : ℕ) → e < a → slice_range (set table e d) a b ≡ slice_range table a b
range_behind table a b e d lt = ap (take (b - a)) (drop-set-lt a table e d lt)

range_put : (table : List ℕ) (a e d : ℕ) → a ≤ e → e < length table → slice_range (set table e d) a (e + 1) ≡ slice_range table a e ++ d ∷ []
range_put table a e d ae lt =
    let place : e ≡ a + (e - a) = omega (arith, ae) in
    let more : e + 1 - a ≡ (e - a) + 1 = omega (arith, ae) in
    ap (λ n. take n (drop a (set table e d))) more ∙ ap (λ n. take ((e - a) + 1) (drop a (set table n d))) place ∙ ap (take ((e - a) + 1)) (drop-set-add a table (e - a) d)
    ∙ take_more_set (drop a table) (e - a) d (omega (arith, length-drop a table, ae, lt))

lists_agree : (f g : Span → List ℕ) (spans : List Span) → ((j : ℕ) → j < length spans → f (span_at spans j) ≡ g (span_at spans j)) → map f spans ≡ map g spans
lists_agree f g [] h = refl
lists_agree f g (s ∷ spans) h = ap (λ x. x ∷ map f spans) (h 0 (omega arith)) ∙ ap (λ xs. g s ∷ xs) (lists_agree f g spans (λ j lt. h (suc j) (omega (arith, lt))))

-- One number more at the end of a list that has room.
pub record IsPut (old : List Span) (table : List ℕ) (k d : ℕ) (s : Span) : Type 0 where
  pub spans : AreSpans (set old k s) (length (set table (span_at old k).end d))
  pub view : laid_of (set old k s) (set table (span_at old k).end d) ≡ with_put (laid_of old table) k d

pub put_end : (spans : List Span) (table : List ℕ) → AreSpans spans (length table) → (k d : ℕ) → k < length spans → (span_at spans k).end < get_or (firsts_of spans) (suc k) (length table)
    → IsPut spans table k d (record { first = (span_at spans k).first; end = (span_at spans k).end + 1 })
put_end spans table h k d lt room = record { spans = spans_put; view = view_put }
  where
    old : Span
    old = span_at spans k

    new : Span
    new = record { first = (span_at spans k).first; end = (span_at spans k).end + 1 }

    e : ℕ
    e = (span_at spans k).end

    size : length (set table (span_at spans k).end d) ≡ length table
    size = length-set table (span_at spans k).end d

    firsts : firsts_of (set spans k (record { first = (span_at spans k).first; end = (span_at spans k).end + 1 })) ≡ firsts_of spans
    firsts = map-set_same (λ (s : Span). s.first) spans k (record { first = (span_at spans k).first; end = (span_at spans k).end + 1 }) no_span refl

    inside : (span_at spans k).end < length table
    inside = omega (arith, room, room_end spans (length table) h k lt)

    count : length (set spans k (record { first = (span_at spans k).first; end = (span_at spans k).end + 1 })) ≡ length spans
    count = length-set spans k (record { first = (span_at spans k).first; end = (span_at spans k).end + 1 })

    at : (P : ℕ → Span → Type 0) → P k (record { first = (span_at spans k).first; end = (span_at spans k).end + 1 }) → ((j : ℕ) → j ≢ k → j < length spans → P j (span_at spans j))
        → (j : ℕ) → j < length spans → P j (span_at (set spans k (record { first = (span_at spans k).first; end = (span_at spans k).end + 1 })) j)
    at P own other j low =
        elim (cases_eq j k) [
          | inl same ↦ subst (λ n. P n (span_at (set spans k new) n)) (sym same) (subst (P k) (sym (get_or-set_same spans k new no_span lt)) own)
          | inr apart ↦ subst (P j) (sym (get_or-set_other spans k j new no_span apart)) (other j apart low)
        ]

    spans_put : AreSpans (set spans k (record { first = (span_at spans k).first; end = (span_at spans k).end + 1 })) (length (set table (span_at spans k).end d))
    spans_put = record {
      small = omega (arith, size, h.small);
      each = λ j low. at (λ j s. s.first ≤ s.end) (omega (arith, h.each k lt)) (λ j apart less. h.each j less) j (omega (arith, count, low));
      apart = λ j low.
          let Q : ℕ → Span → Type 0 = λ j s. s.end ≤ get_or (firsts_of spans) (suc j) (length table) in
          let fact : Q j (span_at (set spans k new) j) = at Q (omega (arith, room)) (λ j apart less. h.apart j less) j (omega (arith, count, low)) in
          subst (λ xs. (span_at (set spans k new) j).end ≤ get_or xs (suc j) (length (set table (span_at spans k).end d))) (sym firsts)
          (subst (λ n. (span_at (set spans k new) j).end ≤ get_or (firsts_of spans) (suc j) n) (sym size) fact);
    }

    same : (j : ℕ) → j < length spans → list_of (set table (span_at spans k).end d) (span_at spans j) ≡ list_of table (span_at spans j)
    same j low =
        elim (cases_order j k) [
          | inl own ↦ subst (λ n. list_of (set table e d) (span_at spans n) ≡ list_of table (span_at spans n)) (sym own) (range_before table (span_at spans k).first e e d (h.each k lt) (omega arith))
          | inr (inl before) ↦
              range_before table (span_at spans j).first (span_at spans j).end e d (h.each j low) (omega (arith, h.apart j low, room_before spans (length table) h j k before lt, h.each k lt))
          | inr (inr behind) ↦ range_behind table (span_at spans j).first (span_at spans j).end e d (omega (arith, room, room_before spans (length table) h k j behind low))
        ]

    lists : map (list_of (set table (span_at spans k).end d)) (set spans k (record { first = (span_at spans k).first; end = (span_at spans k).end + 1 }))
        ≡ set (map (list_of table) spans) k (get_or (map (list_of table) spans) k [] ++ d ∷ [])
    lists =
        let own : get_or (map (list_of table) spans) k [] ≡ list_of table (span_at spans k) = get_or-map (list_of table) spans k no_span [] lt in
        map-set (list_of (set table e d)) spans k new
        ∙ ap (λ xs. set xs k (list_of (set table e d) new)) (lists_agree (list_of (set table e d)) (list_of table) spans same)
        ∙ ap (set (map (list_of table) spans) k) (range_put table (span_at spans k).first e d (h.each k lt) inside ∙ ap (λ xs. xs ++ d ∷ []) (sym own))

    view_put : laid_of (set spans k (record { first = (span_at spans k).first; end = (span_at spans k).end + 1 })) (set table (span_at spans k).end d) ≡ with_put (laid_of spans table) k d
    view_put = rw (lists, firsts, size) refl

-- a number read of a table of spans
pub span_read : (spans : List Span) (k : ℕ) (s : Span) → k < length spans → s ≡ get_or spans k s → s ≡ span_at spans k
span_read spans k s lt e = get_or_read spans k s lt e no_span

pub spans_count : (spans : List Span) (table : List ℕ) → length (laid_of spans table).lists ≡ length spans
spans_count spans table = length-map spans (list_of table)

pub list_read : (spans : List Span) (table : List ℕ) (k : ℕ) → k < length spans → get_or (laid_of spans table).lists k [] ≡ list_of table (span_at spans k)
list_read spans table k lt = get_or-map (list_of table) spans k no_span [] lt

range_length : (xs : List ℕ) (a b : ℕ) → a ≤ b → b ≤ length xs → length (slice_range xs a b) ≡ b - a
range_length xs a b ab le = omega (arith, length-take (b - a) (drop a xs), length-drop a xs, ab, le)

-- a list that is shorter than its room ends before its room does
pub room_left : (spans : List Span) (table : List ℕ) → AreSpans spans (length table) → (k : ℕ) → k < length spans
    → length (get_or (laid_of spans table).lists k []) < room_of (laid_of spans table) k → (span_at spans k).end < get_or (firsts_of spans) (suc k) (length table)
room_left spans table h k lt room =
    let own : length (get_or (laid_of spans table).lists k []) ≡ (span_at spans k).end - (span_at spans k).first =
    ap length (list_read spans table k lt) ∙ range_length table (span_at spans k).first (span_at spans k).end (h.each k lt) (end_inside spans (length table) h k lt) in
    omega (arith, room, own, first_at spans k 0 lt, h.each k lt, h.apart k lt)
