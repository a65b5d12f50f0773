-- The carrier at the edge of those within a bound.
use Rattle.std.proofs.Common.{◌≡◌, ◌<◌, ◌≤◌, ◌-◌, ℕ, zero, suc, ◌∙◌, ap, sym, refl, subst, List, [], ◌∷◌, map, Bool, true, false, cond, nat_eq, Some, option_map, arith, length, get_or, eq-eqb}
use Rattle.std.specs.List.{Contains, filter, slice_get}
use Rattle.std.specs.List.Sorted.{IsSorted}
use Rattle.std.specs.Option.{MatchOption}
use Rattle.std.specs.Ordering.{is_ge, is_le, is_lt, ordering_reverse, ordering_then, nat_cmp}
use Rattle.std.specs.declared.cmp.Ordering.{Ordering}
use Rattle.std.specs.declared.cmp.Ordering.TheVariants.{Less, Equal, Greater}
use Rattle.std.proofs.lemmas.Bool.{and_from, eqb-true}
use Rattle.std.proofs.lemmas.List.Folds.{Any-from_list_any, list_any_at}
use Rattle.std.proofs.lemmas.List.{get_or_read}
use Rattle.std.proofs.lemmas.List.Kept.{IsSortedBy-filter}
use Rattle.std.proofs.lemmas.List.Sorted.{ranks_by, sorted_far}
use Rattle.std.proofs.lemmas.Option.{slice_get-get_or}
use Rattle.lists.specs.Sets.{has}
use Rattle.lists.proofs.Tests.{list_any-map}
use Rattle.deb_version.specs.VersionOrder.{version_order}
use Rattle.deb_version.proofs.Keys.{version_order-preorder}
use Rattle.dep_fields.specs.Operators.{holds}
use Rattle.dep_fields.specs.Relationships.{VersionBound}
use Rattle.dep_fields.specs.declared.Op.{Op}
use Rattle.dep_fields.specs.declared.Op.TheVariants as op
use Rattle.universe_model.proofs.Orders.{order-total}
use Rattle.meeting_index.specs.CarriedLaws.{carried_order-total}
use Rattle.meeting_index.specs.Crowds.{IsEdge, IsInside, crowd_has}
use Rattle.meeting_index.specs.Fitting.{carried_carrier, carried_number, carried_order, carried_parts, fits, fits_as, has_fitting, reaches}
use Rattle.meeting_index.specs.Spans.{span_of}
use Rattle.meeting_index.specs.declared.carried.Carried.{Carried}
use Rattle.meeting_index.specs.declared.crowd.Crowd.{Crowd}
use Rattle.meeting_index.specs.declared.keys.Span.{Span}
use Rattle.meeting_index.specs.declared.keys.Span.TheVariants as span
use Rattle.meeting_index.specs.declared.sides.Side.TheVariants as side
use Rattle.meeting_index.proofs.SideLaws.{down, up}

-- ---- what a filter leaves

pub sorted-filter : (test : Carried → Bool) (xs : List Carried) → IsSorted carried_order xs → IsSorted carried_order (filter test xs)
sorted-filter test xs sorted = IsSortedBy-filter (λ x y. is_lt (carried_order x y)) (ranks_by carried_order-total (λ x. x)) test xs sorted

module _ {X : Type 0} (test : X → Bool) where
  later : (x y : X) (xs : List X) → Contains xs y → Contains (x ∷ xs) y
  later x y xs there = (suc there.0, (let lt : suc there.0 < length (x ∷ xs) = omega (arith, there.1) in lt), there.2)

  filter-cases : (x y : X) (xs : List X) (b : Bool) → test x ≡ b → Contains (cond b (x ∷ filter test xs) (filter test xs)) y
      → (Contains (filter test xs) y → Contains xs y × (test y ≡ true)) → Contains (x ∷ xs) y × (test y ≡ true)
  filter-cases x y xs true e (zero, lt, is) rest = ((zero, (let first : 0 < length (x ∷ xs) = omega arith in first), is), ap test (sym is) ∙ e)
  filter-cases x y xs true e (suc k, lt, is) rest =
      let found = rest (k, (let less : k < length (filter test xs) = omega (arith, lt) in less), is) in (later x y xs found.0, found.1)
  filter-cases x y xs false e there rest = let found = rest there in (later x y xs found.0, found.1)

  pub contains-filter : (xs : List X) (y : X) → Contains (filter test xs) y → Contains xs y × (test y ≡ true)
  contains-filter [] y there = absurd (let none : there.0 < 0 = there.1 in omega arith)
  contains-filter (x ∷ xs) y there = filter-cases x y xs (test x) refl there (contains-filter xs y)

-- one of a list that is within a bound
pub fitting-one : (xs : List Carried) (bound : VersionBound) (y : Carried) → Contains xs y → fits bound y ≡ true → has_fitting xs bound y.number ≡ true
fitting-one xs bound y there inside =
    list_any_at (fits_as bound y.number) xs there.0 y there.1
    (ap (fits_as bound y.number) there.2 ∙ and_from (fits bound y) (nat_eq y.number y.number) inside (eq-eqb y.number y.number refl))

-- ---- what is within a bound to one side

reach-later : (o : Op) → span_of o ≡ span.Later → reaches side.Greatest o ≡ true
reach-later op.Less e = absurd (cc)
reach-later op.AtMost e = absurd (cc)
reach-later op.Equal e = absurd (cc)
reach-later op.AtLeast e = refl
reach-later op.More e = refl

reach-earlier : (o : Op) → span_of o ≡ span.Earlier → reaches side.Least o ≡ true
reach-earlier op.Less e = refl
reach-earlier op.AtMost e = refl
reach-earlier op.Equal e = absurd (cc)
reach-earlier op.AtLeast e = absurd (cc)
reach-earlier op.More e = absurd (cc)

first-lt : (o n : Ordering) → is_lt (ordering_then o n) ≡ false → is_lt o ≡ false
first-lt Less n e = e
first-lt Equal n e = refl
first-lt Greater n e = refl

turned-le : (o : Ordering) → is_lt o ≡ false → is_le (ordering_reverse o) ≡ true
turned-le Less e = absurd (cc)
turned-le Equal e = refl
turned-le Greater e = refl

straight-ge : (o : Ordering) → is_lt o ≡ false → is_ge o ≡ true
straight-ge Less e = absurd (cc)
straight-ge Equal e = refl
straight-ge Greater e = refl

-- in order, an earlier place has no later version
in-order : (xs : List Carried) → IsSorted carried_order xs → (i j : ℕ) (d : Carried) → i ≤ j → j < length xs
    → is_lt (version_order (carried_parts (get_or xs j d)) (carried_parts (get_or xs i d))) ≡ false
in-order xs sorted i j d le lt =
    first-lt (version_order (carried_parts (get_or xs j d)) (carried_parts (get_or xs i d))) (nat_cmp (get_or xs j d).number (get_or xs i d).number)
    (sorted_far (λ x y. is_lt (carried_order x y)) (ranks_by carried_order-total (λ x. x)) xs sorted i j d le lt)

later-fits : (y e : Carried) (other : VersionBound) → span_of other.op ≡ span.Later → is_lt (version_order (carried_parts e) (carried_parts y)) ≡ false
    → fits other y ≡ true → fits other e ≡ true
later-fits y e other is order inside =
    up other.op (carried_parts y) (carried_parts e) other.parts
    (ap is_le ((order-total version_order version_order-preorder).antisymm (carried_parts y) (carried_parts e)) ∙ turned-le (version_order (carried_parts e) (carried_parts y)) order)
    (reach-later other.op is) inside

earlier-fits : (y e : Carried) (other : VersionBound) → span_of other.op ≡ span.Earlier → is_lt (version_order (carried_parts y) (carried_parts e)) ≡ false
    → fits other y ≡ true → fits other e ≡ true
earlier-fits y e other is order inside =
    down other.op (carried_parts y) (carried_parts e) other.parts (straight-ge (version_order (carried_parts y) (carried_parts e)) order) (reach-earlier other.op is) inside

op-equal : (o : Op) → span_of o ≡ span.Equal → o ≡ op.Equal
op-equal op.Less e = absurd (cc)
op-equal op.AtMost e = absurd (cc)
op-equal op.Equal e = refl
op-equal op.AtLeast e = absurd (cc)
op-equal op.More e = absurd (cc)

holds-equal : (o : Ordering) → holds op.Equal o ≡ true → o ≡ Equal
holds-equal Less e = absurd (cc)
holds-equal Equal e = refl
holds-equal Greater e = absurd (cc)

-- what is equal to the version of one bound, and one of them equal to that of another
equal-fits : (y e : Carried) (bound other : VersionBound) → span_of bound.op ≡ span.Equal → span_of other.op ≡ span.Equal → fits bound y ≡ true → fits bound e ≡ true
    → fits other y ≡ true → fits other e ≡ true
equal-fits y e bound other is also inside within fit =
    let total = order-total version_order version_order-preorder in
    let first : version_order (carried_parts y) bound.parts ≡ Equal =
    holds-equal (version_order (carried_parts y) bound.parts) (ap (λ o. holds o (version_order (carried_parts y) bound.parts)) (sym (op-equal bound.op is)) ∙ inside) in
    let second : version_order (carried_parts e) bound.parts ≡ Equal =
    holds-equal (version_order (carried_parts e) bound.parts) (ap (λ o. holds o (version_order (carried_parts e) bound.parts)) (sym (op-equal bound.op is)) ∙ within) in
    let same : version_order (carried_parts e) other.parts ≡ version_order (carried_parts y) other.parts =
    total.congr (carried_parts e) bound.parts other.parts second ∙ sym (total.congr (carried_parts y) bound.parts other.parts first) in
    ap (holds other.op) same ∙ fit

-- ---- the edge of a list

get_or_again : (xs : List Carried) (k : ℕ) (d : Carried) → k < length xs → get_or xs k d ≡ get_or xs k (get_or xs k d)
get_or_again [] k d lt = absurd (omega arith)
get_or_again (x ∷ xs) zero d lt = refl
get_or_again (x ∷ xs) (suc k) d lt = get_or_again xs k d (omega arith)

-- a number of a list is that of one of it
numbered : (xs : List Carried) (c : ℕ) → has (map carried_number xs) c ≡ true → (y : Carried) × (Contains xs y) × (y.number ≡ c)
numbered xs c h =
    let any = Any-from_list_any (λ (y : Carried). nat_eq y.number c) xs (sym (list_any-map (λ n. nat_eq n c) carried_number xs) ∙ h) in
    (any.1, (any.0, any.2, any.3), eqb-true any.1.number c any.4)

-- what is at the edge, where all others of the list fit where it does
module _ (crowd : Crowd) (bound : VersionBound) (xs : List Carried)
    (numbers : (c : ℕ) → has (map carried_number xs) c ≡ crowd_has crowd (Some bound) c) (inside : (y : Carried) → Contains xs y → IsInside crowd bound y) where
  edge-of : (y : Carried) → Contains xs y
      → ((other : VersionBound) → span_of other.op ≡ span_of bound.op → fits other y ≡ true → (e : Carried) → Contains xs e → fits other e ≡ true)
      → IsEdge crowd bound y.carrier
  edge-of y there all = record {
    carried = y;
    there = (inside y there).there;
    is = refl;
    within = (inside y there).within;
    least = λ other same fit c has_c.
        let one = numbered xs c (numbers c ∙ has_c) in
        ap (crowd_has crowd (Some other)) (sym one.2) ∙ (inside one.0 one.1).serves other same (all other same fit one.0 one.1);
  }

  none-of : xs ≡ [] → (c : ℕ) → crowd_has crowd (Some bound) c ≡ false
  none-of empty c = sym (numbers c) ∙ ap (λ ys. has (map carried_number ys) c) empty

  first-fits : IsSorted carried_order xs → (s : Span) → span_of bound.op ≡ s → (s ≡ span.Earlier → ⊥) → (d : Carried) → 0 < length xs
      → (other : VersionBound) → span_of other.op ≡ span_of bound.op → fits other (get_or xs 0 d) ≡ true → (e : Carried) → Contains xs e → fits other e ≡ true
  first-fits sorted span.All is late d lt other same fit e there = absurd (no-all bound.op is)
    where
      no-all : (o : Op) → span_of o ≡ span.All → ⊥
      no-all op.Less f = cc
      no-all op.AtMost f = cc
      no-all op.Equal f = cc
      no-all op.AtLeast f = cc
      no-all op.More f = cc
  first-fits sorted span.Earlier is late d lt other same fit e there = absurd (late refl)
  first-fits sorted span.Equal is late d lt other same fit e there =
      equal-fits (get_or xs 0 d) e bound other is (same ∙ is) (inside (get_or xs 0 d) (0, lt, first-read xs d lt)).within (inside e there).within fit
    where
      first-read : (ys : List Carried) (x : Carried) → 0 < length ys → get_or ys 0 (get_or ys 0 x) ≡ get_or ys 0 x
      first-read [] x none = absurd (omega arith)
      first-read (y ∷ ys) x some = refl
  first-fits sorted span.Later is late d lt other same fit e there =
      later-fits (get_or xs 0 d) e other (same ∙ is)
      (ap (λ x. is_lt (version_order (carried_parts x) (carried_parts (get_or xs 0 d)))) (at-read xs there.0 d e there.1 there.2)
      ∙ in-order xs sorted 0 there.0 d (omega arith) there.1) fit
    where
      at-read : (ys : List Carried) (k : ℕ) (x y : Carried) → k < length ys → get_or ys k y ≡ y → y ≡ get_or ys k x
      at-read ys k x y lt is = get_or_read ys k y lt (sym is) x

  last-fits : IsSorted carried_order xs → span_of bound.op ≡ span.Earlier → (d : Carried) → 0 < length xs
      → (other : VersionBound) → span_of other.op ≡ span_of bound.op → fits other (get_or xs (length xs - 1) d) ≡ true → (e : Carried) → Contains xs e → fits other e ≡ true
  last-fits sorted is d lt other same fit e there =
      earlier-fits (get_or xs (length xs - 1) d) e other (same ∙ is)
      (ap (λ x. is_lt (version_order (carried_parts (get_or xs (length xs - 1) d)) (carried_parts x))) (get_or_read xs there.0 e there.1 (sym there.2) d)
      ∙ in-order xs sorted there.0 (length xs - 1) d (omega (arith, there.1)) (omega arith)) fit

pub first-edge : (crowd : Crowd) (bound : VersionBound) (xs : List Carried)
    → ((c : ℕ) → has (map carried_number xs) c ≡ crowd_has crowd (Some bound) c) → ((y : Carried) → Contains xs y → IsInside crowd bound y)
    → IsSorted carried_order xs → (span_of bound.op ≡ span.Earlier → ⊥)
    → MatchOption (option_map carried_carrier (slice_get xs 0)) ((c : ℕ) → crowd_has crowd (Some bound) c ≡ false) (IsEdge crowd bound)
first-edge crowd bound [] numbers inside sorted late = none-of crowd bound [] numbers inside refl
first-edge crowd bound (x ∷ xs) numbers inside sorted late =
    let some : 0 < length (x ∷ xs) = omega arith in
    edge-of crowd bound (x ∷ xs) numbers inside x (0, some, refl)
    (λ other same fit e there. first-fits crowd bound (x ∷ xs) numbers inside sorted (span_of bound.op) refl late x some other same fit e there)

pub last-edge : (crowd : Crowd) (bound : VersionBound) (xs : List Carried)
    → ((c : ℕ) → has (map carried_number xs) c ≡ crowd_has crowd (Some bound) c) → ((y : Carried) → Contains xs y → IsInside crowd bound y)
    → IsSorted carried_order xs → span_of bound.op ≡ span.Earlier
    → MatchOption (option_map carried_carrier (slice_get xs (length xs - 1))) ((c : ℕ) → crowd_has crowd (Some bound) c ≡ false) (IsEdge crowd bound)
last-edge crowd bound [] numbers inside sorted early = none-of crowd bound [] numbers inside refl
last-edge crowd bound (x ∷ xs) numbers inside sorted early =
    let all = x ∷ xs in
    let place = length all - 1 in
    let some : 0 < length all = omega arith in
    let in_list : place < length all = omega arith in
    let y = get_or all place x in
    subst (λ o. MatchOption (option_map carried_carrier o) ((c : ℕ) → crowd_has crowd (Some bound) c ≡ false) (IsEdge crowd bound)) (sym (slice_get-get_or all place x in_list))
    (edge-of crowd bound all numbers inside y (place, in_list, sym (get_or_again all place x in_list))
    (λ other same fit e there. last-fits crowd bound all numbers inside sorted early x some other same fit e there))
