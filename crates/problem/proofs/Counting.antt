-- Room for lists: what is counted for one more dependency is enough for it.
use Rattle.std.proofs.Common.{◌≡◌, ◌<◌, ◌≤◌, ◌-◌, ◌+◌, ◌||◌, ℕ, zero, suc, List, [], ◌∷◌, ◌++◌, Bool, true, false, cond, length, get_or, set, map, take, replicate, refl, ap, sym, subst, ◌∙◌, arith, inl, inr, nat_lt, nat_eq, length-append}
use Rattle.std.specs.List.{filter, list_all, list_any, sum}
use Rattle.std.proofs.lemmas.List.{get_or-map, map-set, map-append, take_all, get_or-set_same, get_or-set_other, get_or_append_left, length-set, length-map, length-replicate}
use Rattle.std.proofs.lemmas.List.Sums.{fold_more, sum_by-set, sum_by-append, sum_by_push}
use Rattle.std.proofs.lemmas.List.Folds.{sum_by-replicate}
use Rattle.std.proofs.lemmas.Bool.{and_parts, and_from, ltb-true, lt-ltb, eqb-true, eq-eqb, cases_eq, false_from_ne_true}
use Rattle.lists.specs.Below.{below}
use Rattle.lists.specs.Sets.{has}
use Rattle.resolver_model.specs.Problems.{Problem, Dependency, IsWellFormed, dependency, dependency_count, version_count, package_count, package_of}
use Rattle.problem.specs.declared.dep_lists.Span.{Span}
use Rattle.problem.specs.Limits.{target_count}
use Rattle.problem.specs.Builds.{with_package, with_dependency}
use Rattle.problem.specs.Touching.{deps_of, deps_on, touches, touching}
use Rattle.problem.specs.Rooms.{Rooms, with_lists, with_size, with_room, counted, counted_all}
use Rattle.problem.specs.Indexes.{IndexRoom, HasRoom, HasIndexRoom, HasListsFor, HasSizesFor, with_dep_room}
use Rattle.problem.proofs.Indexes.{filter_grown, old_dependency, new_dependency, has-map, or_false}

abbrev pub number_is : ℕ → ℕ
number_is n = n

abbrev pub ends_of : List Span → List ℕ
ends_of spans = map (λ (s : Span). s.end) spans

pub end_read : (spans : List Span) (k : ℕ) (s : Span) → k < length (ends_of spans) → s ≡ get_or spans k s → get_or (ends_of spans) k 0 ≡ s.end
end_read spans k s lt e =
    get_or-map (λ (s : Span). s.end) spans k s 0 (omega (arith, lt, length-map spans (λ (s : Span). s.end))) ∙ ap (λ (s : Span). s.end) (sym e)

pub ends_counted : (spans : List Span) (k : ℕ) (s : Span) → k < length (ends_of spans) → s ≡ get_or spans k s → ends_of (set spans k (record { first = s.first; end = s.end + 1 })) ≡ counted (ends_of spans) k
ends_counted spans k s lt e =
    map-set (λ (s : Span). s.end) spans k (record { first = s.first; end = s.end + 1 }) ∙ ap (λ n. set (ends_of spans) k (n + 1)) (sym (end_read spans k s lt e))

ends_replicated : (n : ℕ) → ends_of (replicate n (record { first = 0; end = 0 })) ≡ replicate n 0
ends_replicated zero = refl
ends_replicated (suc n) = ap (λ xs. 0 ∷ xs) (ends_replicated n)

pub ends_reached : (spans more : List Span) (count : ℕ) → length spans < count → more ≡ take count spans ++ replicate (count - length spans) (record { first = 0; end = 0 })
    → ends_of more ≡ ends_of spans ++ replicate (count - length (ends_of spans)) 0
ends_reached spans more count lt e =
    let all : take count spans ≡ spans = take_all count spans (omega (arith, lt)) in
    let size : length (ends_of spans) ≡ length spans = length-map spans (λ (s : Span). s.end) in
    ap ends_of e ∙ map-append (λ (s : Span). s.end) (take count spans) (replicate (count - length spans) (record { first = 0; end = 0 }))
    ∙ ap (λ xs. ends_of xs ++ ends_of (replicate (count - length spans) (record { first = 0; end = 0 }))) all
    ∙ ap (λ xs. ends_of spans ++ xs) (ends_replicated (count - length spans)) ∙ ap (λ n. ends_of spans ++ replicate (count - n) 0) (sym size)

pub counted_sum : (places : List ℕ) (k : ℕ) → k < length places → sum (counted places k) ≡ sum places + 1
counted_sum places k lt = omega (arith, sum_by-set number_is places k (get_or places k 0 + 1) 0 lt)

-- for each list room for one number more, in the first lists that some numbers name
pub record IsCountedSoFar (old now : Rooms) (keys : List ℕ) (i : ℕ) : Type 0 where
  pub view : now ≡ with_room old (take i keys)
  pub all : sum now.places ≡ sum old.places + i
  pub size : length now.places ≡ length old.places

pub counted_more : (old now next : Rooms) (keys : List ℕ) (i : ℕ) → i < length keys → get_or keys i 0 < length old.places → IsCountedSoFar old now keys i → next ≡ with_room now (get_or keys i 0 ∷ [])
    → IsCountedSoFar old next keys (i + 1)
counted_more old now next keys i lt low h e =
    let more : counted_all old.places (take (i + 1) keys) ≡ counted (counted_all old.places (take i keys)) (get_or keys i 0) = fold_more counted old.places keys i 0 lt in
    record {
      view = e ∙ ap (λ r. with_room r (get_or keys i 0 ∷ [])) h.view ∙ ap (λ (xs : List ℕ). record { places = xs; size = old.size }) (sym more);
      all = ap (λ r. sum r.places) e ∙ counted_sum now.places (get_or keys i 0) (omega (arith, low, h.size)) ∙ omega (arith, h.all);
      size = ap (λ r. length r.places) e ∙ length-set now.places (get_or keys i 0) (get_or now.places (get_or keys i 0) 0 + 1) ∙ h.size;
    }

pub counted_size : (places : List ℕ) (keys : List ℕ) → length (counted_all places keys) ≡ length places
counted_size places [] = refl
counted_size places (x ∷ keys) = counted_size (counted places x) keys ∙ length-set places x (get_or places x 0 + 1)

pub all_sum : (places keys : List ℕ) → list_all (λ k. nat_lt k (length places)) keys ≡ true → sum (counted_all places keys) ≡ sum places + length keys
all_sum places [] h = omega arith
all_sum places (x ∷ keys) h =
    let parts = and_parts (nat_lt x (length places)) (list_all (λ k. nat_lt k (length places)) keys) h in
    let same : length (counted places x) ≡ length places = length-set places x (get_or places x 0 + 1) in
    let rest = all_sum (counted places x) keys (subst (λ n. list_all (λ k. nat_lt k n) keys ≡ true) (sym same) parts.1) in
    omega (arith, rest, counted_sum places x (ltb-true x (length places) parts.0))

counted_one : (places : List ℕ) (x k : ℕ) → k < length places → get_or places k 0 + cond (nat_eq x k) 1 0 ≤ get_or (counted places x) k 0
counted_one places x k lt =
    elim (cases_eq k x) [
      | inl e ↦
          let own : get_or (counted places k) k 0 ≡ get_or places k 0 + 1 = get_or-set_same places k (get_or places k 0 + 1) 0 lt in
          let test : nat_eq k k ≡ true = eq-eqb k k refl in
          subst (λ n. get_or places k 0 + cond (nat_eq n k) 1 0 ≤ get_or (counted places n) k 0) e (omega (arith, own, ap {B = ℕ} (λ b. cond b 1 0) test))
      | inr other ↦
          let same : get_or (counted places x) k 0 ≡ get_or places k 0 = get_or-set_other places x k (get_or places x 0 + 1) 0 other in
          let test : nat_eq x k ≡ false = false_from_ne_true _ (λ t. absurd (other (sym (eqb-true x k t)))) in
          omega (arith, same, ap {B = ℕ} (λ b. cond b 1 0) test)
    ]

pub counted_at : (places keys : List ℕ) (k : ℕ) → k < length places → get_or places k 0 + cond (has keys k) 1 0 ≤ get_or (counted_all places keys) k 0
counted_at places [] k lt = omega arith
counted_at places (x ∷ keys) k lt =
    let size : length (counted places x) ≡ length places = length-set places x (get_or places x 0 + 1) in
    let rest = counted_at (counted places x) keys k (omega (arith, size, lt)) in
    let one = counted_one places x k lt in
    elim (nat_eq x k) as (λ b. nat_eq x k ≡ b → get_or places k 0 + cond (b || has keys k) 1 0 ≤ get_or (counted_all (counted places x) keys) k 0) [
      | true ↦ λ e. omega (arith, rest, one, ap {B = ℕ} (λ b. cond b 1 0) e)
      | false ↦ λ e. omega (arith, rest, one, ap {B = ℕ} (λ b. cond b 1 0) e)
    ] refl

-- More lists and a longer table keep the room that there is.

pub room_reached : (list : ℕ → List ℕ) (count total : ℕ) (r : Rooms) (n : ℕ) → HasRoom list count total r → HasRoom list count total (with_lists r n)
room_reached list count total r n h =
    let more : ℕ = n - length r.places in
    record {
      many = omega (arith, h.many, length-append r.places (replicate (n - length r.places) 0));
      each = λ k lt.
          let same : get_or (r.places ++ replicate (n - length r.places) 0) k 0 ≡ get_or r.places k 0 = get_or_append_left r.places (replicate (n - length r.places) 0) 0 k (omega (arith, lt, h.many)) in
          omega (arith, h.each k lt, same);
      all = sum_by-append number_is r.places (replicate (n - length r.places) 0) ∙ omega (arith, sum_by-replicate number_is (n - length r.places) 0, h.all);
      size = h.size;
    }

pub room_sized : (list : ℕ → List ℕ) (count total : ℕ) (r : Rooms) (n : ℕ) → HasRoom list count total r → HasRoom list count total (with_size r n)
room_sized list count total r n h = record { many = h.many; each = h.each; all = h.all; size = omega (arith, h.size) }

-- One more number, which a test takes for the keys alone.
room_noted : (f g : ℕ → ℕ → Bool) (n more count total : ℕ) (keys : List ℕ) (r : Rooms) → more ≡ n + 1 → ((k d : ℕ) → d < n → g k d ≡ f k d) → ((k : ℕ) → g k n ≡ has keys k)
    → list_all (λ k. nat_lt k (length r.places)) keys ≡ true → total + length keys ≤ r.size
    → HasRoom (λ k. filter (f k) (below n)) count total r → HasRoom (λ k. filter (g k) (below more)) count (total + length keys) (with_room r keys)
room_noted f g n more count total keys r m e h range size room = record {
  many = omega (arith, room.many, counted_size r.places keys);
  each = λ k lt.
      let grown = filter_grown (f k) (g k) n more (has keys k) m (e k) (h k) in
      let longer : length (cond (has keys k) (filter (f k) (below n) ++ n ∷ []) (filter (f k) (below n))) ≡ length (filter (f k) (below n)) + cond (has keys k) 1 0 = longer_by (has keys k) (filter (f k) (below n)) in
      omega (arith, ap length grown, longer, room.each k lt, counted_at r.places keys k (omega (arith, lt, room.many)));
  all = all_sum r.places keys range ∙ ap (λ n. n + length keys) room.all;
  size = size;
}
  where
    longer_by : (b : Bool) (xs : List ℕ) → length (cond b (xs ++ n ∷ []) xs) ≡ length xs + cond b 1 0
    longer_by true xs = length-append xs (n ∷ [])
    longer_by false xs = omega arith

pub all_weaker : (m n : ℕ) (xs : List ℕ) → m ≤ n → list_all (λ k. nat_lt k m) xs ≡ true → list_all (λ k. nat_lt k n) xs ≡ true
all_weaker m n [] le h = refl
all_weaker m n (x ∷ xs) le h =
    let parts = and_parts (nat_lt x m) (list_all (λ k. nat_lt k m) xs) h in
    and_from (nat_lt x n) _ (lt-ltb x n (omega (arith, le, ltb-true x m parts.0))) (all_weaker m n xs le parts.1)

pub owners_within : (p : Problem) (n : ℕ) (versions : List ℕ) → IsWellFormed p → package_count p ≤ n → list_all (λ v. nat_lt v (version_count p)) versions ≡ true
    → list_all (λ k. nat_lt k n) (map (package_of p) versions) ≡ true
owners_within p n [] w le h = refl
owners_within p n (v ∷ versions) w le h =
    let parts = and_parts (nat_lt v (version_count p)) (list_all (λ v. nat_lt v (version_count p)) versions) h in
    and_from (nat_lt (package_of p v) n) _ (lt-ltb (package_of p v) n (omega (arith, le, w.owners v (ltb-true v (version_count p) parts.0)))) (owners_within p n versions w le parts.1)

pub dependency_room : (p : Problem) (r : IndexRoom) (x : Dependency) → IsWellFormed p → HasIndexRoom p r → HasSizesFor (dependency_count p + 1) (target_count p + length x.targets) r
    → x.source < version_count p → list_all (λ v. nat_lt v (version_count p)) x.targets ≡ true
    → HasIndexRoom (with_dependency p x) (with_dep_room r x.source x.targets (map (package_of p) (x.source ∷ x.targets)))
dependency_room p r x w h sizes low range = record { of = of; on = on; touching = touched }
  where
    more : Problem
    more = with_dependency p x

    count : dependency_count (with_dependency p x) ≡ dependency_count p + 1
    count = length-append p.dependencies (x ∷ [])

    targets : target_count (with_dependency p x) ≡ target_count p + length x.targets
    targets = sum_by_push (λ (d : Dependency). length d.targets) p.dependencies x

    keys : List ℕ
    keys = map (package_of p) (x.source ∷ x.targets)

    counted_keys : length (map (package_of p) (x.source ∷ x.targets)) ≡ 1 + length x.targets
    counted_keys = length-map (x.source ∷ x.targets) (package_of p) ∙ omega arith

    of : HasRoom (deps_of (with_dependency p x)) (version_count p) (dependency_count (with_dependency p x)) (with_room r.of (x.source ∷ []))
    of =
        let one : list_all (λ k. nat_lt k (length r.of.places)) (x.source ∷ []) ≡ true = and_from (nat_lt x.source (length r.of.places)) true (lt-ltb x.source (length r.of.places) (omega (arith, low, h.of.many))) refl in
        subst (λ n. HasRoom (deps_of (with_dependency p x)) (version_count p) n (with_room r.of (x.source ∷ []))) (sym count)
        (room_noted (λ k d. nat_eq (dependency p d).source k) (λ k d. nat_eq (dependency more d).source k) (dependency_count p) (dependency_count more) (version_count p) (dependency_count p) (x.source ∷ []) r.of count
        (λ k d lt. ap (λ (y : Dependency). nat_eq y.source k) (old_dependency p x d lt))
        (λ k. ap (λ (y : Dependency). nat_eq y.source k) (new_dependency p x) ∙ or_false (nat_eq x.source k)) one sizes.of h.of)

    on : HasRoom (deps_on (with_dependency p x)) (version_count p) (target_count (with_dependency p x)) (with_room r.on x.targets)
    on =
        subst (λ n. HasRoom (deps_on (with_dependency p x)) (version_count p) n (with_room r.on x.targets)) (sym targets)
        (room_noted (λ k d. has (dependency p d).targets k) (λ k d. has (dependency more d).targets k) (dependency_count p) (dependency_count more) (version_count p) (target_count p) x.targets r.on count
        (λ k d lt. ap (λ (y : Dependency). has y.targets k) (old_dependency p x d lt))
        (λ k. ap (λ (y : Dependency). has y.targets k) (new_dependency p x)) (all_weaker (version_count p) (length r.on.places) x.targets h.on.many range) sizes.on h.on)

    touched : HasRoom (touching (with_dependency p x)) (package_count p) (dependency_count (with_dependency p x) + target_count (with_dependency p x)) (with_room r.touching (map (package_of p) (x.source ∷ x.targets)))
    touched =
        let all : list_all (λ v. nat_lt v (version_count p)) (x.source ∷ x.targets) ≡ true = and_from (nat_lt x.source (version_count p)) _ (lt-ltb x.source (version_count p) low) range in
        let sum_is : (dependency_count p + target_count p) + length keys ≡ dependency_count more + target_count more = omega (arith, count, targets, counted_keys) in
        subst (λ n. HasRoom (touching (with_dependency p x)) (package_count p) n (with_room r.touching keys)) sum_is
        (room_noted (touches p) (touches more) (dependency_count p) (dependency_count more) (package_count p) (dependency_count p + target_count p) keys r.touching count
        (λ k d lt. ap (λ (y : Dependency). nat_eq (package_of p y.source) k || list_any (λ t. nat_eq (package_of p t) k) y.targets) (old_dependency p x d lt))
        (λ k. ap (λ (y : Dependency). nat_eq (package_of p y.source) k || list_any (λ t. nat_eq (package_of p t) k) y.targets) (new_dependency p x) ∙ sym (has-map (package_of p) (x.source ∷ x.targets) k))
        (owners_within p (length r.touching.places) (x.source ∷ x.targets) w h.touching.many all) (omega (arith, sizes.touching, counted_keys)) h.touching)

-- A problem without dependencies has empty lists, however many.
room_empty : (f g : ℕ → ℕ → Bool) (n count more total : ℕ) (r : Rooms) → n ≡ 0 → more ≤ length r.places → HasRoom (λ k. filter (f k) (below n)) count total r → HasRoom (λ k. filter (g k) (below n)) more total r
room_empty f g n count more total r e le h = record {
  many = le;
  each = λ k lt. let none : length (filter (g k) (below n)) ≡ 0 = ap (λ m. length (filter (g k) (below m))) e in omega (arith, none);
  all = h.all;
  size = h.size;
}

pub package_room : (p : Problem) (r : IndexRoom) (present start : ℕ) → HasIndexRoom p r → p.dependencies ≡ [] → HasListsFor (version_count p + present + 1) (package_count p + 1) r → HasIndexRoom (with_package p present start) r
package_room p r present start h e lists =
    let more = with_package p present start in
    let none : dependency_count p ≡ 0 = ap length e in
    let versions : version_count more ≡ version_count p + present + 1 = omega (arith, length-append p.owners (replicate (present + 1) (package_count p)), length-replicate (present + 1) (package_count p)) in
    let packages : package_count more ≡ package_count p + 1 = length-append p.starts ((version_count p + start) ∷ []) in
    record {
      of = room_empty (λ k d. nat_eq (dependency p d).source k) (λ k d. nat_eq (dependency more d).source k) (dependency_count p) (version_count p) (version_count more) (dependency_count p) r.of none (omega (arith, versions, lists.of)) h.of;
      on = room_empty (λ k d. has (dependency p d).targets k) (λ k d. has (dependency more d).targets k) (dependency_count p) (version_count p) (version_count more) (target_count p) r.on none (omega (arith, versions, lists.on)) h.on;
      touching = room_empty (touches p) (touches more) (dependency_count p) (package_count p) (package_count more) (dependency_count p + target_count p) r.touching none (omega (arith, packages, lists.touching)) h.touching;
    }
