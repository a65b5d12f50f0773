-- What one more dependency, or one more package, makes of the lists of dependencies of a problem.
use Rattle.std.proofs.Common.{◌≡◌, ◌≢◌, ◌<◌, ◌-◌, ◌+◌, ◌||◌, ℕ, zero, suc, List, [], ◌∷◌, ◌++◌, Bool, true, false, cond, length, get_or, set, map, refl, ap, sym, ◌∙◌, arith, nat_lt, nat_eq, length-append}
use Rattle.std.specs.List.{filter, list_all, list_any}
use Rattle.std.proofs.lemmas.List.{get_or-set_same, get_or-set_other, get_or_append_left, length-set}
use Rattle.std.proofs.Math.Seq.{get_or-append_seam}
use Rattle.std.proofs.lemmas.Bool.{and_parts, ltb-true, eqb-true, eq-eqb, false_from_ne_true}
use Rattle.lists.proofs.Below.{list_all-below, filter-below_yes, filter-below_no}
use Rattle.lists.proofs.Tests.{list_all-filter}
use Rattle.lists.specs.Below.{below}
use Rattle.lists.specs.Sets.{has}
use Rattle.resolver_model.specs.Problems.{Problem, Dependency, dependency, dependency_count, package_count, is_broken}
use Rattle.problem.specs.Builds.{with_package, with_dependency, with_starts}
use Rattle.problem.specs.Listing.{ends_in, with_end, without_end, noted, noted_all}
use Rattle.problem.specs.Touching.{broken_at_start, is_unmet}
use Rattle.problem.specs.Indexes.{Index, ListsBy, IsIndexOf}
use Rattle.problem.proofs.Listing.{ends-pushed, without-with}

-- Lists of numbers below n do not end in n.

pub all_at : (p : ℕ → Bool) (xs : List ℕ) (i : ℕ) → list_all p xs ≡ true → i < length xs → p (get_or xs i 0) ≡ true
all_at p [] i h lt = absurd (omega arith)
all_at p (x ∷ xs) zero h lt = (and_parts (p x) (list_all p xs) h).0
all_at p (x ∷ xs) (suc i) h lt = all_at p xs i (and_parts (p x) (list_all p xs) h).1 (omega arith)

ends_below : (n : ℕ) (xs : List ℕ) → list_all (λ x. nat_lt x n) xs ≡ true → ends_in n xs ≡ false
ends_below n [] h = refl
ends_below n (x ∷ xs) h =
    false_from_ne_true _ (λ t.
    let last = and_parts (nat_lt 0 (length (x ∷ xs))) _ t in
    let same : get_or (x ∷ xs) (length (x ∷ xs) - 1) 0 ≡ n = eqb-true _ n last.1 in
    let less : get_or (x ∷ xs) (length (x ∷ xs) - 1) 0 < n = ltb-true _ n (all_at (λ x. nat_lt x n) (x ∷ xs) (length (x ∷ xs) - 1) h (omega arith)) in
    absurd (omega arith))

-- each number that a test takes among those below n is below n
pub filter_range : (f : ℕ → Bool) (n : ℕ) → list_all (λ x. nat_lt x n) (filter f (below n)) ≡ true
filter_range f n = list_all-filter (λ x. nat_lt x n) f (below n) (list_all-below n)

ends_filter : (f : ℕ → Bool) (n : ℕ) → ends_in n (filter f (below n)) ≡ false
ends_filter f n = ends_below n (filter f (below n)) (list_all-filter (λ x. nat_lt x n) f (below n) (list_all-below n))

with_end_filter : (f : ℕ → Bool) (n : ℕ) → with_end n (filter f (below n)) ≡ filter f (below n) ++ n ∷ []
with_end_filter f n = ap (λ b. cond b (filter f (below n)) (filter f (below n) ++ n ∷ [])) (ends_filter f n)

without_end_filter : (f : ℕ → Bool) (n : ℕ) → without_end n (filter f (below n)) ≡ filter f (below n)
without_end_filter f n = rw (ends_filter f n) refl

-- One more number, and a test that says the same of the others.

filter_agrees : (f g : ℕ → Bool) (n : ℕ) (xs : List ℕ) → ((d : ℕ) → d < n → g d ≡ f d) → list_all (λ x. nat_lt x n) xs ≡ true → filter g xs ≡ filter f xs
filter_agrees f g n [] e h = refl
filter_agrees f g n (x ∷ xs) e h =
    let parts = and_parts (nat_lt x n) (list_all (λ y. nat_lt y n) xs) h in
    ap (λ b. cond b (x ∷ filter g xs) (filter g xs)) (e x (ltb-true x n parts.0)) ∙ ap (λ ys. cond (f x) (x ∷ ys) ys) (filter_agrees f g n xs e parts.1)

pub filter_grown : (f g : ℕ → Bool) (n more : ℕ) (b : Bool) → more ≡ n + 1 → ((d : ℕ) → d < n → g d ≡ f d) → g n ≡ b
    → filter g (below more) ≡ cond b (filter f (below n) ++ n ∷ []) (filter f (below n))
filter_grown f g n more true m e h = ap (λ k. filter g (below k)) m ∙ filter-below_yes g n h ∙ ap (λ xs. xs ++ n ∷ []) (filter_agrees f g n (below n) e (list_all-below n))
filter_grown f g n more false m e h = ap (λ k. filter g (below k)) m ∙ filter-below_no g n h ∙ filter_agrees f g n (below n) e (list_all-below n)

-- What is noted in one list.

with_end_twice : (d : ℕ) (xs : List ℕ) → with_end d (with_end d xs) ≡ with_end d xs
with_end_twice d xs =
    elim (ends_in d xs) as (λ b. ends_in d xs ≡ b → with_end d (cond b xs (xs ++ d ∷ [])) ≡ cond b xs (xs ++ d ∷ [])) [
      | true ↦ λ e. ap (λ b. cond b xs (xs ++ d ∷ [])) e
      | false ↦ λ e. ap (λ b. cond b (xs ++ d ∷ []) ((xs ++ d ∷ []) ++ d ∷ [])) (ends-pushed d xs)
    ] refl

pub noted_size : (d : ℕ) (lists : List (List ℕ)) (keys : List ℕ) → length (noted_all d lists keys) ≡ length lists
noted_size d lists [] = refl
noted_size d lists (x ∷ keys) = noted_size d (noted d lists x) keys ∙ length-set lists x (with_end d (get_or lists x []))

pub noted_at : (d : ℕ) (lists : List (List ℕ)) (keys : List ℕ) (k : ℕ) → k < length lists
    → get_or (noted_all d lists keys) k [] ≡ cond (has keys k) (with_end d (get_or lists k [])) (get_or lists k [])
noted_at d lists [] k lt = refl
noted_at d lists (x ∷ keys) k lt =
    let next = noted d lists x in
    let size : length next ≡ length lists = length-set lists x (with_end d (get_or lists x [])) in
    let rest : get_or (noted_all d next keys) k [] ≡ cond (has keys k) (with_end d (get_or next k [])) (get_or next k []) = noted_at d next keys k (omega (arith, size, lt)) in
    elim (nat_eq x k) as (λ b. nat_eq x k ≡ b → get_or (noted_all d next keys) k [] ≡ cond (b || has keys k) (with_end d (get_or lists k [])) (get_or lists k [])) [
      | true ↦ λ e.
          let same : x ≡ k = eqb-true x k e in
          let own : get_or next k [] ≡ with_end d (get_or lists k []) =
          ap (λ n. get_or (set lists n (with_end d (get_or lists n []))) k []) same ∙ get_or-set_same lists k (with_end d (get_or lists k [])) [] lt in
          rest ∙ ap (λ ys. cond (has keys k) (with_end d ys) ys) own ∙ both (has keys k) (with_end_twice d (get_or lists k []))
      | false ↦ λ e.
          let other : get_or next k [] ≡ get_or lists k [] = get_or-set_other lists x k (with_end d (get_or lists x [])) [] (apart x k e) in
          rest ∙ ap (λ ys. cond (has keys k) (with_end d ys) ys) other
    ] refl
  where
    both : {A : Type 0} → {x y : A} → (b : Bool) → x ≡ y → cond b x y ≡ y
    both true e = e
    both false e = refl

    apart : (x k : ℕ) → nat_eq x k ≡ false → k ≢ x
    apart x k e = λ same. let yes : nat_eq x k ≡ true = eq-eqb x k (sym same) in let f : true ≡ false = sym yes ∙ e in cc

-- lists by a test, with one more number that the test takes for the keys alone
pub lists_noted : (f g : ℕ → ℕ → Bool) (n more count : ℕ) (keys : List ℕ) (lists : List (List ℕ)) → more ≡ n + 1 → ((k d : ℕ) → d < n → g k d ≡ f k d) → ((k : ℕ) → g k n ≡ has keys k)
    → ListsBy (λ k. filter (f k) (below n)) count lists → ListsBy (λ k. filter (g k) (below more)) count (noted_all n lists keys)
lists_noted f g n more count keys lists m e h l = record {
  size = noted_size n lists keys ∙ l.size;
  each = λ k lt.
      let own : get_or lists k [] ≡ filter (f k) (below n) = l.each k lt in
      noted_at n lists keys k (omega (arith, l.size, lt)) ∙ ap (λ ys. cond (has keys k) (with_end n ys) ys) own
      ∙ ap (λ ys. cond (has keys k) ys (filter (f k) (below n))) (with_end_filter (f k) n) ∙ sym (filter_grown (f k) (g k) n more (has keys k) m (e k) (h k));
}

-- The dependencies of a problem with one more.

pub old_dependency : (p : Problem) (x : Dependency) (d : ℕ) → d < dependency_count p → dependency (with_dependency p x) d ≡ dependency p d
old_dependency p x d lt = get_or_append_left p.dependencies (x ∷ []) _ d lt

pub new_dependency : (p : Problem) (x : Dependency) → dependency (with_dependency p x) (dependency_count p) ≡ x
new_dependency p x = get_or-append_seam p.dependencies x [] _

pub has-map : (f : ℕ → ℕ) (xs : List ℕ) (q : ℕ) → has (map f xs) q ≡ list_any (λ t. nat_eq (f t) q) xs
has-map f [] q = refl
has-map f (x ∷ xs) q = ap (λ b. nat_eq (f x) q || b) (has-map f xs q)

pub or_false : (b : Bool) → b ≡ (b || false)
or_false true = refl
or_false false = refl

-- The dependencies that are broken at the start.

pub broken_with_dep : (p : Problem) (x : Dependency) (broken : List ℕ) → broken ≡ broken_at_start p
    → cond (is_unmet p x.source x.targets) (with_end (dependency_count p) broken) broken ≡ broken_at_start (with_dependency p x)
broken_with_dep p x broken h =
    let more = with_dependency p x in
    let test : Dependency → Bool = λ y. is_unmet p y.source y.targets in
    let count : dependency_count more ≡ dependency_count p + 1 = length-append p.dependencies (x ∷ []) in
    let grown = filter_grown (is_broken p []) (is_broken more []) (dependency_count p) (dependency_count more) (is_unmet p x.source x.targets) count
    (λ d lt. ap test (old_dependency p x d lt)) (ap test (new_dependency p x)) in
    ap (λ xs. cond (is_unmet p x.source x.targets) (with_end (dependency_count p) xs) xs) h
    ∙ ap (λ xs. cond (is_unmet p x.source x.targets) xs (filter (is_broken p []) (below (dependency_count p)))) (with_end_filter (is_broken p []) (dependency_count p)) ∙ sym grown

-- what was noted is taken off again
pub broken_fresh : (p : Problem) (broken : List ℕ) (b : Bool) → broken ≡ broken_at_start p → without_end (dependency_count p) (cond b (with_end (dependency_count p) broken) broken) ≡ broken
broken_fresh p broken b h =
    let n = dependency_count p in
    let same : without_end n broken ≡ broken = ap (without_end n) h ∙ without_end_filter (is_broken p []) n ∙ sym h in
    elim b as (λ b. without_end n (cond b (with_end n broken) broken) ≡ broken) [
      | true ↦ without-with n broken ∙ same
      | false ↦ same
    ]

pub broken_with_package : (p : Problem) (present start : ℕ) (broken : List ℕ) → p.dependencies ≡ [] → broken ≡ broken_at_start p → broken ≡ broken_at_start (with_package p present start)
broken_with_package p present start broken e h =
    let more = with_package p present start in
    let none : dependency_count p ≡ 0 = ap length e in
    h ∙ ap (λ m. filter (is_broken p []) (below m)) none ∙ sym (ap (λ m. filter (is_broken more []) (below m)) none)

-- other starts change what is broken alone
pub index_with_starts : (p : Problem) (i : Index) → IsIndexOf p i → (starts : List ℕ) → length starts ≡ package_count p → IsIndexOf (with_starts p starts) i
index_with_starts p i h starts size = record {
  of = record { size = h.of.size; each = h.of.each };
  on = record { size = h.on.size; each = h.on.each };
  touching = record { size = h.touching.size ∙ sym size; each = λ k lt. h.touching.each k (omega (arith, size, lt)) };
}
