-- A history has at most three to the power of the count of choices `Put`s: each leaf has that power of its undecided choices
-- in store, and a split leaves its children less than the leaf had.
use Rattle.std.proofs.Common.{inl, inr, ◌≡◌, ◌≢◌, ◌⊎◌, ◌<◌, ◌≤◌, ◌+◌, ◌*◌, ◌^◌, ℕ, zero, suc, List, [], ◌∷◌, ◌++◌, Bool, true, false, cond, not, ◌&&◌, refl, ap, sym, subst, ◌∙◌, arith, nat_lt, nat_eq, eq-eqb, ne_eqb, length, length-append}
use Rattle.std.specs.List.{filter, flat_map, list_all, sum_by}
use Rattle.std.proofs.Math.Nat.{pow-suc}
use Rattle.std.proofs.lemmas.Bool.Decides.{nat_tests}
use Rattle.std.proofs.lemmas.Bool.{and_from, and_parts, or_left, not-true, not_from_false, false_from_ne_true}
use Rattle.std.proofs.lemmas.List.Sums.{sum_by-cons, sum_by-append}
use Rattle.std.proofs.lemmas.List.Elements.{filter-append}
use Rattle.resolver_model.specs.declared.node.Node.{Node}
use Rattle.resolver_model.specs.declared.history.By.{By}
use Rattle.resolver_model.specs.declared.history.By.TheVariants.{Dep, Choice}
use Rattle.resolver_model.specs.declared.history.Entry.{Entry}
use Rattle.resolver_model.specs.declared.history.Entry.TheVariants.{Say, Take, Put, Back}
use Rattle.resolver_model.specs.Problems.{Problem, choices}
use Rattle.resolver_model.specs.Trees.{Leaf, Tree, root, branches, split, numbered, node_of, split_leaf, tree_after, tree_at}
use Rattle.resolver_model.specs.Histories.{History}
use Rattle.resolver_model.specs.Answers.{Setting}
use Rattle.resolver_model.specs.Legal.{CanSplit, Follows, IsLegal}
use Rattle.resolver_model.proofs.Choosing.{has-choices}
use Rattle.std.specs.List.{fold}
use Rattle.lists.proofs.Members.{Member}
use Rattle.lists.proofs.Sums.{length-filter_fewer}
use Rattle.lists.proofs.With.{has-with_new, has-with_old}
use Rattle.lists.specs.Sets.{is_rising, has, with}
use Rattle.resolver_model.specs.Histories.{puts_since, puts_after}
use Rattle.laws_session.specs.Laws.{IsNeverNotYet, AreApart, IsNode, AreLeavesApart, is_put, put_count, ArePutsFew}
use Rattle.laws_session.proofs.Nodes.{IsBranch, IsBranch-choice, branch_later, branch_choices, branch_choices_rise, branch_choice}
use Rattle.laws_session.proofs.Grown.{IsTree-legal, node_of-member}
use Rattle.laws_session.proofs.Hands.{AreHandsApart-legal}
use Rattle.laws_session.proofs.Longer.{legal_induction}
use Rattle.laws_session.proofs.Effects.{tree_at-more}

-- whether a node has a choice in neither list
abbrev pub is_undecided : List ℕ → List ℕ → ℕ → Bool
is_undecided taken barred c = not (has taken c) && not (has barred c)

abbrev pub undecided : Problem → Node → ℕ
undecided p node = length (filter (is_undecided node.taken node.barred) (choices p))

abbrev pub store : Problem → Node → ℕ
store p node = 3 ^ undecided p node

abbrev pub leaf_store : Problem → Leaf → ℕ
leaf_store p leaf = store p leaf.node

not_less : (a b : Bool) → (a ≡ true → b ≡ true) → not b ≡ true → not a ≡ true
not_less true true h k = absurd (cc)
not_less true false h k = let f : false ≡ true = h refl in absurd (cc)
not_less false b h k = refl

fewer_taken : (p : Problem) (taken barred : List ℕ) (r : ℕ) → IsBranch p taken barred r → undecided p (record { taken = with taken r; barred = barred }) < undecided p (record { taken = taken; barred = barred })
fewer_taken p taken barred r b =
    length-filter_fewer (is_undecided taken barred) (is_undecided (with taken r) barred) (choices p) r
    (λ x h. let parts = and_parts (not (has (with taken r) x)) _ h in and_from (not (has taken x)) _ (not_less (has taken x) (has (with taken r) x) (has-with_old taken r x) parts.0) parts.1)
    (has-choices p r b.choice) (and_from (not (has taken r)) _ (not_from_false _ b.not_taken) (not_from_false _ b.not_barred))
    (false_from_ne_true _ (λ h. let no_one : has (with taken r) r ≡ false = not-true _ (and_parts (not (has (with taken r) r)) _ h).0 in let f : true ≡ false = sym (has-with_new taken r) ∙ no_one in cc))

fewer_barred : (p : Problem) (taken barred : List ℕ) (r : ℕ) → IsBranch p taken barred r → undecided p (record { taken = taken; barred = with barred r }) < undecided p (record { taken = taken; barred = barred })
fewer_barred p taken barred r b =
    length-filter_fewer (is_undecided taken barred) (is_undecided taken (with barred r)) (choices p) r
    (λ x h. let parts = and_parts (not (has taken x)) _ h in and_from (not (has taken x)) _ parts.0 (not_less (has barred x) (has (with barred r) x) (has-with_old barred r x) parts.1))
    (has-choices p r b.choice) (and_from (not (has taken r)) _ (not_from_false _ b.not_taken) (not_from_false _ b.not_barred))
    (false_from_ne_true _ (λ h. let no_one : has (with barred r) r ≡ false = not-true _ (and_parts (not (has taken r)) _ h).1 in let f : true ≡ false = sym (has-with_new barred r) ∙ no_one in cc))

power_pos : (n : ℕ) → 1 ≤ 3 ^ n
power_pos zero = omega arith
power_pos (suc n) = let more = power_pos n in let e = pow-suc 3 n in omega (arith, more, e)

-- a lower power has at most a third
third : (n m : ℕ) → m < n → 3 ^ m * 3 ≤ 3 ^ n
third zero m lt = absurd (omega arith)
third (suc n) m lt =
    elim (cases_last m n lt) as (λ _. 3 ^ m * 3 ≤ 3 ^ suc n) [
      | inl e ↦ let step = pow-suc 3 n in let same : 3 ^ m ≡ 3 ^ n = ap (λ k. 3 ^ k) e in omega (arith, step, same)
      | inr less ↦ let more = third n m less in let step = pow-suc 3 n in omega (arith, more, step)
    ]
  where
    cases_last : (m n : ℕ) → m < suc n → (m ≡ n) ⊎ (m < n)
    cases_last m n lt =
        elim (nat_lt m n) as (λ r. nat_lt m n ≡ r → (m ≡ n) ⊎ (m < n)) [
          | true ↦ λ t. inr (grind (arith, t, nat_tests))
          | false ↦ λ f. inl (grind (arith, f, lt, nat_tests))
        ] refl

-- two parts that are less than the whole are in store
two_less : (p : Problem) (one other whole : Node) → undecided p one < undecided p whole → undecided p other < undecided p whole → store p one + store p other + 1 ≤ store p whole
two_less p one other whole a b =
    let x = third (undecided p whole) (undecided p one) a in
    let y = third (undecided p whole) (undecided p other) b in
    let z = power_pos (undecided p one) in
    omega (arith, x, y, z)

branches_store : (p : Problem) (taken barred rs : List ℕ) → is_rising rs ≡ true → ((c : ℕ) → has rs c ≡ true → IsBranch p taken barred c) → sum_by (store p) (branches taken barred rs) + 1 ≤ store p (record { taken = taken; barred = barred })
branches_store p taken barred [] rises all = power_pos (undecided p (record { taken = taken; barred = barred }))
branches_store p taken barred (r ∷ rs) rises all =
    let own = all r (or_left (nat_eq r r) _ (eq-eqb r r refl)) in
    let more = branches_store p taken (with barred r) rs (and_parts (list_all (λ z. nat_lt r z) rs) _ rises).1 (branch_later p taken barred rs r rises all) in
    let one = third (undecided p (record { taken = taken; barred = barred })) (undecided p (record { taken = with taken r; barred = barred })) (fewer_taken p taken barred r own) in
    let other = third (undecided p (record { taken = taken; barred = barred })) (undecided p (record { taken = taken; barred = with barred r })) (fewer_barred p taken barred r own) in
    let sum = sum_by-cons (store p) (record { taken = with taken r; barred = barred }) (branches taken (with barred r) rs) in
    omega (arith, more, one, other, sum)

-- The children of a split have less in store than the node.
pub split_store : (p : Problem) (node : Node) (by : By) → IsNode p node → CanSplit p node by → sum_by (store p) (split p node by) + 1 ≤ store p node
split_store p node (Dep d) n can = branches_store p node.taken node.barred (branch_choices p node d) (branch_choices_rise p node d) (branch_choice p node d n can)
split_store p node (Choice a) n can =
    let own = IsBranch-choice p node a can in
    let less = two_less p (record { taken = with node.taken a; barred = node.barred }) (record { taken = node.taken; barred = with node.barred a }) node (fewer_taken p node.taken node.barred a own) (fewer_barred p node.taken node.barred a own) in
    let pair = sum_by_two (store p) (record { taken = with node.taken a; barred = node.barred }) (record { taken = node.taken; barred = with node.barred a }) in
    omega (arith, less, pair)
  where
    sum_by_two : (f : Node → ℕ) (x y : Node) → sum_by f (x ∷ y ∷ []) ≡ f x + f y
    sum_by_two f x y = omega arith

numbered_store : (p : Problem) (n : ℕ) (nodes : List Node) → sum_by (leaf_store p) (numbered n nodes) ≡ sum_by (store p) nodes
numbered_store p n [] = refl
numbered_store p n (node ∷ nodes) =
    sum_by-cons (leaf_store p) (record { number = n; node = node }) (numbered (n + 1) nodes) ∙ ap (λ k. store p node + k) (numbered_store p (n + 1) nodes) ∙ sym (sum_by-cons (store p) node nodes)

-- where no leaf has the number, nothing is split
none_split : (p : Problem) (leaf next : ℕ) (by : By) (leaves : List Leaf) → ((l : Leaf) → Member l leaves → l.number ≢ leaf) → flat_map (split_leaf p leaf by next) leaves ≡ leaves
none_split p leaf next by [] h = refl
none_split p leaf next by (l ∷ leaves) h =
    let e : nat_eq l.number leaf ≡ false = ne_eqb _ _ (h l (inl refl)) in
    rw e (ap (λ ls. l ∷ ls) (none_split p leaf next by leaves (λ x m. h x (inr m))))

leaves_store : (p : Problem) (leaf next : ℕ) (by : By) (leaves : List Leaf) (l : Leaf) → AreApart AreLeavesApart leaves → Member l leaves → l.number ≡ leaf → IsNode p l.node → CanSplit p l.node by
    → sum_by (leaf_store p) (flat_map (split_leaf p leaf by next) leaves) + 1 ≤ sum_by (leaf_store p) leaves
leaves_store p leaf next by [] l a m e n can = absurd m
leaves_store p leaf next by (x ∷ leaves) l a m e n can =
    let f : Leaf → List Leaf = split_leaf p leaf by next in
    let whole = sum_by-cons (leaf_store p) x leaves in
    elim m as (λ _. sum_by (leaf_store p) (flat_map f (x ∷ leaves)) + 1 ≤ sum_by (leaf_store p) (x ∷ leaves)) [
      | inl same ↦
          let number_is : x.number ≡ leaf = ap (λ (y : Leaf). y.number) (sym same) ∙ e in
          let rest : flat_map f leaves ≡ leaves = none_split p leaf next by leaves (λ y k back. (a.0 y k).0 (number_is ∙ sym back)) in
          let here : f x ≡ numbered next (split p x.node by) = ap (λ b. cond b (numbered next (split p x.node by)) (x ∷ [])) (eq-eqb _ _ number_is) in
          let P : Leaf → Type 0 = λ y. sum_by (store p) (split p y.node by) + 1 ≤ store p y.node in
          let less = subst P same (split_store p l.node by n can) in
          let made = numbered_store p next (split p x.node by) in
          let total : sum_by (leaf_store p) (flat_map f (x ∷ leaves)) ≡ sum_by (leaf_store p) (numbered next (split p x.node by)) + sum_by (leaf_store p) leaves =
          ap (λ ls. sum_by (leaf_store p) (ls ++ flat_map f leaves)) here ∙ ap (λ ls. sum_by (leaf_store p) (numbered next (split p x.node by) ++ ls)) rest ∙ sum_by-append (leaf_store p) (numbered next (split p x.node by)) leaves
          in
          omega (arith, whole, less, made, total)
      | inr there ↦
          let apart : x.number ≢ leaf = λ back. (a.0 l there).0 (back ∙ sym e) in
          let here : f x ≡ x ∷ [] = ap (λ b. cond b (numbered next (split p x.node by)) (x ∷ [])) (ne_eqb _ _ apart) in
          let more = leaves_store p leaf next by leaves l a.1 there e n can in
          let total : sum_by (leaf_store p) (flat_map f (x ∷ leaves)) ≡ leaf_store p x + sum_by (leaf_store p) (flat_map f leaves) =
          ap (λ ls. sum_by (leaf_store p) (ls ++ flat_map f leaves)) here ∙ sum_by-cons (leaf_store p) x (flat_map f leaves)
          in
          omega (arith, whole, more, total)
    ]

-- what has been put and what is in store are within the bound
abbrev pub IsWithinStore : Setting → History → Type 0
IsWithinStore s history = put_count history + sum_by (leaf_store s.problem) (tree_at s.problem history).leaves ≤ 3 ^ length (choices s.problem)

put_count-more : (history : History) (entry : Entry) → put_count (history ++ entry ∷ []) ≡ put_count history + length (filter is_put (entry ∷ []))
put_count-more history entry = ap length (filter-append is_put history (entry ∷ [])) ∙ length-append (filter is_put history) (filter is_put (entry ∷ []))

still_within : (s : Setting) (history : History) (entry : Entry) → is_put entry ≡ false → tree_after s.problem (tree_at s.problem history) entry ≡ tree_at s.problem history → IsWithinStore s history → IsWithinStore s (history ++ entry ∷ [])
still_within s history entry none same h =
    let count = put_count-more history entry in
    let zero_more : length (filter is_put (entry ∷ [])) ≡ 0 = ap (λ b. length (cond b (entry ∷ []) [])) none in
    let sum : sum_by (leaf_store s.problem) (tree_at s.problem (history ++ entry ∷ [])).leaves ≡ sum_by (leaf_store s.problem) (tree_at s.problem history).leaves = ap (λ (t : Tree). sum_by (leaf_store s.problem) t.leaves) (tree_at-more s.problem history entry ∙ same) in
    omega (arith, count, zero_more, sum, h)

step_of : (s : Setting) (history : History) (entry : Entry) → IsLegal s history → Follows s history entry → IsWithinStore s history → IsWithinStore s (history ++ entry ∷ [])
step_of s history (Say actor command reply) legal next h = still_within s history (Say actor command reply) refl refl h
step_of s history (Take actor leaf) legal next h = still_within s history (Take actor leaf) refl refl h
step_of s history (Back actor leaf) legal next h = still_within s history (Back actor leaf) refl refl h
step_of s history (Put actor leaf by learned) legal next h =
    let tree = tree_at s.problem history in
    let t = IsTree-legal s history legal in
    let out = (AreHandsApart-legal s history legal).leaves actor leaf next.1 in
    let node_is : node_of tree leaf ≡ out.0.node = ap (node_of tree) (sym out.2) ∙ node_of-member tree out.0 t.apart out.1 in
    let C : Node → Type 0 = λ n. CanSplit s.problem n by in
    let less = leaves_store s.problem leaf tree.next by tree.leaves out.0 t.apart out.1 out.2 (t.lists out.0 out.1) (subst C node_is next.2) in
    let count : put_count (history ++ Put actor leaf by learned ∷ []) ≡ put_count history + 1 = put_count-more history (Put actor leaf by learned) in
    let sum : sum_by (leaf_store s.problem) (tree_at s.problem (history ++ Put actor leaf by learned ∷ [])).leaves ≡ sum_by (leaf_store s.problem) (flat_map (split_leaf s.problem leaf by tree.next) tree.leaves) = ap (λ (x : Tree). sum_by (leaf_store s.problem) x.leaves) (tree_at-more s.problem history (Put actor leaf by learned)) in
    omega (arith, less, count, sum, h)

first_within : (s : Setting) → IsWithinStore s []
first_within s = let e = all_kept (choices s.problem) in let same : store s.problem root ≡ 3 ^ length (choices s.problem) = ap (λ k. 3 ^ k) e in omega (arith, same)
  where
    all_kept : (xs : List ℕ) → length (filter (is_undecided [] []) xs) ≡ length xs
    all_kept [] = refl
    all_kept (x ∷ xs) = ap suc (all_kept xs)

pub ArePutsFew-legal : (s : Setting) (history : History) → IsLegal s history → ArePutsFew s history
ArePutsFew-legal s history legal = let h = legal_induction s (IsWithinStore s) (first_within s) (step_of s) history legal in omega (arith, h)

-- an actor made no more `Put`s than there are
few_since : (who : ℕ) (history : History) (k : ℕ) → fold (puts_after who) k history ≤ k + put_count history
few_since who [] k = omega arith
few_since who (Say actor command reply ∷ history) k =
    elim (nat_eq actor who) as (λ r. fold (puts_after who) (cond r 0 k) history ≤ k + put_count history) [
      | true ↦ let more = few_since who history 0 in omega (arith, more)
      | false ↦ few_since who history k
    ]
few_since who (Take actor leaf ∷ history) k = few_since who history k
few_since who (Back actor leaf ∷ history) k = few_since who history k
few_since who (Put actor leaf by learned ∷ history) k =
    elim (nat_eq actor who) as (λ r. fold (puts_after who) (cond r (k + 1) k) history ≤ k + suc (put_count history)) [
      | true ↦ let more = few_since who history (k + 1) in omega (arith, more)
      | false ↦ let more = few_since who history k in omega (arith, more)
    ]

-- Where the slice is greater than the bound, "not yet" is no answer.
pub IsNeverNotYet-legal : (s : Setting) (history : History) → IsLegal s history → IsNeverNotYet s history
IsNeverNotYet-legal s history legal actor steps big next =
    let few : put_count history ≤ 3 ^ length (choices s.problem) = ArePutsFew-legal s history legal in
    let since : puts_since actor history ≤ 0 + put_count history = few_since actor history 0 in
    let many : s.slice ≤ puts_since actor history = next.2.3 in
    absurd (omega (arith, few, since, many, big))
