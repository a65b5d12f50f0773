-- The leaves that a tree has had so far: those of the tree are among them, under their numbers, and each one's taken list has
-- that of the leaf that it was split from.
use Rattle.std.proofs.Common.{inl, inr, ◌≡◌, ◌⊎◌, ◌<◌, ◌+◌, ℕ, zero, suc, List, [], ◌∷◌, ◌++◌, true, false, cond, not, Some, None, refl, ap, sym, subst, ◌∙◌, arith, nat_eq, eqb-true, eq-eqb, length, get_or, map, length-append}
use Rattle.std.specs.List.{filter}
use Rattle.std.proofs.lemmas.List.Sums.{fold-append}
use Rattle.lists.proofs.Members.{Member, Member-flat_map_from}
use Rattle.lists.proofs.Sets.{is_subset-refl}
use Rattle.lists.proofs.Tests.{list_all_weaker}
use Rattle.lists.proofs.With.{has-with_old}
use Rattle.lists.specs.Sets.{has, with, is_subset}
use Rattle.resolver_model.specs.declared.node.Node.{Node}
use Rattle.resolver_model.specs.declared.lines.Line.{Line}
use Rattle.resolver_model.specs.declared.history.By.{By}
use Rattle.resolver_model.specs.declared.history.By.TheVariants.{Dep, Choice}
use Rattle.resolver_model.specs.declared.history.Entry.{Entry}
use Rattle.resolver_model.specs.declared.history.Entry.TheVariants.{Say, Take, Put, Back}
use Rattle.resolver_model.specs.Problems.{Problem, resolvers}
use Rattle.resolver_model.specs.Trees.{Leaf, Tree, root, branches, split, numbered, node_of, split_leaf, tree_after, tree_at}
use Rattle.resolver_model.specs.Births.{Birth, first_birth, birth, child_of, births_after, births_at, split_at, split_after}
use Rattle.resolver_model.specs.Histories.{History}
use Rattle.resolver_model.specs.Answers.{Setting}
use Rattle.resolver_model.specs.Legal.{CanSplit, Follows, IsLegal}
use Rattle.laws_session.specs.Laws.{AreBirths, IsNode}
use Rattle.laws_session.proofs.Nodes.{split_node}
use Rattle.laws_session.proofs.Grown.{IsTree-legal, node_of-member}
use Rattle.laws_session.proofs.Hands.{AreHandsApart-legal}
use Rattle.laws_session.proofs.Longer.{legal_induction}
use Rattle.laws_session.proofs.Effects.{tree_at-more}

pub births_at-more : (p : Problem) (history : History) (entry : Entry) → births_at p (history ++ entry ∷ []) ≡ births_after p (births_at p history) entry
births_at-more p history entry = fold-append (births_after p) (first_birth ∷ []) history (entry ∷ [])

pub split_at-more : (history : History) (entry : Entry) (leaf : ℕ) → split_at (history ++ entry ∷ []) leaf ≡ split_after leaf (split_at history leaf) entry
split_at-more history entry leaf = fold-append (split_after leaf) None history (entry ∷ [])

-- a `Put` splits its leaf
pub split_at-put : (history : History) (actor leaf : ℕ) (by : By) (learned : List Line) → split_at (history ++ Put actor leaf by learned ∷ []) leaf ≡ Some by
split_at-put history actor leaf by learned = split_at-more history (Put actor leaf by learned) leaf ∙ ap (λ b. cond b (Some by) (split_at history leaf)) (eq-eqb leaf leaf refl)

-- items at places of joined lists
pub get_or-left : {X : Type 0} (xs ys : List X) (k : ℕ) (d : X) → k < length xs → get_or (xs ++ ys) k d ≡ get_or xs k d
get_or-left [] ys k d lt = absurd (omega arith)
get_or-left (x ∷ xs) ys zero d lt = refl
get_or-left (x ∷ xs) ys (suc k) d lt = get_or-left xs ys k d (omega arith)

pub get_or-right : {X : Type 0} (xs ys : List X) (k n : ℕ) (d : X) → n ≡ length xs + k → get_or (xs ++ ys) n d ≡ get_or ys k d
get_or-right {X} [] ys k n d e = let same : n ≡ k = omega (arith, e) in ap (λ m. get_or ys m d) same
get_or-right (x ∷ xs) ys k zero d e = absurd (omega (arith, e))
get_or-right (x ∷ xs) ys k (suc n) d e = get_or-right xs ys k n d (omega (arith, e))

pub get_or-children : (leaf : ℕ) (nodes : List Node) (k : ℕ) (d : Birth) (e : Node) → k < length nodes → get_or (map (child_of leaf) nodes) k d ≡ child_of leaf (get_or nodes k e)
get_or-children leaf [] k d e lt = absurd (omega arith)
get_or-children leaf (n ∷ nodes) zero d e lt = refl
get_or-children leaf (n ∷ nodes) (suc k) d e lt = get_or-children leaf nodes k d e (omega arith)

pub length-children : (leaf : ℕ) (nodes : List Node) → length (map (child_of leaf) nodes) ≡ length nodes
length-children leaf [] = refl
length-children leaf (n ∷ nodes) = ap suc (length-children leaf nodes)

get_or-member : (nodes : List Node) (k : ℕ) (d : Node) → k < length nodes → Member (get_or nodes k d) nodes
get_or-member [] k d lt = absurd (omega arith)
get_or-member (n ∷ nodes) zero d lt = inl refl
get_or-member (n ∷ nodes) (suc k) d lt = inr (get_or-member nodes k d (omega arith))

-- the node of a new leaf stands at its number's place
pub numbered_place : (n : ℕ) (nodes : List Node) (leaf : Leaf) → Member leaf (numbered n nodes) → (k : ℕ) × (leaf.number ≡ n + k) × (k < length nodes) × (get_or nodes k root ≡ leaf.node)
numbered_place n [] leaf m = absurd m
numbered_place n (node ∷ nodes) leaf m =
    elim m as (λ _. (k : ℕ) × (leaf.number ≡ n + k) × (k < length (node ∷ nodes)) × (get_or (node ∷ nodes) k root ≡ leaf.node)) [
      | inl e ↦ let same : leaf.number ≡ n = ap (λ (l : Leaf). l.number) e in (0, omega (arith, same), omega arith, ap (λ (l : Leaf). l.node) (sym e))
      | inr k ↦ let more = numbered_place (n + 1) nodes leaf k in let at : leaf.number ≡ n + 1 + more.0 = more.1 in (suc more.0, omega (arith, at), omega (arith, more.2), more.3)
    ]

-- a child takes what the node takes
subset-with : (set : List ℕ) (c : ℕ) → is_subset set (with set c) ≡ true
subset-with set c = list_all_weaker (has set) (has (with set c)) (λ x m. has-with_old set c x m) set (is_subset-refl set)

branch_takes : (taken barred rs : List ℕ) (child : Node) → Member child (branches taken barred rs) → is_subset taken child.taken ≡ true
branch_takes taken barred [] child m = absurd m
branch_takes taken barred (r ∷ rs) child m =
    elim m as (λ _. is_subset taken child.taken ≡ true) [
      | inl e ↦ let P : Node → Type 0 = λ n. is_subset taken n.taken ≡ true in subst P (sym e) (subset-with taken r)
      | inr k ↦ branch_takes taken (with barred r) rs child k
    ]

pub split_takes : (p : Problem) (node : Node) (by : By) (child : Node) → Member child (split p node by) → is_subset node.taken child.taken ≡ true
split_takes p node (Dep d) child m = branch_takes node.taken node.barred (filter (λ r. not (has node.barred r)) (resolvers p node.taken d)) child m
split_takes p node (Choice a) child m =
    let P : Node → Type 0 = λ n. is_subset node.taken n.taken ≡ true in
    elim m as (λ _. is_subset node.taken child.taken ≡ true) [
      | inl e ↦ subst P (sym e) (subset-with node.taken a)
      | inr k ↦ elim k as (λ _. is_subset node.taken child.taken ≡ true) [ inl e ↦ subst P (sym e) (is_subset-refl node.taken) | inr nothing ↦ absurd nothing ]
    ]

-- a number is below one, or so many above it
pub below_or : (n m : ℕ) → (n < m) ⊎ ((k : ℕ) × (n ≡ m + k))
below_or n zero = inr (n, omega arith)
below_or zero (suc m) = inl (omega arith)
below_or (suc n) (suc m) = elim (below_or n m) as (λ _. (suc n < suc m) ⊎ ((k : ℕ) × (suc n ≡ suc m + k))) [ inl lt ↦ inl (omega arith) | inr more ↦ let e : n ≡ m + more.0 = more.1 in inr (more.0, omega (arith, e)) ]

-- A split keeps the births in order.
AreBirths-put : (p : Problem) (tree : Tree) (births : List Birth) (actor leaf : ℕ) (by : By) (learned : List Line) → AreBirths p tree births → leaf < tree.next → (birth births leaf).node ≡ node_of tree leaf
    → ((l : Leaf) → Member l tree.leaves → l.number < tree.next) → ((l : Leaf) → Member l tree.leaves → l.number ≡ leaf → node_of tree leaf ≡ l.node) → CanSplit p (node_of tree leaf) by
    → AreBirths p (tree_after p tree (Put actor leaf by learned)) (births_after p births (Put actor leaf by learned))
AreBirths-put p tree births actor leaf by learned b low same below is can =
    let nodes = split p (birth births leaf).node by in
    let more : List Birth = map (child_of leaf) nodes in
    let count : length births ≡ tree.next = b.count in
    let size : length more ≡ length nodes = length-children leaf nodes in
    let whole : length (births ++ more) ≡ length births + length more = length-append births more in
    let sizes : length nodes ≡ length (split p (node_of tree leaf) by) = ap (λ n. length (split p n by)) same in
    let old : (n : ℕ) → n < length births → birth (births ++ more) n ≡ birth births n = λ n lt. get_or-left births more n first_birth lt in
    let new : (n k : ℕ) → n ≡ length births + k → k < length nodes → birth (births ++ more) n ≡ child_of leaf (get_or nodes k root) = λ n k e lt. get_or-right births more k n first_birth e ∙ get_or-children leaf nodes k first_birth root lt in
    let inside : (n k : ℕ) → n < length (births ++ more) → n ≡ length births + k → k < length nodes = λ n k lt e. omega (arith, lt, e, whole, size) in
    let own : (birth (births ++ more) leaf) ≡ birth births leaf = old leaf (omega (arith, low, count)) in
    record {
      count = omega (arith, count, size, whole, sizes);
      leaves = λ l m.
          let from = Member-flat_map_from (split_leaf p leaf by tree.next) tree.leaves l m in
          elim (nat_eq from.0.number leaf) as (λ r. nat_eq from.0.number leaf ≡ r → Member l (cond r (numbered tree.next (split p from.0.node by)) (from.0 ∷ [])) → (birth (births ++ more) l.number).node ≡ l.node) [
            | true ↦ λ t k.
                let at = numbered_place tree.next (split p from.0.node by) l k in
                let node_is : from.0.node ≡ (birth births leaf).node = sym (is from.0 from.1 (eqb-true _ _ t)) ∙ sym same in
                let fits : at.0 < length nodes = subst (λ n. at.0 < length (split p n by)) node_is at.2 in
                let placed : get_or nodes at.0 root ≡ l.node = ap (λ n. get_or (split p n by) at.0 root) (sym node_is) ∙ at.3 in
                let number_is : l.number ≡ tree.next + at.0 = at.1 in
                ap (λ (x : Birth). x.node) (new l.number at.0 (omega (arith, number_is, count)) fits) ∙ placed
            | false ↦ λ _ k.
                elim k as (λ _. (birth (births ++ more) l.number).node ≡ l.node) [
                  | inl e ↦
                      let P : Leaf → Type 0 = λ x. (birth (births ++ more) x.number).node ≡ x.node in
                      subst P (sym e) (ap (λ (x : Birth). x.node) (old from.0.number (let lt : from.0.number < tree.next = below from.0 from.1 in omega (arith, lt, count))) ∙ b.leaves from.0 from.1)
                  | inr nothing ↦ absurd nothing
                ]
          ] refl from.2;
      parents = λ n q lt e.
          elim (below_or n (length births)) as (λ _. (q < n) × (is_subset (birth (births ++ more) q).node.taken (birth (births ++ more) n).node.taken ≡ true)) [
            | inl before ↦
                let was : (birth births n).parent ≡ Some q = ap (λ (x : Birth). x.parent) (sym (old n before)) ∙ e in
                let h = b.parents n q before was in
                let less : q < n = h.0 in
                (less, ap (λ (x : Birth). is_subset x.node.taken (birth (births ++ more) n).node.taken) (old q (omega (arith, less, before))) ∙ ap (λ (x : Birth). is_subset (birth births q).node.taken x.node.taken) (old n before) ∙ h.1)
            | inr after ↦
                let fits = inside n after.0 lt after.1 in
                let is_new = new n after.0 after.1 fits in
                let some : Some leaf ≡ Some q = ap (λ (x : Birth). x.parent) (sym is_new) ∙ e in
                let up : leaf ≡ q = cc in
                let place : n ≡ length births + after.0 = after.1 in
                let takes = split_takes p (birth births leaf).node by (get_or nodes after.0 root) (get_or-member nodes after.0 root fits) in
                (omega (arith, up, low, count, place), ap (λ m. is_subset (birth (births ++ more) m).node.taken (birth (births ++ more) n).node.taken) (sym up) ∙ ap (λ (x : Birth). is_subset x.node.taken (birth (births ++ more) n).node.taken) own ∙ ap (λ (x : Birth). is_subset (birth births leaf).node.taken x.node.taken) is_new ∙ takes)
          ];
      first = λ n lt e.
          elim (below_or n (length births)) as (λ _. n ≡ 0) [
            | inl before ↦ b.first n before (ap (λ (x : Birth). x.parent) (sym (old n before)) ∙ e)
            | inr after ↦ let some : Some leaf ≡ None = ap (λ (x : Birth). x.parent) (sym (new n after.0 after.1 (inside n after.0 lt after.1))) ∙ e in absurd (cc)
          ];
      root = ap (λ (x : Birth). x.parent) (old 0 (omega (arith, low, count))) ∙ b.root;
      nodes = λ n lt.
          let P : Birth → Type 0 = λ x. IsNode p x.node in
          elim (below_or n (length births)) as (λ _. IsNode p (birth (births ++ more) n).node) [
            | inl before ↦ subst P (sym (old n before)) (b.nodes n before)
            | inr after ↦
                let fits = inside n after.0 lt after.1 in
                let C : Node → Type 0 = λ x. CanSplit p x by in
                subst P (sym (new n after.0 after.1 fits)) (split_node p (birth births leaf).node by (b.nodes leaf (omega (arith, low, count))) (subst C (sym same) can) (get_or nodes after.0 root) (get_or-member nodes after.0 root fits))
          ];
    }

AreBirths-first : (p : Problem) → AreBirths p (tree_at p []) (births_at p [])
AreBirths-first p = record {
  count = refl;
  leaves = λ l m.
      let P : Leaf → Type 0 = λ x. (birth (first_birth ∷ []) x.number).node ≡ x.node in
      elim m as (λ _. (birth (first_birth ∷ []) l.number).node ≡ l.node) [ inl e ↦ subst P (sym e) refl | inr nothing ↦ absurd nothing ];
  parents = λ n q lt e. none_above n q lt e;
  first = λ n lt e. omega arith;
  root = refl;
  nodes = λ n lt. in_order n lt;
}
  where
    none_above : (n q : ℕ) → n < 1 → (birth (first_birth ∷ []) n).parent ≡ Some q → (q < n) × (is_subset (birth (first_birth ∷ []) q).node.taken (birth (first_birth ∷ []) n).node.taken ≡ true)
    none_above zero q lt e = absurd (cc)
    none_above (suc n) q lt e = absurd (omega arith)

    in_order : (n : ℕ) → n < 1 → IsNode p (birth (first_birth ∷ []) n).node
    in_order zero lt = record { taken = refl; barred = refl; disjoint = refl; consistent = refl }
    in_order (suc n) lt = absurd (omega arith)

step_of : (s : Setting) (history : History) (entry : Entry) → IsLegal s history → Follows s history entry → AreBirths s.problem (tree_at s.problem history) (births_at s.problem history)
    → AreBirths s.problem (tree_after s.problem (tree_at s.problem history) entry) (births_after s.problem (births_at s.problem history) entry)
step_of s history (Say actor command reply) legal next b = b
step_of s history (Take actor leaf) legal next b = b
step_of s history (Back actor leaf) legal next b = b
step_of s history (Put actor leaf by learned) legal next b =
    let tree = tree_at s.problem history in
    let t = IsTree-legal s history legal in
    let out = (AreHandsApart-legal s history legal).leaves actor leaf next.1 in
    let node_is : (l : Leaf) → Member l tree.leaves → l.number ≡ leaf → node_of tree leaf ≡ l.node = λ l m e. ap (node_of tree) (sym e) ∙ node_of-member tree l t.apart m in
    let number_is : out.0.number ≡ leaf = out.2 in
    let low : out.0.number < tree.next = t.below out.0 out.1 in
    let same : (birth (births_at s.problem history) leaf).node ≡ node_of tree leaf = ap (λ n. (birth (births_at s.problem history) n).node) (sym number_is) ∙ b.leaves out.0 out.1 ∙ sym (node_is out.0 out.1 number_is) in
    AreBirths-put s.problem tree (births_at s.problem history) actor leaf by learned b (omega (arith, number_is, low)) same t.below node_is next.2

pub AreBirths-legal : (s : Setting) (history : History) → IsLegal s history → AreBirths s.problem (tree_at s.problem history) (births_at s.problem history)
AreBirths-legal s history legal =
    legal_induction s (λ h. AreBirths s.problem (tree_at s.problem h) (births_at s.problem h)) (AreBirths-first s.problem)
    (λ before entry old next b.
    let T : Tree → Type 0 = λ tree. AreBirths s.problem tree (births_at s.problem (before ++ entry ∷ [])) in
    let B : List Birth → Type 0 = λ births. AreBirths s.problem (tree_after s.problem (tree_at s.problem before) entry) births in
    subst T (sym (tree_at-more s.problem before entry)) (subst B (sym (births_at-more s.problem before entry)) (step_of s before entry old next b))) history legal
