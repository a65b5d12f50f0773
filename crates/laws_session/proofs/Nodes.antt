-- What a split makes of a node: its children are apart, within the node, and their lists are in order.
use Rattle.std.proofs.Common.{inl, inr, ◌≡◌, ◌<◌, ◌+◌, ℕ, List, [], ◌∷◌, true, false, not, refl, sym, subst, ◌∙◌, arith, nat_lt, nat_eq, eq-eqb}
use Rattle.std.specs.List.{filter, list_all}
use Rattle.std.proofs.lemmas.Bool.{and_from, and_parts, or_left, or_right, not-true, not_from_false, false_from_ne_true}
use Rattle.lists.proofs.Below.{is_rising-below}
use Rattle.lists.proofs.Members.{Member}
use Rattle.lists.proofs.Sets.{is_rising-filter, has_above, has-filter_parts}
use Rattle.lists.proofs.With.{is_disjoint-with, list_all-with, is_rising-with, list_all-with_parts, has-with_cases}
use Rattle.lists.specs.Below.{below}
use Rattle.lists.specs.Sets.{is_rising, has, with, is_subset, is_disjoint}
use Rattle.resolver_model.specs.declared.node.Node.{Node}
use Rattle.resolver_model.specs.declared.history.By.{By}
use Rattle.resolver_model.specs.declared.history.By.TheVariants.{Dep, Choice}
use Rattle.resolver_model.specs.Problems.{Problem, version_count, dependency_count, is_choice, is_choice_set, is_consistent, is_resolver, resolvers}
use Rattle.resolver_model.specs.Trees.{is_within, branches, split}
use Rattle.resolver_model.specs.Legal.{CanSplit}
use Rattle.laws_session.specs.Laws.{AreApart, IsNode, AreNodesApart}
use Rattle.laws_session.proofs.Resolvers.{IsFitting-resolver, is_consistent-with}

-- a set within a child is within the node
abbrev pub IsInside : Node → Node → Type 0
IsInside child node = (set : List ℕ) → is_within child set ≡ true → is_within node set ≡ true

inside_taken : (taken barred : List ℕ) (r : ℕ) → IsInside (record { taken = with taken r; barred = barred }) (record { taken = taken; barred = barred })
inside_taken taken barred r set w =
    let parts = and_parts (is_subset (with taken r) set) (is_disjoint barred set) w in
    and_from (is_subset taken set) _ (list_all-with_parts (has set) taken r parts.0).1 parts.1

inside_barred : (taken barred : List ℕ) (r : ℕ) → IsInside (record { taken = taken; barred = with barred r }) (record { taken = taken; barred = barred })
inside_barred taken barred r set w =
    let parts = and_parts (is_subset taken set) (is_disjoint (with barred r) set) w in
    and_from (is_subset taken set) _ parts.0 (list_all-with_parts (λ c. not (has set c)) barred r parts.1).1

branch_inside : (taken barred rs : List ℕ) (child : Node) → Member child (branches taken barred rs) → IsInside child (record { taken = taken; barred = barred })
branch_inside taken barred [] child m set w = absurd m
branch_inside taken barred (r ∷ rs) child m set w =
    elim m as (λ _. is_within (record { taken = taken; barred = barred }) set ≡ true) [
      | inl e ↦ let P : Node → Type 0 = λ n. is_within n set ≡ true in inside_taken taken barred r set (subst P e w)
      | inr k ↦ inside_barred taken barred r set (branch_inside taken (with barred r) rs child k set w)
    ]

-- what takes r and what bars it are apart
taken_or_barred : (taken barred other bars : List ℕ) (r : ℕ) → AreNodesApart (record { taken = with taken r; barred = barred }) (record { taken = other; barred = with bars r })
taken_or_barred taken barred other bars r set w v =
    let takes : has set r ≡ true = (list_all-with_parts (has set) taken r (and_parts (is_subset (with taken r) set) _ w).0).0 in
    let bars_it : has set r ≡ false = not-true _ (list_all-with_parts (λ c. not (has set c)) bars r (and_parts (is_subset other set) _ v).1).0 in
    let f : true ≡ false = sym takes ∙ bars_it in
    cc

branches_apart : (taken barred rs : List ℕ) → AreApart AreNodesApart (branches taken barred rs)
branches_apart taken barred [] = tt
branches_apart taken barred (r ∷ rs) = (
  λ child m set w v. taken_or_barred taken barred taken barred r set w (branch_inside taken (with barred r) rs child m set v),
  branches_apart taken (with barred r) rs,
)

pub split_inside : (p : Problem) (node : Node) (by : By) (child : Node) → Member child (split p node by) → IsInside child node
split_inside p node (Dep d) child m set w = branch_inside node.taken node.barred (filter (λ r. not (has node.barred r)) (resolvers p node.taken d)) child m set w
split_inside p node (Choice a) child m set w =
    let P : Node → Type 0 = λ n. is_within n set ≡ true in
    elim m as (λ _. is_within node set ≡ true) [
      | inl e ↦ inside_taken node.taken node.barred a set (subst P e w)
      | inr k ↦ elim k as (λ _. is_within node set ≡ true) [ inl e ↦ inside_barred node.taken node.barred a set (subst P e w) | inr nothing ↦ absurd nothing ]
    ]

pub split_apart : (p : Problem) (node : Node) (by : By) → AreApart AreNodesApart (split p node by)
split_apart p node (Dep d) = branches_apart node.taken node.barred (filter (λ r. not (has node.barred r)) (resolvers p node.taken d))
split_apart p node (Choice a) = (
  λ child m set w v.
      elim m as (λ _. ⊥) [
        | inl e ↦ let P : Node → Type 0 = λ n. is_within n set ≡ true in taken_or_barred node.taken node.barred node.taken node.barred a set w (subst P e v)
        | inr nothing ↦ absurd nothing
      ],
  (λ child m. absurd m, tt),
)

-- a choice that the node has in neither list, and that fits its taken list
pub record IsBranch (p : Problem) (taken barred : List ℕ) (r : ℕ) : Type 0 where
  pub choice : is_choice p r ≡ true
  pub not_taken : has taken r ≡ false
  pub not_barred : has barred r ≡ false
  pub consistent : is_consistent p (with taken r) ≡ true

pub is_choice_set-with : (p : Problem) (set : List ℕ) (c : ℕ) → is_choice_set p set ≡ true → is_choice p c ≡ true → is_choice_set p (with set c) ≡ true
is_choice_set-with p set c h k = let parts = and_parts (is_rising set) _ h in and_from (is_rising (with set c)) _ (is_rising-with set c parts.0) (list_all-with (is_choice p) set c parts.1 k)

pub IsNode-taken : (p : Problem) (taken barred : List ℕ) (r : ℕ) → IsNode p (record { taken = taken; barred = barred }) → IsBranch p taken barred r → IsNode p (record { taken = with taken r; barred = barred })
IsNode-taken p taken barred r n b = record {
  taken = is_choice_set-with p taken r n.taken b.choice;
  barred = n.barred;
  disjoint = list_all-with (λ x. not (has barred x)) taken r n.disjoint (not_from_false _ b.not_barred);
  consistent = b.consistent;
}

pub IsNode-barred : (p : Problem) (taken barred : List ℕ) (r : ℕ) → IsNode p (record { taken = taken; barred = barred }) → IsBranch p taken barred r → IsNode p (record { taken = taken; barred = with barred r })
IsNode-barred p taken barred r n b = record {
  taken = n.taken;
  barred = is_choice_set-with p barred r n.barred b.choice;
  disjoint = is_disjoint-with taken barred r n.disjoint b.not_taken;
  consistent = n.consistent;
}

-- the later ones of a rising list are still in neither list once the first is barred
pub branch_later : (p : Problem) (taken barred rs : List ℕ) (r : ℕ) → is_rising (r ∷ rs) ≡ true → ((c : ℕ) → has (r ∷ rs) c ≡ true → IsBranch p taken barred c) → (c : ℕ) → has rs c ≡ true → IsBranch p taken (with barred r) c
branch_later p taken barred rs r rises all c m =
    let b = all c (or_right (nat_eq r c) _ m) in
    record {
      choice = b.choice;
      not_taken = b.not_taken;
      not_barred = false_from_ne_true _ (λ h.
          elim (has-with_cases barred r c h) as (λ _. ⊥) [
            | inl e ↦ let lt : r < c = has_above r c rs (and_parts (list_all (λ z. nat_lt r z) rs) _ rises).0 m in absurd (omega (arith, e, lt))
            | inr t ↦ let f : true ≡ false = sym t ∙ b.not_barred in cc
          ]);
      consistent = b.consistent;
    }

branch_node : (p : Problem) (taken barred rs : List ℕ) → is_rising rs ≡ true → ((c : ℕ) → has rs c ≡ true → IsBranch p taken barred c) → IsNode p (record { taken = taken; barred = barred }) → (child : Node) → Member child (branches taken barred rs) → IsNode p child
branch_node p taken barred [] rises all n child m = absurd m
branch_node p taken barred (r ∷ rs) rises all n child m =
    let own = all r (or_left (nat_eq r r) _ (eq-eqb r r refl)) in
    elim m as (λ _. IsNode p child) [
      | inl e ↦ let P : Node → Type 0 = λ x. IsNode p x in subst P (sym e) (IsNode-taken p taken barred r n own)
      | inr k ↦ branch_node p taken (with barred r) rs (and_parts (list_all (λ z. nat_lt r z) rs) _ rises).1 (branch_later p taken barred rs r rises all) (IsNode-barred p taken barred r n own) child k
    ]

-- the resolvers by which a node is split
abbrev pub branch_choices : Problem → Node → ℕ → List ℕ
branch_choices p node d = filter (λ r. not (has node.barred r)) (resolvers p node.taken d)

pub branch_choices_rise : (p : Problem) (node : Node) (d : ℕ) → is_rising (branch_choices p node d) ≡ true
branch_choices_rise p node d = is_rising-filter (λ r. not (has node.barred r)) (resolvers p node.taken d) (is_rising-filter (is_resolver p node.taken d) (below (version_count p + dependency_count p)) (is_rising-below (version_count p + dependency_count p)))

pub branch_choice : (p : Problem) (node : Node) (d : ℕ) → IsNode p node → CanSplit p node (Dep d) → (c : ℕ) → has (branch_choices p node d) c ≡ true → IsBranch p node.taken node.barred c
branch_choice p node d n can c m =
    let outer = has-filter_parts (λ r. not (has node.barred r)) (resolvers p node.taken d) c m in
    let inner = has-filter_parts (is_resolver p node.taken d) (below (version_count p + dependency_count p)) c outer.1 in
    let fits = IsFitting-resolver p node.taken d c can.0 can.1 inner.0 in
    record {
      choice = fits.choice;
      not_taken = fits.missing;
      not_barred = not-true _ outer.0;
      consistent = is_consistent-with p node.taken c n.consistent fits.free;
    }

pub IsBranch-choice : (p : Problem) (node : Node) (a : ℕ) → CanSplit p node (Choice a) → IsBranch p node.taken node.barred a
IsBranch-choice p node a can = record { choice = can.0; not_taken = can.1; not_barred = can.2; consistent = can.3 }

-- The lists of each child are in order.
pub split_node : (p : Problem) (node : Node) (by : By) → IsNode p node → CanSplit p node by → (child : Node) → Member child (split p node by) → IsNode p child
split_node p node (Dep d) n can child m = branch_node p node.taken node.barred (branch_choices p node d) (branch_choices_rise p node d) (branch_choice p node d n can) n child m
split_node p node (Choice a) n can child m =
    let P : Node → Type 0 = λ x. IsNode p x in
    let own = IsBranch-choice p node a can in
    elim m as (λ _. IsNode p child) [
      | inl e ↦ subst P (sym e) (IsNode-taken p node.taken node.barred a n own)
      | inr k ↦ elim k as (λ _. IsNode p child) [ inl e ↦ subst P (sym e) (IsNode-barred p node.taken node.barred a n own) | inr nothing ↦ absurd nothing ]
    ]
