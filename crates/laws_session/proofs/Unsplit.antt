-- The leaves of a tree are those that it has had and that were not split.
use Rattle.std.proofs.Common.{inl, inr, ◌≡◌, ◌≢◌, ◌<◌, ◌≤◌, ◌+◌, ℕ, zero, suc, List, [], ◌∷◌, ◌++◌, true, false, cond, Some, None, refl, ap, sym, subst, ◌∙◌, arith, nat_eq, eq-eqb, ne_eqb, length, get_or, map, length-append}
use Rattle.std.specs.List.{flat_map}
use Rattle.lists.proofs.Members.{Member, Member-flat_map_from, Member-flat_map}
use Rattle.resolver_model.specs.declared.node.Node.{Node}
use Rattle.resolver_model.specs.declared.lines.Line.{Line}
use Rattle.resolver_model.specs.declared.history.By.{By}
use Rattle.resolver_model.specs.declared.history.Entry.{Entry}
use Rattle.resolver_model.specs.declared.history.Entry.TheVariants.{Say, Take, Put, Back}
use Rattle.resolver_model.specs.Trees.{Leaf, Tree, root, split, numbered, split_leaf, tree_after, tree_at}
use Rattle.resolver_model.specs.Births.{Birth, first_birth, birth, child_of, births_after, births_at, split_at, split_after}
use Rattle.resolver_model.specs.Histories.{History}
use Rattle.resolver_model.specs.Answers.{Setting}
use Rattle.resolver_model.specs.Legal.{Follows, IsLegal}
use Rattle.laws_session.specs.Laws.{AreLeavesUnsplit}
use Rattle.laws_session.proofs.Grown.{IsTree-legal}
use Rattle.laws_session.proofs.Hands.{AreHandsApart-legal, other_stays}
use Rattle.laws_session.proofs.Longer.{legal_induction}
use Rattle.laws_session.proofs.Effects.{tree_at-more}
use Rattle.laws_session.proofs.Births.{births_at-more, split_at-more, split_at-put, numbered_place, below_or, get_or-right, get_or-left, get_or-children, length-children, AreBirths-legal}

-- the new leaf at a place
numbered_at : (n k : ℕ) (nodes : List Node) → k < length nodes → Member {X = Leaf} (record { number = n + k; node = get_or nodes k root }) (numbered n nodes)
numbered_at n k [] lt = absurd (omega arith)
numbered_at n zero (node ∷ nodes) lt =
    let same : n + 0 ≡ n = omega arith in
    inl (ap (λ m. record { number = m; node = node }) same)
numbered_at n (suc k) (node ∷ nodes) lt =
    let same : n + suc k ≡ n + 1 + k = omega arith in
    let P : ℕ → Type 0 = λ m. Member {X = Leaf} (record { number = m; node = get_or nodes k root }) (numbered (n + 1) nodes) in
    inr (subst P (sym same) (numbered_at (n + 1) k nodes (omega arith)))

pub same_split : (history : History) (actor leaf other : ℕ) (by : By) (learned : List Line) → leaf ≢ other → split_at (history ++ Put actor leaf by learned ∷ []) other ≡ split_at history other
same_split history actor leaf other by learned apart = split_at-more history (Put actor leaf by learned) other ∙ ap (λ b. cond b (Some by) (split_at history other)) (ne_eqb leaf other apart)

put_step : (s : Setting) (history : History) (actor leaf : ℕ) (by : By) (learned : List Line) → IsLegal s history → Follows s history (Put actor leaf by learned) → AreLeavesUnsplit s history → AreLeavesUnsplit s (history ++ Put actor leaf by learned ∷ [])
put_step s history actor leaf by learned legal next h =
    let p = s.problem in
    let tree = tree_at p history in
    let births = births_at p history in
    let entry = Put actor leaf by learned in
    let t = IsTree-legal s history legal in
    let b = AreBirths-legal s history legal in
    let out = (AreHandsApart-legal s history legal).leaves actor leaf next.1 in
    let number_is : out.0.number ≡ leaf = out.2 in
    let low : out.0.number < tree.next = t.below out.0 out.1 in
    let count : length births ≡ tree.next = b.count in
    let f : Leaf → List Leaf = split_leaf p leaf by tree.next in
    let node_is : out.0.node ≡ (birth births leaf).node = sym (b.leaves out.0 out.1) ∙ ap (λ n. (birth births n).node) number_is in
    let nodes = split p (birth births leaf).node by in
    let high : (n : ℕ) → length births ≤ n → split_at (history ++ entry ∷ []) n ≡ None =
    λ n le. same_split history actor leaf n by learned (λ e. absurd (omega (arith, e, le, low, number_is, count))) ∙ h.later n le in
    let T : Tree → Type 0 = λ x. (l : Leaf) → Member l x.leaves → split_at (history ++ entry ∷ []) l.number ≡ None in
    let U : Tree → Type 0 = λ x. (n : ℕ) → n < length (births_at p (history ++ entry ∷ [])) → split_at (history ++ entry ∷ []) n ≡ None → Member (record { number = n; node = (birth (births_at p (history ++ entry ∷ [])) n).node }) x.leaves in
    let B : List Birth → Type 0 = λ x. (n : ℕ) → n < length x → split_at (history ++ entry ∷ []) n ≡ None → Member (record { number = n; node = (birth x n).node }) (tree_after p tree entry).leaves in
    let L : List Birth → Type 0 = λ x. (n : ℕ) → length x ≤ n → split_at (history ++ entry ∷ []) n ≡ None in
    let more : List Birth = map (child_of leaf) nodes in
    let size : length more ≡ length nodes = length-children leaf nodes in
    let whole : length (births ++ more) ≡ length births + length more = length-append births more in
    record {
      leaves = subst T (sym (tree_at-more p history entry)) (λ l m.
          let from = Member-flat_map_from f tree.leaves l m in
          elim (nat_eq from.0.number leaf) as (λ r. nat_eq from.0.number leaf ≡ r → Member l (cond r (numbered tree.next (split p from.0.node by)) (from.0 ∷ [])) → split_at (history ++ entry ∷ []) l.number ≡ None) [
            | true ↦ λ _ k. let at = numbered_place tree.next (split p from.0.node by) l k in let place : l.number ≡ tree.next + at.0 = at.1 in high l.number (omega (arith, place, count))
            | false ↦ λ u k.
                elim k as (λ _. split_at (history ++ entry ∷ []) l.number ≡ None) [
                  | inl e ↦
                      let P : Leaf → Type 0 = λ x. split_at (history ++ entry ∷ []) x.number ≡ None in
                      let apart : leaf ≢ from.0.number = λ same. let v : nat_eq from.0.number leaf ≡ true = eq-eqb _ _ (sym same) in let c : true ≡ false = sym v ∙ u in cc in
                      subst P (sym e) (same_split history actor leaf from.0.number by learned apart ∙ h.leaves from.0 from.1)
                  | inr nothing ↦ absurd nothing
                ]
          ] refl from.2);
      unsplit = subst U (sym (tree_at-more p history entry)) (subst B (sym (births_at-more p history entry)) (λ n lt none.
          elim (below_or n (length births)) as (λ _. Member (record { number = n; node = (birth (births ++ more) n).node }) (flat_map f tree.leaves)) [
            | inl before ↦
                let apart : leaf ≢ n = λ e. let own : split_at (history ++ entry ∷ []) n ≡ Some by = ap (split_at (history ++ entry ∷ [])) (sym e) ∙ split_at-put history actor leaf by learned in let c : Some by ≡ None = sym own ∙ none in cc in
                let was : split_at history n ≡ None = sym (same_split history actor leaf n by learned apart) ∙ none in
                let M : Birth → Type 0 = λ x. Member (record { number = n; node = x.node }) (flat_map f tree.leaves) in
                subst M (sym (get_or-left births more n first_birth before)) (other_stays p tree leaf by (record { number = n; node = (birth births n).node }) (h.unsplit n before was) (λ e. apart (sym e)))
            | inr after ↦
                let place : n ≡ length births + after.0 = after.1 in
                let fits : after.0 < length nodes = omega (arith, lt, place, whole, size) in
                let is_new : birth (births ++ more) n ≡ child_of leaf (get_or nodes after.0 root) = get_or-right births more after.0 n first_birth place ∙ get_or-children leaf nodes after.0 first_birth root fits in
                let M : Birth → Type 0 = λ x. Member (record { number = n; node = x.node }) (flat_map f tree.leaves) in
                let N : ℕ → Type 0 = λ k. Member (record { number = k; node = get_or nodes after.0 root }) (numbered tree.next nodes) in
                let at : n ≡ tree.next + after.0 = omega (arith, place, count) in
                let K : Node → Type 0 = λ x. Member (record { number = n; node = get_or nodes after.0 root }) (numbered tree.next (split p x by)) in
                let there = subst K (sym node_is) (subst N (sym at) (numbered_at tree.next after.0 nodes fits)) in
                let made : Member (record { number = n; node = get_or nodes after.0 root }) (f out.0) = let e : nat_eq out.0.number leaf ≡ true = eq-eqb _ _ number_is in rw e there in
                subst M (sym is_new) (Member-flat_map f tree.leaves out.0 (record { number = n; node = get_or nodes after.0 root }) out.1 made)
          ]));
      later = subst L (sym (births_at-more p history entry)) (λ n le. high n (omega (arith, le, whole)));
    }

still : (s : Setting) (history : History) (entry : Entry) → tree_after s.problem (tree_at s.problem history) entry ≡ tree_at s.problem history → births_after s.problem (births_at s.problem history) entry ≡ births_at s.problem history
    → ((leaf : ℕ) → split_after leaf (split_at history leaf) entry ≡ split_at history leaf) → AreLeavesUnsplit s history → AreLeavesUnsplit s (history ++ entry ∷ [])
still s history entry tree births splits h =
    let t : tree_at s.problem (history ++ entry ∷ []) ≡ tree_at s.problem history = tree_at-more s.problem history entry ∙ tree in
    let b : births_at s.problem (history ++ entry ∷ []) ≡ births_at s.problem history = births_at-more s.problem history entry ∙ births in
    let same : (leaf : ℕ) → split_at (history ++ entry ∷ []) leaf ≡ split_at history leaf = λ leaf. split_at-more history entry leaf ∙ splits leaf in
    let P : Tree → Type 0 = λ x. (l : Leaf) → Member l x.leaves → split_at (history ++ entry ∷ []) l.number ≡ None in
    let U : Tree → Type 0 = λ x. (n : ℕ) → n < length (births_at s.problem (history ++ entry ∷ [])) → split_at (history ++ entry ∷ []) n ≡ None → Member (record { number = n; node = (birth (births_at s.problem (history ++ entry ∷ [])) n).node }) x.leaves in
    let B : List Birth → Type 0 = λ x. (n : ℕ) → n < length x → split_at (history ++ entry ∷ []) n ≡ None → Member (record { number = n; node = (birth x n).node }) (tree_at s.problem history).leaves in
    let L : List Birth → Type 0 = λ x. (n : ℕ) → length x ≤ n → split_at (history ++ entry ∷ []) n ≡ None in
    record {
      leaves = subst P (sym t) (λ l m. same l.number ∙ h.leaves l m);
      unsplit = subst U (sym t) (subst B (sym b) (λ n lt none. h.unsplit n lt (sym (same n) ∙ none)));
      later = subst L (sym b) (λ n le. same n ∙ h.later n le);
    }

step_of : (s : Setting) (history : History) (entry : Entry) → IsLegal s history → Follows s history entry → AreLeavesUnsplit s history → AreLeavesUnsplit s (history ++ entry ∷ [])
step_of s history (Say actor command reply) legal next h = still s history (Say actor command reply) refl refl (λ leaf. refl) h
step_of s history (Take actor leaf) legal next h = still s history (Take actor leaf) refl refl (λ leaf. refl) h
step_of s history (Back actor leaf) legal next h = still s history (Back actor leaf) refl refl (λ leaf. refl) h
step_of s history (Put actor leaf by learned) legal next h = put_step s history actor leaf by learned legal next h

first : (s : Setting) → AreLeavesUnsplit s []
first s = record {
  leaves = λ l m. refl;
  unsplit = λ n lt none. only n lt;
  later = λ n le. refl;
}
  where
    only : (n : ℕ) → n < 1 → Member {X = Leaf} (record { number = n; node = (birth (first_birth ∷ []) n).node }) (numbered 0 (root ∷ []))
    only zero lt = inl refl
    only (suc n) lt = absurd (omega arith)

pub AreLeavesUnsplit-legal : (s : Setting) (history : History) → IsLegal s history → AreLeavesUnsplit s history
AreLeavesUnsplit-legal s history legal = legal_induction s (AreLeavesUnsplit s) (first s) (step_of s) history legal
