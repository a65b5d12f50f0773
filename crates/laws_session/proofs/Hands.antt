-- The leaves that are out, and with whom.
use Rattle.std.proofs.Common.{inl, inr, ◌≡◌, ◌≢◌, ◌<◌, ℕ, List, [], ◌∷◌, ◌++◌, false, cond, Some, None, refl, ap, sym, subst, ◌∙◌, nat_eq, ne_eqb}
use Rattle.std.specs.List.{flat_map}
use Rattle.std.proofs.lemmas.Bool.{cases_eq}
use Rattle.lists.proofs.Members.{Member, Member-flat_map, Member-any}
use Rattle.resolver_model.specs.declared.lines.Line.{Line}
use Rattle.resolver_model.specs.declared.history.By.{By}
use Rattle.resolver_model.specs.declared.history.Entry.{Entry}
use Rattle.resolver_model.specs.declared.history.Entry.TheVariants.{Say, Take, Put, Back}
use Rattle.resolver_model.specs.Problems.{Problem}
use Rattle.resolver_model.specs.Trees.{Leaf, Tree, split_leaf, numbered, split, tree_after, tree_at}
use Rattle.resolver_model.specs.Histories.{History, out_at}
use Rattle.resolver_model.specs.Answers.{Setting}
use Rattle.resolver_model.specs.Legal.{Follows, IsLegal}
use Rattle.laws_session.specs.Laws.{AreHandsApart}
use Rattle.laws_session.proofs.Longer.{legal_induction}
use Rattle.laws_session.proofs.Effects.{tree_at-more, tree_at-take, out_at-more, out_at-take, out_at-take_other, out_at-put, out_at-put_other, out_at-back, out_at-back_other}

-- an entry that takes no leaf, and after which the leaves that are out were out before
fewer_out : (s : Setting) (history : History) (entry : Entry) → AreHandsApart s history → ((who leaf : ℕ) → out_at who (history ++ entry ∷ []) ≡ Some leaf → out_at who history ≡ Some leaf)
    → ((who leaf : ℕ) → out_at who (history ++ entry ∷ []) ≡ Some leaf → (l : Leaf) → Member l (tree_at s.problem history).leaves → l.number ≡ leaf → Member l (tree_after s.problem (tree_at s.problem history) entry).leaves) → AreHandsApart s (history ++ entry ∷ [])
fewer_out s history entry h back stays = record {
  actors = λ who leaf out. h.actors who leaf (back who leaf out);
  alone = λ who other leaf out same. h.alone who other leaf (back who leaf out) (back other leaf same);
  leaves = λ who leaf out.
      let old = h.leaves who leaf (back who leaf out) in
      let P : Tree → Type 0 = λ tree. (l : Leaf) × Member l tree.leaves × (l.number ≡ leaf) in
      subst P (sym (tree_at-more s.problem history entry)) (old.0, stays who leaf out old.0 old.1 old.2, old.2);
}

-- another leaf stays when one is split
pub other_stays : (p : Problem) (tree : Tree) (leaf : ℕ) (by : By) (l : Leaf) → Member l tree.leaves → l.number ≢ leaf → Member l (flat_map (split_leaf p leaf by tree.next) tree.leaves)
other_stays p tree leaf by l m apart =
    let f : Leaf → List Leaf = split_leaf p leaf by tree.next in
    let own : Member l (cond (nat_eq l.number leaf) (numbered tree.next (split p l.node by)) (l ∷ [])) = let e : nat_eq l.number leaf ≡ false = ne_eqb _ _ apart in rw e (inl refl) in
    Member-flat_map f tree.leaves l l m own

take_step : (s : Setting) (history : History) (actor leaf : ℕ) → Follows s history (Take actor leaf) → AreHandsApart s history → AreHandsApart s (history ++ Take actor leaf ∷ [])
take_step s history actor leaf next h =
    let new = history ++ Take actor leaf ∷ [] in
    let own : (l : ℕ) → out_at actor new ≡ Some l → l ≡ leaf = λ l out. let e : Some l ≡ Some leaf = sym out ∙ out_at-take history actor leaf in cc in
    let other : (who l : ℕ) → actor ≢ who → out_at who new ≡ Some l → out_at who history ≡ Some l = λ who l apart out. sym (out_at-take_other who history actor leaf apart) ∙ out in
    record {
      actors = λ who l out. elim (cases_eq actor who) as (λ _. who < s.actors) [ inl e ↦ subst (λ n. n < s.actors) e next.0 | inr apart ↦ h.actors who l (other who l apart out) ];
      alone = λ who mate l out same.
          elim (cases_eq actor who) as (λ _. who ≡ mate) [
            | inl e ↦
                elim (cases_eq actor mate) as (λ _. who ≡ mate) [
                  | inl f ↦ sym e ∙ f
                  | inr apart ↦
                      let mine : out_at actor new ≡ Some l = subst (λ n. out_at n new ≡ Some l) (sym e) out in
                      let theirs : out_at mate history ≡ Some leaf = other mate l apart same ∙ ap Some (own l mine) in
                      absurd (next.2 mate theirs)
                ]
            | inr apart ↦
                elim (cases_eq actor mate) as (λ _. who ≡ mate) [
                  | inl f ↦
                      let mine : out_at actor new ≡ Some l = subst (λ n. out_at n new ≡ Some l) (sym f) same in
                      let theirs : out_at who history ≡ Some leaf = other who l apart out ∙ ap Some (own l mine) in
                      absurd (next.2 who theirs)
                  | inr far ↦ h.alone who mate l (other who l apart out) (other mate l far same)
                ]
          ];
      leaves = λ who l out.
          let P : Tree → Type 0 = λ tree. (x : Leaf) × Member x tree.leaves × (x.number ≡ l) in
          subst P (sym (tree_at-take s.problem history actor leaf))
          (elim (cases_eq actor who) as (λ _. (x : Leaf) × Member x (tree_at s.problem history).leaves × (x.number ≡ l)) [
            | inl e ↦
                let mine : out_at actor new ≡ Some l = subst (λ n. out_at n new ≡ Some l) (sym e) out in
                let there = next.3 in
                (there.1, Member-any (tree_at s.problem history).leaves there.0 there.1 there.2 there.3, there.4.0 ∙ sym (own l mine))
            | inr apart ↦ h.leaves who l (other who l apart out)
          ]);
    }

put_step : (s : Setting) (history : History) (actor leaf : ℕ) (by : By) (learned : List Line) → Follows s history (Put actor leaf by learned) → AreHandsApart s history → AreHandsApart s (history ++ Put actor leaf by learned ∷ [])
put_step s history actor leaf by learned next h =
    let new = history ++ Put actor leaf by learned ∷ [] in
    let far : (who l : ℕ) → out_at who new ≡ Some l → actor ≢ who = λ who l out e. let mine : out_at who new ≡ None = subst (λ n. out_at n new ≡ None) e (out_at-put history actor leaf by learned) in let f : Some l ≡ None = sym out ∙ mine in cc in
    let back : (who l : ℕ) → out_at who new ≡ Some l → out_at who history ≡ Some l = λ who l out. sym (out_at-put_other who history actor leaf by learned (far who l out)) ∙ out in
    fewer_out s history (Put actor leaf by learned) h back
    (λ who l out x m e.
    other_stays s.problem (tree_at s.problem history) leaf by x m (λ same.
    let theirs : out_at who history ≡ Some leaf = back who l out ∙ ap Some (sym e ∙ same) in
    far who l out (h.alone actor who leaf next.1 theirs)))

back_step : (s : Setting) (history : History) (actor leaf : ℕ) → AreHandsApart s history → AreHandsApart s (history ++ Back actor leaf ∷ [])
back_step s history actor leaf h =
    let new = history ++ Back actor leaf ∷ [] in
    let far : (who l : ℕ) → out_at who new ≡ Some l → actor ≢ who = λ who l out e. let mine : out_at who new ≡ None = subst (λ n. out_at n new ≡ None) e (out_at-back history actor leaf) in let f : Some l ≡ None = sym out ∙ mine in cc in
    fewer_out s history (Back actor leaf) h (λ who l out. sym (out_at-back_other who history actor leaf (far who l out)) ∙ out) (λ who l out x m e. m)

step_of : (s : Setting) (history : History) (entry : Entry) → Follows s history entry → AreHandsApart s history → AreHandsApart s (history ++ entry ∷ [])
step_of s history (Say actor command reply) next h = fewer_out s history (Say actor command reply) h (λ who l out. sym (out_at-more who history (Say actor command reply)) ∙ out) (λ who l out x m e. m)
step_of s history (Take actor leaf) next h = take_step s history actor leaf next h
step_of s history (Back actor leaf) next h = back_step s history actor leaf h
step_of s history (Put actor leaf by learned) next h = put_step s history actor leaf by learned next h

pub AreHandsApart-legal : (s : Setting) (history : History) → IsLegal s history → AreHandsApart s history
AreHandsApart-legal s history legal =
    legal_induction s (AreHandsApart s) (record { actors = λ who leaf out. absurd (nobody out); alone = λ who other leaf out same. absurd (nobody out); leaves = λ who leaf out. absurd (nobody out) })
    (λ before entry _ next h. step_of s before entry next h) history legal
  where
    nobody : {leaf : ℕ} → None ≡ Some leaf → ⊥
    nobody e = cc
