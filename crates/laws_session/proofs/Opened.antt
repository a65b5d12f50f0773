-- A leaf that was split by a dependency has it open at its taken list.
use Rattle.std.proofs.Common.{inl, inr, ◌≡◌, ◌<◌, ◌+◌, ℕ, List, [], ◌∷◌, ◌++◌, true, Some, None, refl, ap, sym, subst, ◌∙◌, arith, length}
use Rattle.std.proofs.lemmas.Bool.{cases_eq}
use Rattle.resolver_model.specs.declared.node.Node.{Node}
use Rattle.resolver_model.specs.declared.lines.Line.{Line}
use Rattle.resolver_model.specs.declared.history.By.{By}
use Rattle.resolver_model.specs.declared.history.By.TheVariants.{Dep}
use Rattle.resolver_model.specs.declared.history.Entry.{Entry}
use Rattle.resolver_model.specs.declared.history.Entry.TheVariants.{Say, Take, Put, Back}
use Rattle.resolver_model.specs.Problems.{Problem, dependency_count, is_open}
use Rattle.resolver_model.specs.Trees.{Leaf, split, tree_at, node_of}
use Rattle.resolver_model.specs.Births.{Birth, first_birth, birth, child_of, births_after, births_at, taken_at, split_at}
use Rattle.resolver_model.specs.Histories.{History, out_at}
use Rattle.resolver_model.specs.Answers.{Setting}
use Rattle.resolver_model.specs.Legal.{CanSplit, Follows, IsLegal}
use Rattle.std.proofs.Common.{map}
use Rattle.lists.proofs.Members.{Member}
use Rattle.laws_session.specs.Laws.{AreSplitsOpen}
use Rattle.laws_session.proofs.Longer.{legal_induction}
use Rattle.laws_session.proofs.Grown.{IsTree-legal, node_of-member}
use Rattle.laws_session.proofs.Hands.{AreHandsApart-legal}
use Rattle.laws_session.proofs.Unsplit.{AreLeavesUnsplit-legal, same_split}
use Rattle.laws_session.proofs.Births.{births_at-more, split_at-more, split_at-put, get_or-left, below_or, AreBirths-legal}

-- the leaf that an actor has out was given, was not split, and has its node
pub record IsOutPlace (s : Setting) (history : History) (leaf : ℕ) : Type 0 where
  pub low : leaf < length (births_at s.problem history)
  pub unsplit : split_at history leaf ≡ None
  pub node : (birth (births_at s.problem history) leaf).node ≡ node_of (tree_at s.problem history) leaf

pub IsOutPlace-leaf : (s : Setting) (history : History) (l : Leaf) → IsLegal s history → Member l (tree_at s.problem history).leaves → IsOutPlace s history l.number
IsOutPlace-leaf s history l legal m =
    let t = IsTree-legal s history legal in
    let b = AreBirths-legal s history legal in
    let low = t.below l m in
    let count = b.count in
    record {
      low = omega (arith, low, count);
      unsplit = (AreLeavesUnsplit-legal s history legal).leaves l m;
      node = b.leaves l m ∙ sym (node_of-member (tree_at s.problem history) l t.apart m);
    }

pub IsOutPlace-out : (s : Setting) (history : History) (actor leaf : ℕ) → IsLegal s history → out_at actor history ≡ Some leaf → IsOutPlace s history leaf
IsOutPlace-out s history actor leaf legal out =
    let l = (AreHandsApart-legal s history legal).leaves actor leaf out in
    let P : ℕ → Type 0 = λ n. IsOutPlace s history n in
    subst P l.2 (IsOutPlace-leaf s history l.0 legal l.1)

-- what was given stays as it was
pub birth-kept : (p : Problem) (history : History) (entry : Entry) (n : ℕ) → n < length (births_at p history) → birth (births_at p (history ++ entry ∷ [])) n ≡ birth (births_at p history) n
birth-kept p history entry n lt = ap (λ bs. birth bs n) (births_at-more p history entry) ∙ kept entry
  where
    kept : (e : Entry) → birth (births_after p (births_at p history) e) n ≡ birth (births_at p history) n
    kept (Say actor command reply) = refl
    kept (Take actor leaf) = refl
    kept (Back actor leaf) = refl
    kept (Put actor leaf by learned) = get_or-left (births_at p history) (map (child_of leaf) (split p (birth (births_at p history) leaf).node by)) n first_birth lt

-- what was split was given
low_split : (s : Setting) (history : History) (n : ℕ) (by : By) → IsLegal s history → split_at history n ≡ Some by → n < length (births_at s.problem history)
low_split s history n by legal e =
    elim (below_or n (length (births_at s.problem history))) as (λ _. n < length (births_at s.problem history)) [
      | inl lt ↦ lt
      | inr more ↦
          let at : n ≡ length (births_at s.problem history) + more.0 = more.1 in
          let none : split_at history n ≡ None = (AreLeavesUnsplit-legal s history legal).later n (omega (arith, at)) in
          let f : Some by ≡ None = sym e ∙ none in
          absurd (cc)
    ]

was_open : (s : Setting) (history : History) (entry : Entry) (n d : ℕ) → IsLegal s history → AreSplitsOpen s history → split_at history n ≡ Some (Dep d) → (d < dependency_count s.problem) × (is_open s.problem (taken_at s.problem (history ++ entry ∷ []) n) d ≡ true)
was_open s history entry n d legal are e =
    let was = are n d e in
    (was.0, ap (λ (x : Birth). is_open s.problem x.node.taken d) (birth-kept s.problem history entry n (low_split s history n (Dep d) legal e)) ∙ was.1)

quiet : (s : Setting) (history : History) (entry : Entry) → ((n : ℕ) → split_at (history ++ entry ∷ []) n ≡ split_at history n) → IsLegal s history → AreSplitsOpen s history → AreSplitsOpen s (history ++ entry ∷ [])
quiet s history entry same legal are n d e = was_open s history entry n d legal are (sym (same n) ∙ e)

put_step : (s : Setting) (history : History) (actor leaf : ℕ) (by : By) (learned : List Line) → IsLegal s history → Follows s history (Put actor leaf by learned) → AreSplitsOpen s history → AreSplitsOpen s (history ++ Put actor leaf by learned ∷ [])
put_step s history actor leaf by learned legal next are n d e =
    elim (cases_eq leaf n) as (λ _. (d < dependency_count s.problem) × (is_open s.problem (taken_at s.problem (history ++ Put actor leaf by learned ∷ []) n) d ≡ true)) [
      | inl same ↦
          let place = IsOutPlace-out s history actor leaf legal next.1 in
          let by_is : Some by ≡ Some (Dep d) = sym (split_at-put history actor leaf by learned) ∙ ap (split_at (history ++ Put actor leaf by learned ∷ [])) same ∙ e in
          let is : by ≡ Dep d = cc in
          let C : By → Type 0 = λ b. CanSplit s.problem (node_of (tree_at s.problem history) leaf) b in
          let can = subst C is next.2 in
          (can.0, ap (λ m. is_open s.problem (taken_at s.problem (history ++ Put actor leaf by learned ∷ []) m) d) (sym same) ∙ ap (λ (x : Birth). is_open s.problem x.node.taken d) (birth-kept s.problem history (Put actor leaf by learned) leaf place.low) ∙ ap (λ (x : Node). is_open s.problem x.taken d) place.node ∙ can.1)
      | inr apart ↦ was_open s history (Put actor leaf by learned) n d legal are (sym (same_split history actor leaf n by learned apart) ∙ e)
    ]

step : (s : Setting) (history : History) (entry : Entry) → IsLegal s history → Follows s history entry → AreSplitsOpen s history → AreSplitsOpen s (history ++ entry ∷ [])
step s history (Say actor command reply) legal next are = quiet s history (Say actor command reply) (λ n. split_at-more history (Say actor command reply) n) legal are
step s history (Take actor leaf) legal next are = quiet s history (Take actor leaf) (λ n. split_at-more history (Take actor leaf) n) legal are
step s history (Back actor leaf) legal next are = quiet s history (Back actor leaf) (λ n. split_at-more history (Back actor leaf) n) legal are
step s history (Put actor leaf by learned) legal next are = put_step s history actor leaf by learned legal next are

pub AreSplitsOpen-legal : (s : Setting) (history : History) → IsLegal s history → AreSplitsOpen s history
AreSplitsOpen-legal s history legal = legal_induction s (AreSplitsOpen s) (λ n d e. absurd (cc)) (λ before entry old next are. step s before entry old next are) history legal
