-- After a history one answer alone is right, to an actor that asks for a leaf and to a command.
use Rattle.std.proofs.Common.{inl, inr, ◌≡◌, ◌<◌, ◌≤◌, ℕ, true, false, not, ◌&&◌, List, [], ◌∷◌, ◌++◌, refl, ap, sym, subst, ◌∙◌, arith}
use Rattle.std.specs.declared.cmp.Ordering.{Ordering}
use Rattle.std.specs.declared.cmp.Ordering.TheVariants.{Less, Equal, Greater}
use Rattle.std.specs.Cmp.{IsTotalOrder}
use Rattle.std.specs.Cmp.Lexicographic.{slice_cmp}
use Rattle.std.specs.FinMap.{nat_cmp-IsAntisymmetric}
use Rattle.std.specs.Ordering.{nat_cmp, is_le, ordering_reverse}
use Rattle.std.proofs.lemmas.Bool.{and_parts, not-true}
use Rattle.std.proofs.lemmas.Cmp.{on_total, then_total, nat_cmp_total, nat_list_cmp_total}
use Rattle.lists.proofs.Members.{list_all-Member}
use Rattle.lists.proofs.Orders.{then_equal}
use Rattle.resolver_model.specs.declared.history.Command.{Command}
use Rattle.resolver_model.specs.declared.history.Command.TheVariants.{Next}
use Rattle.resolver_model.specs.declared.history.Reply.{Reply}
use Rattle.resolver_model.specs.declared.history.Reply.TheVariants.{Solution, NoMore, NotYet}
use Rattle.resolver_model.specs.declared.history.Entry.TheVariants.{Say}
use Rattle.resolver_model.specs.Costs.{Table, cost_cmp, set_cmp, IsUpTo}
use Rattle.resolver_model.specs.Problems.{is_nothing_open}
use Rattle.resolver_model.specs.Trees.{Leaf, Situation, is_shut, is_some_wanted, is_all_shut, key_of, tree_at}
use Rattle.resolver_model.specs.Histories.{History, puts_since, cursor_at}
use Rattle.resolver_model.specs.Answers.{Setting, situation_at, delivery_count, IsAtEnd}
use Rattle.resolver_model.specs.Legal.{IsLegal, Follows}
use Rattle.resolver_model.proofs.SetOrder.{set_cmp_total}
use Rattle.laws_session.specs.Laws.{IsLeastFinished}
use Rattle.laws_session.proofs.Answers.{IsAnsweredOnce-all, none_wanted}
use Rattle.laws_session.proofs.Grown.{IsTree-legal}
use Rattle.laws_session.proofs.Taken.{AreTakenOnce-tree}
use Rattle.search_core.specs.declared.jobs.Taken.{Taken}
use Rattle.search_core.specs.declared.jobs.Taken.TheVariants.{Work, Ready, Done, AllOut}
use Rattle.search_core.specs.declared.jobs.Job.{Job}
use Rattle.search_core.specs.declared.jobs.Said.{Said}
use Rattle.search_core.specs.declared.jobs.Answer.{Answer}
use Rattle.search_core.specs.declared.jobs.Answer.TheVariants as answer
use Rattle.search_core.specs.Jobs.{job_of}
use Rattle.search_core.specs.Sessions.{leaf_cmp, IsFirstLeaf, IsFree, IsWanted, IsTaken, IsAnswer, said_after}
use Rattle.search_core.proofs.Picks.{some_wanted}

leaf_total : (now : Situation) → IsTotalOrder (leaf_cmp now)
leaf_total now =
    then_total (on_total (λ (leaf : Leaf). key_of now leaf.node) nat_list_cmp_total) (then_total (on_total (λ (leaf : Leaf). leaf.node.taken) nat_list_cmp_total) (on_total (λ (leaf : Leaf). leaf.number) nat_cmp_total))

tied : (r : Ordering) → is_le r ≡ true → is_le (ordering_reverse r) ≡ true → r ≡ Equal
tied Less h k = absurd (cc)
tied Equal h k = refl
tied Greater h k = absurd (cc)

-- a kind of leaves has one first
one_first : (now : Situation) (P : Leaf → Type 0) (one other : Leaf) → IsFirstLeaf now P one → IsFirstLeaf now P other → one.number ≡ other.number
one_first now P one other h k =
    let up : is_le (leaf_cmp now one other) ≡ true = h.first other k.member k.passes in
    let down : is_le (leaf_cmp now other one) ≡ true = k.first one h.member h.passes in
    let turned : leaf_cmp now other one ≡ ordering_reverse (leaf_cmp now one other) = (leaf_total now).antisymm other one in
    let same : leaf_cmp now one other ≡ Equal = tied (leaf_cmp now one other) up (ap is_le (sym turned) ∙ down) in
    nat_cmp-IsAntisymmetric one.number other.number (then_equal (slice_cmp nat_cmp one.node.taken other.node.taken) _ (then_equal (cost_cmp (key_of now one.node) (key_of now other.node)) _ same))

-- sets that are up to one another are one
one_set : (table : Table) (a b : List ℕ) → IsUpTo table a b → IsUpTo table b a → a ≡ b
one_set table a b (inl e) k = e
one_set table a b (inr h) (inl e) = sym e
one_set table a b (inr h) (inr k) =
    let turned : set_cmp table b a ≡ ordering_reverse (set_cmp table a b) = (set_cmp_total table).antisymm b a in
    let f : Less ≡ Greater = sym k ∙ turned ∙ ap ordering_reverse h in
    absurd (cc)

one_finished : (s : Setting) (history : History) → IsLegal s history → (one other : Leaf) → IsLeastFinished (situation_at s history) one → IsLeastFinished (situation_at s history) other → one.number ≡ other.number
one_finished s history legal one other h k =
    let same = one_set s.table one.node.taken other.node.taken (h.least other k.member k.finished) (k.least one h.member h.finished) in
    ap (λ (leaf : Leaf). leaf.number) (AreTakenOnce-tree s.problem (tree_at s.problem history) (IsTree-legal s history legal) one other h.member k.member same)

-- where all are shut none is finished
none_finished : (now : Situation) (leaf : Leaf) → is_all_shut now ≡ true → IsLeastFinished now leaf → ⊥
none_finished now leaf shut h =
    let own : is_shut now leaf.node ≡ true = list_all-Member (λ (l : Leaf). is_shut now l.node) now.leaves leaf shut h.member in
    let open_leaf : is_shut now leaf.node ≡ false = not-true _ (and_parts (not (is_shut now leaf.node)) _ (and_parts (not (is_shut now leaf.node) && is_nothing_open now.problem leaf.node.taken) _ h.finished).0).0 in
    let f : true ≡ false = sym own ∙ open_leaf in
    cc

some_of : (s : Setting) (history : History) (leaf : Leaf) → IsFirstLeaf (situation_at s history) (IsWanted s history) leaf → is_some_wanted (situation_at s history) ≡ true
some_of s history leaf h = some_wanted s history leaf h.member h.passes

some_free : (s : Setting) (history : History) (leaf : Leaf) → IsFirstLeaf (situation_at s history) (IsFree s history) leaf → is_some_wanted (situation_at s history) ≡ true
some_free s history leaf h = some_wanted s history leaf h.member h.passes.0

one_work : (s : Setting) (history : History) (actor : ℕ) (job : Job) (answer : Taken) → IsTaken s history actor (Work job) → IsTaken s history actor answer → Work job ≡ answer
one_work s history actor job (Work other) h k =
    let now = situation_at s history in
    ap Work (h.2 ∙ ap (job_of s history actor) (one_first now (IsFree s history) h.0 k.0 h.1 k.1) ∙ sym k.2)
one_work s history actor job (Ready number) h k = let f : true ≡ false = sym (some_free s history h.0 h.1) ∙ k.0 in absurd (cc)
one_work s history actor job (AllOut number) h k = absurd (k.0 h.0 h.1.member h.1.passes)
one_work s history actor job Done h k = absurd (none_wanted (situation_at s history) k (some_free s history h.0 h.1))

one_ready : (s : Setting) (history : History) → IsLegal s history → (actor number : ℕ) (answer : Taken) → IsTaken s history actor (Ready number) → IsTaken s history actor answer → Ready number ≡ answer
one_ready s history legal actor number (Work job) h k = let f : true ≡ false = sym (some_free s history k.0 k.1) ∙ h.0 in absurd (cc)
one_ready s history legal actor number (Ready other) h k = ap Ready (h.1.2 ∙ one_finished s history legal h.1.0 k.1.0 h.1.1 k.1.1 ∙ sym k.1.2)
one_ready s history legal actor number (AllOut other) h k = let f : true ≡ false = sym (some_of s history k.1.0 k.1.1) ∙ h.0 in absurd (cc)
one_ready s history legal actor number Done h k = absurd (none_finished (situation_at s history) h.1.0 k h.1.1)

one_out : (s : Setting) (history : History) (actor number : ℕ) (answer : Taken) → IsTaken s history actor (AllOut number) → IsTaken s history actor answer → AllOut number ≡ answer
one_out s history actor number (Work job) h k = absurd (h.0 k.0 k.1.member k.1.passes)
one_out s history actor number (Ready other) h k = let f : true ≡ false = sym (some_of s history h.1.0 h.1.1) ∙ k.0 in absurd (cc)
one_out s history actor number (AllOut other) h k = ap AllOut (h.1.2 ∙ one_first (situation_at s history) (IsWanted s history) h.1.0 k.1.0 h.1.1 k.1.1 ∙ sym k.1.2)
one_out s history actor number Done h k = absurd (none_wanted (situation_at s history) k (some_of s history h.1.0 h.1.1))

one_done : (s : Setting) (history : History) (actor : ℕ) (answer : Taken) → IsTaken s history actor Done → IsTaken s history actor answer → Done ≡ answer
one_done s history actor (Work job) h k = absurd (none_wanted (situation_at s history) h (some_free s history k.0 k.1))
one_done s history actor (Ready other) h k = absurd (none_finished (situation_at s history) k.1.0 h k.1.1)
one_done s history actor (AllOut other) h k = absurd (none_wanted (situation_at s history) h (some_of s history k.1.0 k.1.1))
one_done s history actor Done h k = refl

pub one_taken : (s : Setting) (history : History) (actor : ℕ) (one other : Taken) → IsLegal s history → IsTaken s history actor one → IsTaken s history actor other → one ≡ other
one_taken s history actor (Work job) other legal h k = one_work s history actor job other h k
one_taken s history actor (Ready number) other legal h k = one_ready s history legal actor number other h k
one_taken s history actor (AllOut number) other legal h k = one_out s history actor number other h k
one_taken s history actor Done other legal h k = one_done s history actor other h k

-- what is said is determined by its reply
said_is : (s : Setting) (history : History) (actor : ℕ) (command : Command) (said : Said) → IsAnswer s history actor command (answer.Said said) → answer.Said said ≡ said_after (history ++ Say actor command said.reply ∷ []) said.reply
said_is s history actor command said h =
    ap (λ (n : ℕ). answer.Said (record { reply = said.reply; cursor = n; deliveries = said.deliveries })) h.1
    ∙ ap (λ (n : ℕ). answer.Said (record { reply = said.reply; cursor = cursor_at (history ++ Say actor command said.reply ∷ []); deliveries = n })) h.2

one_said : (s : Setting) (history : History) (actor : ℕ) (command : Command) (one other : Said) → IsAnswer s history actor command (answer.Said one) → IsAnswer s history actor command (answer.Said other) → answer.Said one ≡ answer.Said other
one_said s history actor command one other h k =
    said_is s history actor command one h
    ∙ ap (λ (reply : Reply). said_after (history ++ Say actor command reply ∷ []) reply) (IsAnsweredOnce-all s history actor command one.reply other.reply h.0 k.0)
    ∙ sym (said_is s history actor command other k)

-- Where a search is asked for, nothing may be said.
unsaid : (s : Setting) (history : History) (actor : ℕ) (reply : Reply) → IsAtEnd history → is_some_wanted (situation_at s history) ≡ true → puts_since actor history < s.slice → Follows s history (Say actor Next reply) → ⊥
unsaid s history actor (Solution number set false) end some few next = let lt : cursor_at history < delivery_count history = next.2.0 in let e : cursor_at history ≡ delivery_count history = end in omega (arith, lt, e)
unsaid s history actor (Solution number set true) end some few next = let f : true ≡ false = sym some ∙ next.3.0 in cc
unsaid s history actor NoMore end some few next = none_wanted (situation_at s history) next.3 some
unsaid s history actor (NotYet steps) end some few next = let le : s.slice ≤ puts_since actor history = next.2.3 in omega (arith, le, few)
unsaid s history actor reply end some few next = next.2

not_said : (s : Setting) (history : History) (actor : ℕ) (command : Command) (said : Said) → IsAnswer s history actor command (answer.Said said) → IsAnswer s history actor command answer.Search → ⊥
not_said s history actor command said h k =
    let F : Command → Type 0 = λ x. Follows s history (Say actor x said.reply) in
    unsaid s history actor said.reply k.1 k.2 k.3 (subst F k.0 h.0)

pub one_answer : (s : Setting) (history : History) (actor : ℕ) (command : Command) (one other : Answer) → IsAnswer s history actor command one → IsAnswer s history actor command other → one ≡ other
one_answer s history actor command (answer.Said one) (answer.Said other) h k = one_said s history actor command one other h k
one_answer s history actor command (answer.Said one) answer.Search h k = absurd (not_said s history actor command one h k)
one_answer s history actor command answer.Search (answer.Said other) h k = absurd (not_said s history actor command other k h)
one_answer s history actor command answer.Search answer.Search h k = refl
