-- The job is out, the outcome is its split, and what it learned follows from what was known.
use Rattle.std.proofs.Common.{◌≡◌, List, ap, sym, subst, ◌∙◌, map}
use Rattle.resolver_model.specs.declared.lines.Line.{Line}
use Rattle.resolver_model.specs.declared.history.By.{By}
use Rattle.resolver_model.specs.declared.history.Entry.TheVariants.{Put}
use Rattle.resolver_model.specs.Problems.{Problem}
use Rattle.resolver_model.specs.Costs.{Table}
use Rattle.resolver_model.specs.Trees.{split}
use Rattle.resolver_model.specs.declared.node.Node.{Node}
use Rattle.resolver_model.specs.Rules.{Rules}
use Rattle.std.proofs.Common.{ℕ}
use Rattle.resolver_model.specs.Births.{birth, births_at}
use Rattle.resolver_model.specs.Histories.{History}
use Rattle.resolver_model.specs.Answers.{Setting}
use Rattle.resolver_model.specs.Legal.{CanSplit, Follows, IsLegal}
use Rattle.laws_session.proofs.Opened.{IsOutPlace-out}
use Rattle.search_core.specs.Climbs.{IsClimbable, IsLearned}
use Rattle.laws_session.proofs.Hands.{AreHandsApart-legal}
use Rattle.frontier.specs.declared.children.Child.{Child}
use Rattle.frontier.specs.Stores.{Store, AreCosted, with_children}
use Rattle.search_core.specs.Ways.{way}
use Rattle.search_core.specs.declared.jobs.Job.{Job}
use Rattle.search_core.specs.declared.jobs.Outcome.{Outcome}
use Rattle.search_core.specs.Jobs.{IsOut, child, outcome_of}
use Rattle.resolver_model.specs.Learning.{LearnsUpwards}
use Rattle.search_core.specs.Sessions.{Session, with_entry, IsFor, IsPut}
use Rattle.search_core.specs.Known.{IsKnown}
use Rattle.search_core.proofs.Ways.{Follows-put}
use Rattle.search_core.proofs.Known.{held_out, AreCosted-children, IsKnown-split}
use Rattle.search_core.proofs.session.Session.put.Goals as goal

-- what is said of the session is said of what it keeps
out_inside : (inside now : Session) (job : Job) → inside ≡ now → IsOut now.setting now.history job → IsOut inside.setting inside.history job
out_inside inside now job e h = let P : Session → Type 0 = λ x. IsOut x.setting x.history job in subst P (sym e) h

problem_inside : (inside now : Session) (p : Problem) → inside ≡ now → now.setting.problem ≡ p → p ≡ inside.setting.problem
problem_inside inside now p e h = sym (ap (λ (x : Session). x.setting.problem) e ∙ h)

table_inside : (inside now : Session) (t : Table) → inside ≡ now → now.setting.table ≡ t → t ≡ inside.setting.table
table_inside inside now t e h = sym (ap (λ (x : Session). x.setting.table) e ∙ h)

children_are : (p q : Problem) (t own : Table) (job : Job) (outcome : Outcome) → outcome ≡ outcome_of p t job → p ≡ q → t ≡ own → outcome.children ≡ map (child q own) (split q job.node (way q job.node job.choice))
children_are p q t own job outcome e f g =
    ap (λ (x : Outcome). x.children) e ∙ ap (λ x. map (child x t) (split x job.node (way x job.node job.choice))) f ∙ ap (λ x. map (child q x) (split q job.node (way q job.node job.choice))) g

by_is : (p q : Problem) (t : Table) (job : Job) (outcome : Outcome) → outcome ≡ outcome_of p t job → p ≡ q → outcome.by ≡ way q job.node job.choice
by_is p q t job outcome e f = ap (λ (x : Outcome). x.by) e ∙ ap (λ x. way x job.node job.choice) f

pub put_children-requires-clause-held : goal.put_children-requires-clause-held
put_children-requires-clause-held c =
    let i = c.self.inside in
    held_out i.ledger i.frontier i.rules i.given.items i.learned c.args.job.actor c.args.job.leaf c.self.invariant (out_inside i.ledger c.args.self.now c.args.job c.self.view_is c.requires.job).leaf

pub put_children-requires-clause-costs : goal.put_children-requires-clause-costs
put_children-requires-clause-costs c =
    let i = c.self.inside in
    let s = i.ledger.setting in
    let job = c.args.job in
    let same = problem_inside i.ledger c.args.self.now c.args.basis.now.problem c.self.view_is c.requires.basis.same_problem in
    let same_table = table_inside i.ledger c.args.self.now c.args.basis.now.table c.self.view_is c.requires.basis.same_table in
    let C : List Child → Type 0 = λ cs. AreCosted s.table cs in
    let T : Table → Type 0 = λ t. AreCosted t c.args.outcome.children in
    let are = children_are c.args.basis.now.problem s.problem c.args.basis.now.table s.table job c.args.outcome c.requires.outcome same same_table in
    subst T (sym c.self.invariant.table) (subst C (sym are) (AreCosted-children s.problem s.table (split s.problem job.node (way s.problem job.node job.choice))))

-- the world in which the split learns
world : (inside now : Session) (st : Store) (rules : Rules) (given : List (List ℕ)) (learned : List Line) (p : Problem) (t : Table) → inside ≡ now → IsKnown inside st rules given learned → IsFor now p t → IsClimbable inside.setting inside.history p t st
world inside now st rules given learned p t e k for =
    let F : Session → Type 0 = λ x. IsFor x p t in
    let own = subst F (sym e) for in
    record { setting = k.setting; legal = k.legal; places = k.places; same_problem = own.same_problem; same_table = own.same_table }

-- the leaf of the job, and the way that it is split
can_split : (s : Setting) (history : History) (job : Job) (by : By) → IsLegal s history → IsOut s history job → by ≡ way s.problem job.node job.choice → CanSplit s.problem (birth (births_at s.problem history) job.leaf).node by
can_split s history job by legal out e =
    let place = IsOutPlace-out s history job.actor job.leaf legal out.leaf in
    let N : Node → Type 0 = λ node. CanSplit s.problem node (way s.problem job.node job.choice) in
    let B : By → Type 0 = λ b. CanSplit s.problem (birth (births_at s.problem history) job.leaf).node b in
    subst B (sym e) (subst N (out.node ∙ sym place.node) out.can.way)

pub learn-requires-clause-world : goal.learn-requires-clause-world
learn-requires-clause-world c = let i = c.self.inside in world i.ledger c.args.self.now i.frontier i.rules i.given.items i.learned c.args.basis.now.problem c.args.basis.now.table c.self.view_is c.self.invariant c.requires.basis

pub learn-requires-clause-leaf : goal.learn-requires-clause-leaf
learn-requires-clause-leaf c = let i = c.self.inside in (IsOutPlace-out i.ledger.setting i.ledger.history c.args.job.actor c.args.job.leaf c.self.invariant.legal (out_inside i.ledger c.args.self.now c.args.job c.self.view_is c.requires.job).leaf).low

pub learn-requires-clause-way : goal.learn-requires-clause-way
learn-requires-clause-way c =
    let i = c.self.inside in
    let same = problem_inside i.ledger c.args.self.now c.args.basis.now.problem c.self.view_is c.requires.basis.same_problem in
    can_split i.ledger.setting i.ledger.history c.args.job c.args.outcome.by c.self.invariant.legal (out_inside i.ledger c.args.self.now c.args.job c.self.view_is c.requires.job) (by_is c.args.basis.now.problem i.ledger.setting.problem c.args.basis.now.table c.args.job c.args.outcome c.requires.outcome same)

follows : (s : Setting) (history : History) (job : Job) (by : By) (lines : List Line) → IsLegal s history → IsOut s history job → by ≡ way s.problem job.node job.choice → IsLearned s history job.leaf by lines → Follows s history (Put job.actor job.leaf by lines)
follows s history job by lines legal out e learned =
    let B : By → Type 0 = λ b. Follows s history (Put job.actor job.leaf b lines) in
    let low = (AreHandsApart-legal s history legal).actors job.actor job.leaf out.leaf in
    subst B (sym e) (Follows-put s history job lines low out learned.derived)

pub end_by_split-requires-clause-follows : goal.end_by_split-requires-clause-follows
end_by_split-requires-clause-follows c =
    let i = c.self.inside in
    let same = problem_inside i.ledger c.args.self.now c.args.basis.now.problem c.self.view_is c.requires.basis.same_problem in
    follows i.ledger.setting i.ledger.history c.args.job c.args.outcome.by c.in-Ok.lines c.self.invariant.legal (out_inside i.ledger c.args.self.now c.args.job c.self.view_is c.requires.job) (by_is c.args.basis.now.problem i.ledger.setting.problem c.args.basis.now.table c.args.job c.args.outcome c.requires.outcome same) c.in-Ok.ensures.ok

pub end_by_split-requires-clause-learns : goal.end_by_split-requires-clause-learns
end_by_split-requires-clause-learns c = c.in-Ok.ensures.ok.learns c.args.job.actor

pub invariant_of-self-in-Ok-put_children : goal.invariant_of-self-in-Ok-put_children
invariant_of-self-in-Ok-put_children c =
    let i = c.self.inside in
    let s = i.ledger.setting in
    let job = c.args.job in
    let lines = c.in-Ok.lines in
    let out = out_inside i.ledger c.args.self.now job c.self.view_is c.requires.job in
    let same = problem_inside i.ledger c.args.self.now c.args.basis.now.problem c.self.view_is c.requires.basis.same_problem in
    let same_table = table_inside i.ledger c.args.self.now c.args.basis.now.table c.self.view_is c.requires.basis.same_table in
    let K : Session → Store → List Line → Type 0 = λ x st learned. IsKnown x st i.rules i.given.items learned in
    let X : Session → Type 0 = λ x. K x c.put_children.new.self c.learn.new.learned in
    let S : Store → Type 0 = λ st. K (with_entry i.ledger (Put job.actor job.leaf (way s.problem job.node job.choice) lines)) st c.learn.new.learned in
    let L : List Line → Type 0 = λ learned. K (with_entry i.ledger (Put job.actor job.leaf (way s.problem job.node job.choice) lines)) (with_children i.frontier job.leaf c.args.outcome.children) learned in
    let entry : c.end_by_split.new.self ≡ with_entry i.ledger (Put job.actor job.leaf (way s.problem job.node job.choice) lines) = c.end_by_split.ensures ∙ ap (λ by. with_entry i.ledger (Put job.actor job.leaf by lines)) (by_is c.args.basis.now.problem s.problem c.args.basis.now.table job c.args.outcome c.requires.outcome same) in
    subst X (sym entry) (subst S (sym c.in-Ok-put_children.ensures) (subst L (sym c.in-Ok.ensures.all) (IsKnown-split i.ledger i.frontier i.rules i.given.items i.learned job c.args.outcome.children lines c.self.invariant out (children_are c.args.basis.now.problem s.problem c.args.basis.now.table s.table job c.args.outcome c.requires.outcome same same_table) c.in-Ok.ensures.ok.derived)))

-- what was put is said of the session as it was
put_is : (old now new : Session) (job : Job) (by : By) (lines : List Line) → old ≡ now → by ≡ way old.setting.problem job.node job.choice → new ≡ with_entry old (Put job.actor job.leaf by lines)
    → LearnsUpwards old.setting old.history (Put job.actor job.leaf by lines) → Follows old.setting old.history (Put job.actor job.leaf by lines) → IsPut now job new
put_is old now new job by lines e same grown learns next =
    let B : By → Type 0 = λ b. (new ≡ with_entry old (Put job.actor job.leaf b lines)) × LearnsUpwards old.setting old.history (Put job.actor job.leaf b lines) × Follows old.setting old.history (Put job.actor job.leaf b lines) in
    let I : Session → Type 0 = λ x. IsPut x job new in
    subst I e (lines, subst B same (grown, learns, next))

pub returns-in-Ok-put_children-clause-ok : goal.returns-in-Ok-put_children-clause-ok
returns-in-Ok-put_children-clause-ok c =
    let i = c.self.inside in
    let out = out_inside i.ledger c.args.self.now c.args.job c.self.view_is c.requires.job in
    let same = problem_inside i.ledger c.args.self.now c.args.basis.now.problem c.self.view_is c.requires.basis.same_problem in
    let by = by_is c.args.basis.now.problem i.ledger.setting.problem c.args.basis.now.table c.args.job c.args.outcome c.requires.outcome same in
    put_is i.ledger c.args.self.now c.end_by_split.new.self c.args.job c.args.outcome.by c.in-Ok.lines c.self.view_is by c.end_by_split.ensures (c.in-Ok.ensures.ok.learns c.args.job.actor) (follows i.ledger.setting i.ledger.history c.args.job c.args.outcome.by c.in-Ok.lines c.self.invariant.legal out by c.in-Ok.ensures.ok)
