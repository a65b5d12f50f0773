use Rattle.std.proofs.Common.{rules, ◌≡◌, suc, length, ap, arith}
use Rattle.user_rules.specs.Merging.{marks_in}
use Rattle.user_rules.proofs.Merges.{next_rejected, next_approved, next_less, next_greater, next_equal}
use Rattle.user_rules.proofs.marked.MarkedIterator.next.Goals as goal

pub returns-in-None-Some-clause-steps : goal.returns-in-None-Some-clause-steps
returns-in-None-Some-clause-steps c = next_rejected _ _ _ _ c.in-None-Some.ensures.cases c.in-None-Some.ensures'.cases.0 c.args.self.now.rejected_rise

pub returns-in-None-Some-clause-goes : goal.returns-in-None-Some-clause-goes
returns-in-None-Some-clause-goes c =
    let fewer : length (marks_in c.args.self.now.approved.now c.args.self.now.rejected.now) ≡ suc (length (marks_in c.args.self.now.approved.now c.in-None-Some.others.now)) = ap length (next_rejected _ _ _ _ c.in-None-Some.ensures.cases c.in-None-Some.ensures'.cases.0 c.args.self.now.rejected_rise) in
    search rules

pub returns-in-Some-None-clause-steps : goal.returns-in-Some-None-clause-steps
returns-in-Some-None-clause-steps c = next_approved _ _ _ _ c.in-Some-None.ensures'.cases c.in-Some-None.ensures.cases.0 c.args.self.now.approved_rise

pub returns-then-left-right-clause-steps : goal.returns-then-left-right-clause-steps
returns-then-left-right-clause-steps c = next_less _ _ _ _ _ _ c.in-Some-Some.ensures.cases.0 c.in-Some-Some.ensures'.cases.0 c.args.self.now.approved_rise c.args.self.now.rejected_rise c.if-left-right.true

pub returns-then-left-right-clause-goes : goal.returns-then-left-right-clause-goes
returns-then-left-right-clause-goes c =
    let fewer : length (marks_in c.args.self.now.approved.now c.args.self.now.rejected.now) ≡ suc (length (marks_in c.in-Some-Some.approved.now c.args.self.now.rejected.now)) = ap length (next_less _ _ _ _ _ _ c.in-Some-Some.ensures.cases.0 c.in-Some-Some.ensures'.cases.0 c.args.self.now.approved_rise c.args.self.now.rejected_rise c.if-left-right.true) in
    search rules

pub returns-then-right-left-clause-steps : goal.returns-then-right-left-clause-steps
returns-then-right-left-clause-steps c = next_greater _ _ _ _ _ _ c.in-Some-Some.ensures.cases.0 c.in-Some-Some.ensures'.cases.0 c.args.self.now.approved_rise c.args.self.now.rejected_rise c.if-right-left.true

pub returns-then-right-left-clause-goes : goal.returns-then-right-left-clause-goes
returns-then-right-left-clause-goes c =
    let fewer : length (marks_in c.args.self.now.approved.now c.args.self.now.rejected.now) ≡ suc (length (marks_in c.args.self.now.approved.now c.in-Some-Some.rejected.now)) = ap length (next_greater _ _ _ _ _ _ c.in-Some-Some.ensures.cases.0 c.in-Some-Some.ensures'.cases.0 c.args.self.now.approved_rise c.args.self.now.rejected_rise c.if-right-left.true) in
    search rules

pub returns-else-right-left-clause-steps : goal.returns-else-right-left-clause-steps
returns-else-right-left-clause-steps c = next_equal _ _ _ _ _ _ c.in-Some-Some.ensures.cases.0 c.in-Some-Some.ensures'.cases.0 c.args.self.now.approved_rise c.args.self.now.rejected_rise (omega arith)

pub returns-else-right-left-clause-goes : goal.returns-else-right-left-clause-goes
returns-else-right-left-clause-goes c =
    let fewer : length (marks_in c.args.self.now.approved.now c.args.self.now.rejected.now) ≡ suc (length (marks_in c.in-Some-Some.approved.now c.in-Some-Some.rejected.now)) = ap length (next_equal _ _ _ _ _ _ c.in-Some-Some.ensures.cases.0 c.in-Some-Some.ensures'.cases.0 c.args.self.now.approved_rise c.args.self.now.rejected_rise (omega arith)) in
    search rules
