use Rattle.std.proofs.Common.{arith, ◌≤◌}
use Rattle.problem.specs.Places.{absent_of, end_of}
use Rattle.problem.proofs.Ranges.{absent-le-end}
use Rattle.requirement_list.proofs.Unmet.{are_left}
use Rattle.requirement_list.proofs.walk.list_left.Goals as goal

pub list_unmet-requires-clause-order : goal.list_unmet-requires-clause-order
list_unmet-requires-clause-order c =
    let le : absent_of c.args.problem.now c.args.package ≤ end_of c.args.problem.now c.args.package = absent-le-end c.args.problem.now c.versions-versions.ensures.formed c.args.package c.requires.range in
    omega (arith, c.absent_of-first.ensures.absent, c.end_of-end.ensures.end)

pub returns : goal.returns
returns c = are_left c.args.problem.now c.args.met.now c.args.package _ _ _ c.absent_of-first.ensures.absent c.end_of-end.ensures.end c.in_ok-list_unmet.ensures
