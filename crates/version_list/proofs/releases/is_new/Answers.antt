-- The first version is compared, and the others are looked for in the set.
use Rattle.std.proofs.Common.{◌<◌, length, arith}
use Rattle.std.proofs.lemmas.Bool.Decides.{nat_tests}
use Rattle.version_list.proofs.Others.{others-added}
use Rattle.version_list.proofs.releases.is_new.Goals as goal

pub returns-clause-others : goal.returns-clause-others
returns-clause-others c =
    let there : 0 < length c.args.releases.now = grind (arith, nat_tests, c.is_empty.ensures, c.if-is_empty.false) in
    others-added c.in_ok-is_new.is_new c.args.releases.now c.args.release c.args.others.now c.insert.new.self there c.requires
    c.in_ok-is_new.ensures.unchanged c.in_ok-is_new.ensures.updates.0
