use Rattle.std.proofs.Common.{arith, ◌∙◌}
use Rattle.apt_base.proofs.Cuts.{last_dropped, last_kept}
use Rattle.apt_base.proofs.lines.drop_return.Goals as goal

pub returns-then-index-eq13 : goal.returns-then-index-eq13
returns-then-index-eq13 c =
    c.truncate.ensures.items ∙ last_dropped c.args.line.now.items c.len-length.result c.index.result.now (omega (arith, c.args.line.now.ok.0)) c.if-length-eq0.false c.index.ensures c.if-index-eq13.true

pub returns-else-index-eq13 : goal.returns-else-index-eq13
returns-else-index-eq13 c =
    last_kept c.args.line.now.items c.len-length.result c.index.result.now (omega (arith, c.args.line.now.ok.0)) c.if-length-eq0.false c.index.ensures c.if-index-eq13.false
