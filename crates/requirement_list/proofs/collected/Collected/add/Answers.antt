use Rattle.std.proofs.Common.{refl, [], ◌∷◌}
use Rattle.std.proofs.lemmas.Result.{MatchResult-weaker}
use Rattle.requirement_list.specs.Fields.{requirement_of}
use Rattle.requirement_list.proofs.Collecting.{come_counted, come_put, ended_memory}
use Rattle.requirement_list.proofs.collected.Collected.add.Goals as goal

pub returns-then-self-2 : goal.returns-then-self-2
returns-then-self-2 c = come_counted (requirement_of c.args.field c.args.source c.args.targets.now) c.args.self.now _ c.if-self-2.true c.if-self.false refl

pub returns : goal.returns
returns c =
    let r = requirement_of c.args.field c.args.source c.args.targets.now in
    MatchResult-weaker c.put.result c.put.ensures (λ _ put. come_put r c.args.self.now c.put.new.self c.if-self-2.false c.if-self.false put)
    (λ end e. ended_memory (r ∷ []) c.args.self.now end e)
