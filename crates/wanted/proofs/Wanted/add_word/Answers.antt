use Rattle.std.proofs.Common.{refl, sym, subst}
use Rattle.std.proofs.lemmas.List.Elements.{All-push}
use Rattle.wanted.specs.Wanting.{IsActionOf, IsOf}
use Rattle.wanted.proofs.Wanted.add_word.Goals as goal

pub returns-clause-own : goal.returns-clause-own
returns-clause-own c =
    let action = c.in-Some.action in
    subst (IsOf c.args.universe.now) (sym c.in_ok-add.ensures)
    (All-push (IsActionOf c.args.universe.now) c.args.self.now action c.requires (c.in-Some.ensures.own action refl))
