use Rattle.std.proofs.Common.{sym, arith}
use Rattle.std.proofs.lemmas.List.Quantifiers.{position-Some}
use Rattle.universe_model.specs.Tokens.{is_recommends_of}
use Rattle.universe_model.specs.Universes.{no_requirement}
use Rattle.universe.proofs.Kept.{count-same}
use Rattle.universe.proofs.Universe.number_said.Goals as goal

pub overflow_add-result : goal.overflow_add-result
overflow_add-result c =
    let at = position-Some (is_recommends_of c.args.version c.in-Group.place) c.args.self.now.requirements c.in_ok-dep-in-Group.dep no_requirement (sym c.in_ok-dep-in-Group.ensures) in
    omega (arith, at.0, count-same c.self.inside c.args.self.now c.self.view_is c.self.invariant, c.versions.ensures.formed.small, c.versions.ensures.count)
