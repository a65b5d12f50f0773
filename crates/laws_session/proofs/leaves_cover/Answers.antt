use Rattle.resolver_model.specs.Trees.{tree_at}
use Rattle.laws_session.proofs.Effects.{tree_at-kept}
use Rattle.laws_session.proofs.Marks.{freed_both}
use Rattle.laws_session.proofs.Taken.{AreTakenOnce-tree}
use Rattle.laws_session.proofs.Grown.{IsTree-legal, IsWithinOneLeaf-tree}
use Rattle.laws_session.proofs.leaves_cover.Goals as goal

pub returns-clause-tree : goal.returns-clause-tree
returns-clause-tree c = IsTree-legal

pub returns-clause-one : goal.returns-clause-one
returns-clause-one c s history legal = IsWithinOneLeaf-tree s.problem (tree_at s.problem history) (IsTree-legal s history legal)

pub returns-clause-kept : goal.returns-clause-kept
returns-clause-kept c = tree_at-kept

pub returns-clause-freed : goal.returns-clause-freed
returns-clause-freed c = freed_both

pub returns-clause-taken : goal.returns-clause-taken
returns-clause-taken c s history legal = AreTakenOnce-tree s.problem (tree_at s.problem history) (IsTree-legal s history legal)
