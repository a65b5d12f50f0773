use Rattle.std.proofs.Common.{◌≡◌, drop}
use Rattle.std.specs.List.{list_any}
use Rattle.requirement_list.specs.Extents.{lists}
use Rattle.requirement_list.proofs.answers.Extent.lists_one.Given as goal

-- those of none so far
abbrev pub invariant-loop-package : goal.invariant-loop-package
invariant-loop-package l = list_any (lists l.self) (drop l.package-index l.packages) ≡ list_any (lists l.self) l.packages
