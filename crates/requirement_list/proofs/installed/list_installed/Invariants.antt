use Rattle.std.proofs.Common.{◌≤◌, length, map, take}
use Rattle.universe_parts.specs.Listed.{version_listed}
use Rattle.requirement_list.specs.Installed.{AreInstalled}
use Rattle.requirement_list.proofs.installed.list_installed.Given as goal

abbrev pub invariant-loop-number : goal.invariant-loop-number
invariant-loop-number l = record {
  installed : AreInstalled l.problem.starts (map version_listed (take l.number l.versions)) (map version_listed l.kept.items);
  few : length l.kept.items ≤ l.number;
}
