use Rattle.std.proofs.Common.{◌≡◌, ◌<◌, ◌≤◌, ℕ, length, get_or}
use Rattle.requirement_list.specs.Conflicts.{unmet}
use Rattle.requirement_list.proofs.walk.list_unmet.Given as goal

abbrev pub invariant-loop-version : goal.invariant-loop-version
invariant-loop-version l = record {
  listed : l.targets.items ≡ unmet l.met l.first l.version;
  before : (k : ℕ) → k < l.place → get_or l.met k 0 < l.version;
  after : l.place < length l.met → l.version ≤ get_or l.met l.place 0;
}
