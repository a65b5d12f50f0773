use Rattle.std.proofs.Common.{◌≡◌, ◌<◌, ◌++◌, ℕ, map}
use Rattle.dep_fields.specs.Relationships.{meaning}
use Rattle.requirement_list.specs.Settings.{setting_in}
use Rattle.requirement_list.specs.Answers.{left_by, row_of}
use Rattle.requirement_list.proofs.Concerned.{packages_from, owner_at}
use Rattle.requirement_list.proofs.walk.list_met.Given as goal

abbrev pub invariant-loop-place : goal.invariant-loop-place
invariant-loop-place l =
    let s = setting_in l.index l.problem in
    let item = meaning l.fn.item in
    record {
      listed : l.listed ++ map (left_by s item l.extent) (packages_from s item l.next) ≡ row_of s item l.extent;
      passed : (k : ℕ) → k < l.place → owner_at s item k < l.next;
    }
