use Rattle.std.proofs.Common.{◌<◌, ℕ, get_or}
use Rattle.meeting_index.specs.Crowds.{ArePut, AreRight, BeginsCrowd, HasCrowd}
use Rattle.meeting_index.specs.Provided.{carriers_listed}
use Rattle.meeting_index.specs.declared.named.Name.{Name}
use Rattle.meeting_index.specs.declared.named.Named.{Named}
use Rattle.meeting_index.proofs.crowds.crowd_others.Given as goal

-- the crowds so far are right, the names so far that begin a crowd have theirs, and all that there were stay
abbrev pub invariant-loop-place : goal.invariant-loop-place
invariant-loop-place l = record {
  right : AreRight (carriers_listed l.carriers) l.named l.crowds;
  there : (k : ℕ) (d : Named) → k < l.place → BeginsCrowd l.named.others.names.items k → ArePut (carriers_listed l.carriers) l.named l.crowds (get_or l.named.others.names.items k d).bytes.now;
  stay : (other : Name) → HasCrowd (carriers_listed l.carriers) l.named l.initial.crowds other → HasCrowd (carriers_listed l.carriers) l.named l.crowds other;
}
