use Rattle.std.proofs.Common.{◌≡◌, drop}
use Rattle.wanted.specs.Wanting.{with_actions}
use Rattle.wanted.proofs.starts.write_versions.Given as goal

-- those behind are written
abbrev pub invariant-loop-place : goal.invariant-loop-place
invariant-loop-place l = l.starts.items ≡ with_actions (drop l.place l.actions) l.initial.starts.items
