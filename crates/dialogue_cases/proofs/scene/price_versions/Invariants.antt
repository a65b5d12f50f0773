use Rattle.std.proofs.Common.{◌≡◌}
use Rattle.dialogue_cases.proofs.scene.price_versions.Given as goal

abbrev pub invariant-loop-version : goal.invariant-loop-version
invariant-loop-version l = l.table.choices ≡ l.fn.table.choices
