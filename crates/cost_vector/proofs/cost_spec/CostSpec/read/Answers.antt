use Rattle.std.proofs.Common.{◌≡◌, ◌<◌, length, refl, sym, ◌∙◌, Some, None, arith}
use Rattle.std.proofs.lemmas.Bool.{eqb-false}
use Rattle.cost_vector.specs.Grammar.{spec_of}
use Rattle.cost_vector.proofs.Readings.{none_when_none, none_when_left, longest_start}
use Rattle.cost_vector.proofs.cost_spec.CostSpec.read.Goals as goal

pub returns-else-is_empty : goal.returns-else-is_empty
returns-else-is_empty c =
    let filled : length c.levels.new.self.rest.now ≡ 0 → ⊥ = eqb-false (length c.levels.new.self.rest.now) 0 (sym c.is_empty.ensures ∙ c.if-is_empty.false) in
    let left : 0 < length c.levels.new.self.rest.now = omega (arith, filled) in
    rw c.fault_before.ensures (none_when_left spec_of c.args.text.now c.levels.new.self.rest.now (Some c.in-Ok.levels) c.in-Ok.ensures left, longest_start spec_of c.args.text.now c.levels.new.self.rest.now (Some c.in-Ok.levels) _ c.in-Ok.ensures refl)

pub returns-in-Err-Fault : goal.returns-in-Err-Fault
returns-in-Err-Fault c =
    let read = rw c.in-Err-Fault.field-0-is at c.in-Err-Fault.ensures in
    rw c.fault_before-in-Err-Fault.ensures (none_when_none spec_of c.args.text.now c.levels.new.self.rest.now read, longest_start spec_of c.args.text.now c.levels.new.self.rest.now None _ read refl)
