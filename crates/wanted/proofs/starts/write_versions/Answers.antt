use Rattle.std.proofs.Common.{◌∙◌, ◌-◌, ap, sym, arith, set, drop, get_or}
use Rattle.std.proofs.Math.Seq.{drop-length}
use Rattle.wanted.specs.declared.Action.{Action}
use Rattle.wanted.specs.Wanting.{with_actions}
use Rattle.wanted.proofs.Started.{drop-before, none-written, written}
use Rattle.wanted.proofs.starts.write_versions.Goals as goal

pub loop-place-init : goal.loop-place-init
loop-place-init c =
    none-written c.args.starts.now.items ∙ ap (λ actions. with_actions actions c.args.starts.now.items) (sym (drop-length c.args.actions.now))

pub loop-place-preserved : goal.loop-place-preserved
loop-place-preserved c =
    let actions = c.args.actions.now in
    let place = c.loop-place.place in
    let starts = c.args.starts.now.items in
    let nothing : Action = record { package_number = 0; version = 0 } in
    let action : Action = get_or actions (place - 1) nothing in
    ap (λ xs. set xs action.package_number action.version) c.loop-place.invariant
    ∙ written (drop place actions) action starts
    ∙ ap (λ rest. with_actions rest starts) (drop-before actions place nothing (omega arith) (omega arith))
