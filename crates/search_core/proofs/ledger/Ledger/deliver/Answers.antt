-- The delivery may stand there, and room was kept for it.
use Rattle.std.proofs.Common.{◌≡◌, List, ℕ, subst, sym, set, true, false, get_or}
use Rattle.resolver_model.specs.Legal.{Follows}
use Rattle.resolver_model.specs.Costs.{cost}
use Rattle.resolver_model.specs.declared.history.Command.TheVariants.{Next}
use Rattle.resolver_model.specs.declared.history.Reply.TheVariants.{Solution}
use Rattle.resolver_model.specs.declared.history.Entry.TheVariants.{Say}
use Rattle.search_core.specs.Kept.{Log, IsLedger, with_kept_entry}
use Rattle.search_core.specs.Sessions.{Session, setting_of}
use Rattle.search_core.proofs.Counted.{IsLedger-fresh}
use Rattle.search_core.proofs.ledger.Ledger.deliver.Goals as goal

pub invariant_of-self-2 : goal.invariant_of-self-2
invariant_of-self-2 c =
    let i = c.self.inside in
    let s = setting_of i.basis.value.problem i.basis.value.table i.first_rules i.slice i.actors in
    let P : Session → Type 0 = λ x. Follows x.setting x.history (Say c.args.actor Next (Solution c.args.number c.args.choices true)) in
    let R : Session → Type 0 = λ x. get_or x.rooms c.args.actor false ≡ true in
    let D : Session → Type 0 = λ x. c.args.cost ≡ cost x.setting.table c.args.choices in
    let L : Log → List (List ℕ) → Type 0 = λ log costs. IsLedger s log (set i.rooms.items c.args.actor false) i.outs.items c.args.number (set i.puts.items c.args.actor 0) costs i.ways.items in
    let M : Log → Type 0 = λ log. L log c.push.new.self.items in
    let N : List (List ℕ) → Type 0 = λ costs. L (with_kept_entry i.log (Say c.args.actor Next (Solution c.args.number c.args.choices true))) costs in
    subst M (sym c.add.ensures) (subst N (sym c.in-Ok.ensures.items) (IsLedger-fresh s i.log i.rooms.items i.outs.items i.cursor i.puts.items i.costs.items i.ways.items c.args.actor c.args.number c.args.choices c.args.cost c.self.invariant (subst P (sym c.self.view_is) c.requires.follows) (subst R (sym c.self.view_is) c.requires.room) (subst D (sym c.self.view_is) c.requires.dear)))
