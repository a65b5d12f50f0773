use Rattle.std.proofs.Common.{◌≡◌, ℕ, List, subst}
use Rattle.resolver_model.specs.declared.marks.Mark.{Mark}
use Rattle.resolver_model.specs.Rules.{Rules, AreWellFormed, set_mark}
use Rattle.resolver_model.proofs.Marking.{AreWellFormed-set_mark}
use Rattle.user_rules.proofs.rules.Rules.set.Goals as goal

-- the fields after a mark, from those before it
marked : (inside rules : Rules) (c : ℕ) (mark : Mark) (approved rejected : List ℕ) → inside ≡ rules → AreWellFormed inside → approved ≡ (set_mark rules c mark).approved → rejected ≡ (set_mark rules c mark).rejected
    → AreWellFormed (record { approved = approved; rejected = rejected; caps = inside.caps })
marked inside rules c mark approved rejected same before a r =
    let after = AreWellFormed-set_mark rules c mark (subst AreWellFormed same before) in
    record { approved = rw a after.approved; rejected = rw r after.rejected; apart = rw (a, r) after.apart; caps = before.caps }

pub invariant_of-self : goal.invariant_of-self
invariant_of-self c = marked _ _ c.args.choice c.args.mark _ _ c.self.view_is c.self.invariant c.in_ok-approved.ensures c.in_ok-rejected.ensures
