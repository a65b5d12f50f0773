-- A set that no choice is against, and that is over no cap, keeps the rules.
use Rattle.std.proofs.Common.{◌≡◌, ◌≤◌, ℕ, zero, suc, false, true, arith, subst}
use Rattle.resolver_model.specs.Costs.{cost}
use Rattle.resolver_model.specs.Rules.{is_against, is_over, keeps}
use Rattle.resolver_model.specs.Histories.{rules_at, cursor_at}
use Rattle.resolver_model.specs.Answers.{delivery, shown_set, shown_cost}
use Rattle.search_core.specs.Sessions.{Session}
use Rattle.search_core.proofs.Keeping.{keeps_from}
use Rattle.search_core.proofs.session.Session.accept.Goals as goal

kept : (now : Session) (number : ℕ) → number ≡ cursor_at now.history → ((c : ℕ) → is_against (rules_at now.setting.first_rules now.history) (delivery now.history number) c ≡ false)
    → ((level : ℕ) → is_over (rules_at now.setting.first_rules now.history) (cost now.setting.table (delivery now.history number)) level ≡ false)
    → keeps (rules_at now.setting.first_rules now.history) (shown_set now.history) (shown_cost now.setting now.history) ≡ true
kept now number e against over =
    let P : ℕ → Type 0 = λ n. keeps (rules_at now.setting.first_rules now.history) (delivery now.history n) (cost now.setting.table (delivery now.history n)) ≡ true in
    subst P e (keeps_from (rules_at now.setting.first_rules now.history) (delivery now.history number) (cost now.setting.table (delivery now.history number)) against over)

some : (number cursor : ℕ) → number ≡ cursor → (number ≡ 0 → ⊥) → 1 ≤ cursor
some zero cursor e n = absurd (n (omega arith))
some (suc number) cursor e n = omega (arith, e)

pub tell-requires-2-clause-follows : goal.tell-requires-2-clause-follows
tell-requires-2-clause-follows c = (c.requires.actor, tt, (some c.cursor-number.result (cursor_at c.args.self.now.history) c.cursor-number.ensures.value (omega arith), kept c.args.self.now c.cursor-number.result c.cursor-number.ensures.value c.in_default.ensures c.in_default-over_cap.ensures), tt)
