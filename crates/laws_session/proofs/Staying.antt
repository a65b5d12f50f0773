-- A leaf that is out stays out until its actor ends it.
use Rattle.std.proofs.Common.{◌≡◌, ℕ, ◌++◌, [], ◌∷◌, true, false, cond, Some, None, refl, ap, sym, ◌∙◌, nat_eq, eqb-true}
use Rattle.resolver_model.specs.declared.history.Entry.{Entry}
use Rattle.resolver_model.specs.declared.history.Entry.TheVariants.{Say, Take, Put, Back}
use Rattle.resolver_model.specs.Births.{Birth}
use Rattle.resolver_model.specs.Histories.{History, out_at, out_after}
use Rattle.resolver_model.specs.Answers.{Setting}
use Rattle.resolver_model.specs.Legal.{IsLegal, Follows}
use Rattle.laws_session.specs.Laws.{is_end_by, IsKeptOut}
use Rattle.laws_session.proofs.Longer.{IsLegal-more}
use Rattle.laws_session.proofs.Effects.{out_at-more}
use Rattle.laws_session.proofs.Opened.{IsOutPlace-out, birth-kept}

out_stays : (s : Setting) (history : History) (who leaf : ℕ) (entry : Entry) → Follows s history entry → out_at who history ≡ Some leaf → is_end_by who entry ≡ false → out_after who (out_at who history) entry ≡ Some leaf
out_stays s history who leaf (Say actor command reply) next out apart = out
out_stays s history who leaf (Take actor other) next out apart =
    elim (nat_eq actor who) as (λ r. nat_eq actor who ≡ r → cond r (Some other) (out_at who history) ≡ Some leaf) [
      | true ↦ λ e.
          let idle : out_at who history ≡ None = ap (λ n. out_at n history) (sym (eqb-true actor who e)) ∙ next.1 in
          absurd (cc)
      | false ↦ λ _. out
    ] refl
out_stays s history who leaf (Put actor other by learned) next out apart = ap (λ r. cond r None (out_at who history)) apart ∙ out
out_stays s history who leaf (Back actor other) next out apart = ap (λ r. cond r None (out_at who history)) apart ∙ out

pub IsKeptOut-legal : (s : Setting) (history : History) (entry : Entry) → IsLegal s history → Follows s history entry → IsKeptOut s history entry
IsKeptOut-legal s history entry legal next who leaf out apart =
    let now = history ++ entry ∷ [] in
    let after : out_at who now ≡ Some leaf = out_at-more who history entry ∙ out_stays s history who leaf entry next out apart in
    let old = IsOutPlace-out s history who leaf legal out in
    let new = IsOutPlace-out s now who leaf (IsLegal-more s history entry legal next) after in
    (after, sym new.node ∙ ap (λ (x : Birth). x.node) (birth-kept s.problem history entry leaf old.low) ∙ old.node)
