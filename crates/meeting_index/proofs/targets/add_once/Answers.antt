-- A number that is there, or one more at the end.
use Rattle.std.proofs.Common.{◌≡◌, ◌∙◌, ap, sym, refl, ℕ, List, Bool, true, false, ◌||◌, nat_eq}
use Rattle.std.proofs.lemmas.Bool.{eqb-true}
use Rattle.lists.specs.Sets.{has}
use Rattle.lists.proofs.Sets.{has-end}
use Rattle.meeting_index.proofs.CrowdLaws.{or-none}
use Rattle.meeting_index.proofs.targets.add_once.Goals as goal

there-already : (xs : List ℕ) (number c : ℕ) (b : Bool) → has xs number ≡ true → nat_eq number c ≡ b → has xs c ≡ (has xs c || b)
there-already xs number c true there same =
    let here : has xs c ≡ true = ap (has xs) (sym (eqb-true number c same)) ∙ there in
    here ∙ ap (λ b. b || true) (sym here)
there-already xs number c false there same = sym (or-none (has xs c))

pub returns-then-is_there : goal.returns-then-is_there
returns-then-is_there c = λ n. there-already c.args.numbers.now.items c.args.number n (nat_eq c.args.number n) (ap (λ xs. has xs c.args.number) (sym c.deref.ensures.value) ∙ c.is_there.ensures c.if-is_there.true) refl

pub returns : goal.returns
returns c = λ n. ap (λ xs. has xs n) c.in_ok-push.ensures.items ∙ has-end c.args.numbers.now.items c.args.number n
