-- A legal history by hand, so that the laws speak of something. A package is installed at version 1, which needs what no version
-- gives; the one repair is to remove it. An actor takes leaf 0, splits it, and the next request is answered with that repair.
use Rattle.std.proofs.Common.{inl, inr, ◌≡◌, ℕ, [], ◌∷◌, true, false, Some, None, refl, ap, sym, arith}
use Rattle.resolver_model.specs.declared.history.By.TheVariants.{Dep}
use Rattle.resolver_model.specs.declared.history.Command.TheVariants.{Next}
use Rattle.resolver_model.specs.declared.history.Reply.TheVariants.{Solution}
use Rattle.resolver_model.specs.declared.history.Entry.TheVariants.{Say, Take, Put}
use Rattle.resolver_model.specs.Problems.{Problem}
use Rattle.resolver_model.specs.Costs.{IsUpTo}
use Rattle.resolver_model.specs.Rules.{no_rules}
use Rattle.resolver_model.specs.Trees.{Leaf, root}
use Rattle.resolver_model.specs.Histories.{History}
use Rattle.resolver_model.specs.Answers.{Setting, situation_at}
use Rattle.resolver_model.specs.Legal.{IsLegal}
use Rattle.laws_session.specs.Laws.{IsLeastFinished}
use Rattle.laws_session.proofs.Longer.{IsLegal-none, IsLegal-more}
use Rattle.laws_session.proofs.Covered.{AreLeavesTrue-legal}

abbrev one_package : Problem
one_package = record { owners = 0 ∷ 0 ∷ []; starts = 1 ∷ []; dependencies = record { source = 1; targets = []; soft = false } ∷ [] }

abbrev setting : Setting
setting = record { problem = one_package; table = record { choices = 3; levels = [] }; first_rules = no_rules; slice = 1; actors = 1 }

abbrev taken : History
taken = Take 0 0 ∷ []

abbrev split_up : History
split_up = Take 0 0 ∷ Put 0 0 (Dep 0) [] ∷ []

abbrev removal : Leaf
removal = record { number = 1; node = record { taken = 0 ∷ []; barred = [] } }

taken_legal : IsLegal setting taken
taken_legal = IsLegal-more setting [] (Take 0 0) (IsLegal-none setting) (omega arith, refl, λ actor e. nobody e, (0, record { number = 0; node = root }, omega arith, refl, (refl, refl)))
  where
    nobody : {leaf : ℕ} → None ≡ Some leaf → ⊥
    nobody e = cc

split_legal : IsLegal setting split_up
split_legal = IsLegal-more setting taken (Put 0 0 (Dep 0) []) taken_legal (omega arith, refl, (omega arith, refl), tt)

least : IsLeastFinished (situation_at setting split_up) removal
least = record {
  member = inl refl;
  finished = refl;
  least = λ other m h. elim m as (λ _. IsUpTo setting.table (0 ∷ []) other.node.taken) [ inl e ↦ inl (ap (λ (l : Leaf). l.node.taken) (sym e)) | inr nothing ↦ absurd nothing ];
}

pub answered_legal : IsLegal setting (Take 0 0 ∷ Put 0 0 (Dep 0) [] ∷ Say 0 Next (Solution 1 (0 ∷ []) true) ∷ [])
answered_legal =
    IsLegal-more setting split_up (Say 0 Next (Solution 1 (0 ∷ []) true)) split_legal
    (omega arith, tt, (refl, refl, (AreLeavesTrue-legal setting split_up split_legal).first removal refl least), (refl, (0, removal, omega arith, refl, (refl, refl))))
