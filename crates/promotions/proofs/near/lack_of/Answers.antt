use Rattle.std.proofs.Common.{◌∙◌, ap, sym, ℕ, List}
use Rattle.promotions.specs.declared.near.Lack.TheVariants.{Nothing}
use Rattle.promotions.specs.Nearness.{lack_from, makes_up}
use Rattle.promotions.proofs.Lacks.{subset_makes_up}
use Rattle.promotions.proofs.near.lack_of.Goals as goal

pub returns : goal.returns
returns c =
    λ n.
    let same = c.lack_in.ensures ∙ ap (λ (xs : List ℕ). lack_from xs Nothing c.as_slice.result.now) c.as_slice-2.ensures.items ∙ ap (λ (xs : List ℕ). lack_from c.args.set.now Nothing xs) c.as_slice.ensures.items in
    subset_makes_up c.args.part.now c.args.set.now n c.as_slice.ensures.rising ∙ sym (ap (λ lack. makes_up lack n) same)
