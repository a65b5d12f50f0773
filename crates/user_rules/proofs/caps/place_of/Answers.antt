use Rattle.std.proofs.Common.{rules}
use Rattle.std.proofs.lemmas.List.Sorted.{answers_always}
use Rattle.resolver_model.specs.Rules.{Cap}
use Rattle.user_rules.proofs.CapPlaces.{searched}
use Rattle.user_rules.proofs.caps.place_of.Goals as goal

-- the closure gives a cap's level
pub returns : goal.returns
returns c =
    let facts = c.binary_search_by_key.ensures in
    let by_level = facts.position (λ (cap : Cap). cap.0) (answers_always _ _ _ (λ f a r g called. search rules)) in
    searched _ c.requires c.args.level _ facts.bound by_level
