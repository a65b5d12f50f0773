-- Which refusal is the first.
use Rattle.std.proofs.Common.{inl, inr, ◌≡◌, ℕ, List, Option, None, sym, ap, ap₂, subst, ◌∙◌}
use Rattle.std.specs.Option.{option_or}
use Rattle.hint_effects.specs.Effects.{rules_of}
use Rattle.hint_effects.specs.declared.Hint.{Hint}
use Rattle.hint_file.specs.CostNames.{Scene, scene}
use Rattle.hint_file.specs.Hinting.{hints_of, lines_of}
use Rattle.hint_file.specs.Prices.{table_of}
use Rattle.resolve_words.specs.Given.{Given}
use Rattle.resolver_model.specs.Problems.{Problem}
use Rattle.run_status.specs.declared.Status.{Status}
use Rattle.sources.specs.Sources.{Sources}
use Rattle.universe_model.specs.Universes.{Universe, problem_from}
use Rattle.wanted.specs.Wanting.{actions_of, starts_with}
use Rattle.wanted.specs.declared.Action as wanted
use Rattle.grounds.specs.declared.making.Ground.{Ground}
use Rattle.grounds.specs.Grounds.{texts_of, universe_of, hints_in, actions_in, problem_of, levels_of, scene_of, text_refusal, hint_refusal, action_refusal, price_refusal, refusal, IsRefused, IsGround}

-- the first of two refuses,
here : (first rest : Option Status) (status : Status) → IsRefused first status → IsRefused (option_or first rest) status
here first rest status refused = elim refused [
  | inl memory ↦ inl memory
  | inr is ↦ inr (ap (λ (o : Option Status). option_or o rest) is)
]

-- or it does not, and the other one may
later : (first rest : Option Status) (status : Status) → first ≡ None → IsRefused rest status → IsRefused (option_or first rest) status
later first rest status none refused = subst (λ (o : Option Status). IsRefused (option_or o rest) status) (sym none) refused

none-of : (first rest : Option Status) → first ≡ None → rest ≡ None → option_or first rest ≡ None
none-of first rest none no_more = ap (λ (o : Option Status). option_or o rest) none ∙ no_more

module _ (g : Given) (s : Sources) (u : Universe) (text : List ℕ) (words : List (List ℕ)) (read : text_refusal (texts_of g s) ≡ None) (universe_is : u ≡ universe_of g s) (text_is : text ≡ s.hints) (words_are : words ≡ g.actions) where
  hints-same : hint_refusal u text ≡ hint_refusal (universe_of g s) s.hints
  hints-same = ap₂ (λ (v : Universe) (t : List ℕ). hint_refusal v t) universe_is text_is

  actions-same : action_refusal u words ≡ action_refusal (universe_of g s) g.actions
  actions-same = ap₂ (λ (v : Universe) (w : List (List ℕ)). action_refusal v w) universe_is words_are

  pub refused_by_hints : (status : Status) → IsRefused (hint_refusal u text) status → IsRefused (refusal g s) status
  refused_by_hints status refused =
      later _ _ status read (here _ _ status (subst (λ (o : Option Status). IsRefused o status) hints-same refused))

  module _ (hinted : hint_refusal u text ≡ None) where
    pub refused_by_actions : (status : Status) → IsRefused (action_refusal u words) status → IsRefused (refusal g s) status
    refused_by_actions status refused =
        later _ _ status read (later _ _ status (sym hints-same ∙ hinted)
        (here _ _ status (subst (λ (o : Option Status). IsRefused o status) actions-same refused)))

    module _ (acted : action_refusal u words ≡ None) (hints : List Hint) (hints_are : hints ≡ hints_of u (lines_of text)) (actions : List wanted.Action) (actions_are : actions ≡ actions_of u words)
        (p : Problem) (problem_is : p ≡ problem_from u (starts_with u actions)) where
      actions-in : actions ≡ actions_in g s
      actions-in = actions_are ∙ ap₂ (λ (v : Universe) (w : List (List ℕ)). actions_of v w) universe_is words_are

      hints-in : hints ≡ hints_in g s
      hints-in = hints_are ∙ ap₂ (λ (v : Universe) (t : List ℕ). hints_of v (lines_of t)) universe_is text_is

      problem-in : p ≡ problem_of g s
      problem-in = problem_is ∙ ap₂ (λ (v : Universe) (a : List wanted.Action). problem_from v (starts_with v a)) universe_is actions-in

      scene-in : scene u p actions ≡ scene_of g s
      scene-in =
          ap (λ (v : Universe). scene v p actions) universe_is
          ∙ ap₂ (λ (q : Problem) (a : List wanted.Action). scene (universe_of g s) q a) problem-in actions-in

      prices-same : price_refusal (scene u p actions) hints (levels_of g) ≡ price_refusal (scene_of g s) (hints_in g s) (levels_of g)
      prices-same = ap₂ (λ (now : Scene) (h : List Hint). price_refusal now h (levels_of g)) scene-in hints-in

      pub refused_by_prices : (status : Status) → IsRefused (price_refusal (scene u p actions) hints (levels_of g)) status → IsRefused (refusal g s) status
      refused_by_prices status refused =
          later _ _ status read (later _ _ status (sym hints-same ∙ hinted) (later _ _ status (sym actions-same ∙ acted)
          (subst (λ (o : Option Status). IsRefused o status) prices-same refused)))

      pub is_ground : (ground : Ground) → ground.universe ≡ u → ground.basis.problem ≡ p → price_refusal (scene u p actions) hints (levels_of g) ≡ None
          → ground.basis.table ≡ table_of (scene u p actions) hints (levels_of g) → ground.rules ≡ rules_of p hints → IsGround g s ground
      is_ground ground universe_same problem_same priced table_is rules_are = record {
        taken = none-of _ _ read (none-of _ _ (sym hints-same ∙ hinted) (none-of _ _ (sym actions-same ∙ acted) (sym prices-same ∙ priced)));
        universe_is = universe_same ∙ universe_is;
        problem_is = problem_same ∙ problem-in;
        table_is = table_is ∙ ap₂ (λ (now : Scene) (h : List Hint). table_of now h (levels_of g)) scene-in hints-in;
        rules_are = rules_are ∙ ap₂ (λ (q : Problem) (h : List Hint). rules_of q h) problem-in hints-in;
      }
