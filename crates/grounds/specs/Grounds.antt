-- What a session stands on, and the first refusal of what the settings and the texts give.
use Rattle.std.specs.Prelude.{◌≡◌, ◌⊎◌, ℕ, List, [], Option, Some, None, if◌then◌else◌}
use Rattle.std.specs.Option.{option_map, option_or, unwrap_or}
use Rattle.cost_vector.specs.declared.cost_spec.Level.{Level}
use Rattle.hint_effects.specs.Effects.{rules_of}
use Rattle.hint_effects.specs.declared.Hint.{Hint}
use Rattle.hint_file.specs.CostNames.{Scene, scene}
use Rattle.hint_file.specs.Hinting.{first_fault, hints_of, lines_of}
use Rattle.hint_file.specs.Prices.{is_past, table_of}
use Rattle.hint_file.specs.declared.ends.HintEnd.{HintEnd}
use Rattle.hint_file.specs.declared.ends.HintEnd.TheVariants as hint_end
use Rattle.problem.specs.declared.limits.Which.TheVariants.{LevelAmount}
use Rattle.resolve_words.specs.Given.{Given}
use Rattle.resolve_words.specs.declared.ends.UsageFault.TheVariants.{Action}
use Rattle.resolver_model.specs.Costs.{Table}
use Rattle.resolver_model.specs.Problems.{Problem}
use Rattle.resolver_model.specs.Rules.{Rules}
use Rattle.run_status.specs.declared.Status.{Status}
use Rattle.run_status.specs.declared.Status.TheVariants.{Usage, BadInput, NoMemory, Limit}
use Rattle.sources.specs.Sources.{Sources}
use Rattle.universe_model.specs.Limits.{build_refusal}
use Rattle.universe_model.specs.Reading.{Texts}
use Rattle.universe_model.specs.Universes.{Universe, universe, problem_from}
use Rattle.universe_model.specs.declared.BuildEnd.{BuildEnd}
use Rattle.universe_model.specs.declared.BuildEnd.TheVariants as build_end
use Rattle.universe_model.specs.declared.FileKind.TheVariants as file
use Rattle.universe_model.specs.declared.InputKind.TheVariants as input
use Rattle.wanted.specs.Wanting.{actions_of, first_bad, starts_with}
use Rattle.wanted.specs.declared.Action as wanted
use Rattle.grounds.specs.declared.making.Ground.{Ground}

-- ---- what the settings and the texts give

abbrev pub texts_of : Given → Sources → Texts
texts_of g s = record { status = s.status; packages = s.packages; native = g.arch }

abbrev pub universe_of : Given → Sources → Universe
universe_of g s = universe (texts_of g s)

abbrev pub hints_in : Given → Sources → List Hint
hints_in g s = hints_of (universe_of g s) (lines_of s.hints)

abbrev pub actions_in : Given → Sources → List wanted.Action
actions_in g s = actions_of (universe_of g s) g.actions

-- the universe's problem with the start versions that the actions ask for
abbrev pub problem_of : Given → Sources → Problem
problem_of g s = problem_from (universe_of g s) (starts_with (universe_of g s) (actions_in g s))

abbrev pub levels_of : Given → List Level
levels_of g = unwrap_or g.cost []

-- what is priced
abbrev pub scene_of : Given → Sources → Scene
scene_of g s = scene (universe_of g s) (problem_of g s) (actions_in g s)

-- the amounts of the choices at the levels of the cost spec
abbrev pub table_in : Given → Sources → Table
table_in g s = table_of (scene_of g s) (hints_in g s) (levels_of g)

-- the rules that the hints set
abbrev pub rules_in : Given → Sources → Rules
rules_in g s = rules_of (problem_of g s) (hints_in g s)

-- ---- refusals

abbrev pub status_of_build : BuildEnd → Status
status_of_build (build_end.BadInput file line kind) = BadInput file line kind
status_of_build (build_end.Limit which count) = Limit which count
status_of_build build_end.NoMemory = NoMemory

abbrev pub status_of_hint : HintEnd → Status
status_of_hint (hint_end.HintFault line kind) = BadInput file.Hints line (input.Hint kind)
status_of_hint hint_end.NoMemory = NoMemory

-- what refuses the status and the packages text
abbrev pub text_refusal : Texts → Option Status
text_refusal texts = option_map status_of_build (build_refusal texts)

-- what refuses the hint file's text
abbrev pub hint_refusal : Universe → List ℕ → Option Status
hint_refusal u text = option_map status_of_hint (first_fault u (lines_of text))

-- what refuses the words that are to be actions
abbrev pub action_refusal : Universe → List (List ℕ) → Option Status
action_refusal u words = option_map (λ word. Usage (Action word)) (first_bad u words)

-- what refuses the prices: a choice has too much at a level
abbrev pub price_refusal : Scene → List Hint → List Level → Option Status
price_refusal s hints levels = if is_past s hints levels then Some (Limit LevelAmount 4294967296) else None

-- The first refusal: of the status and the packages text, then of the hints, of the actions, and of the prices.
abbrev pub refusal : Given → Sources → Option Status
refusal g s =
    option_or (text_refusal (texts_of g s))
    (option_or (hint_refusal (universe_of g s) s.hints)
    (option_or (action_refusal (universe_of g s) g.actions) (price_refusal (scene_of g s) (hints_in g s) (levels_of g))))

-- a refusal, or want of memory
abbrev pub IsRefused : Option Status → Status → Type 0
IsRefused first status = (status ≡ NoMemory) ⊎ (first ≡ Some status)

-- ---- what a session stands on

-- What the settings and the texts give, where nothing refuses them.
pub record IsGround (g : Given) (s : Sources) (ground : Ground) : Type 0 where
  pub taken : refusal g s ≡ None
  pub universe_is : ground.universe ≡ universe_of g s
  pub problem_is : ground.basis.problem ≡ problem_of g s
  pub table_is : ground.basis.table ≡ table_in g s
  pub rules_are : ground.rules ≡ rules_in g s
