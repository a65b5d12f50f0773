use Rattle.laws_universe.proofs.Choices.{tokens-inverse, tokens-choices}
use Rattle.laws_universe.proofs.Universes.{universe-sound}
use Rattle.universe_model.specs.Universes.{universe}
use Rattle.laws_universe.proofs.tokens_name_choices.Goals as goal

pub returns-clause-inverse : goal.returns-clause-inverse
returns-clause-inverse c texts within p of c' choice = tokens-inverse (universe texts) (universe-sound texts within) p of c' choice

pub returns-clause-choices : goal.returns-clause-choices
returns-clause-choices c u p of text c' h = tokens-choices u p of text c' h
