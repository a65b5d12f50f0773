-- Worked examples, computed: three packages, one of which breaks another.
use Rattle.std.proofs.Common.{◌≡◌, [], ◌∷◌, true, false, Ok, Err, refl, map}
use Rattle.std.specs.Prelude.{codes}
use Rattle.std.specs.Fmt.{digits}
use Rattle.dep_fields.specs.Fields.{field_of}
use Rattle.dep_fields.specs.Relationships.{relationship_of, relationship_at, rel_at, bound_at}
use Rattle.dep_fields.specs.Tokens.{name_at, version_at, arch_at, op_at, close_at}
use Rattle.resolver_model.specs.Problems.{Problem, choices}
use Rattle.stanza.specs.Stanzas.{no_relations}
use Rattle.universe_model.specs.Reading.{Stanzas}
use Rattle.universe_model.specs.Universes.{Universe, universe_of, problem_of, problem_from, is_conflict}
use Rattle.universe_model.specs.Tokens.{token, choice_of}
use Rattle.universe_model.specs.declared.TokenFault.TheVariants.{NotAToken, NoSuchPackage, NoSuchVersion, NotAChoice}
use Rattle.universe_model.proofs.Samples.{sample, stanzas, amd64}

-- a 1, which needs b, b 1 and c 1 are installed; a 2 needs b from 2 on, and b 3 conflicts with c
abbrev three : Stanzas
three = stanzas
    (record (sample (codes "a") (codes "1")) { relations = record no_relations { depends = codes "b" } } ∷ sample (codes "b") (codes "1") ∷ sample (codes "c") (codes "1") ∷ [])
    (record (sample (codes "a") (codes "2")) { relations = record no_relations { depends = codes "b (>= 2)" } }
    ∷ sample (codes "b") (codes "2")
    ∷ record (sample (codes "b") (codes "3")) { relations = record no_relations { conflicts = codes "c" } } ∷ [])

abbrev three_universe : Universe
three_universe = universe_of amd64 three

three_problem : problem_of three_universe ≡ record {
  owners = 0 ∷ 0 ∷ 0 ∷ 1 ∷ 1 ∷ 1 ∷ 1 ∷ 2 ∷ 2 ∷ [];
  starts = 1 ∷ 4 ∷ 8 ∷ [];
  dependencies = record { source = 1; targets = 4 ∷ 5 ∷ 6 ∷ []; soft = false }
      ∷ record { source = 2; targets = 5 ∷ 6 ∷ []; soft = false }
      ∷ record { source = 6; targets = 7 ∷ []; soft = false } ∷ [];
}
unfolding field_of relationship_of relationship_at rel_at bound_at name_at version_at arch_at op_at close_at
three_problem = refl

three_candidates : three_universe.candidates ≡ 2 ∷ 6 ∷ 8 ∷ []
unfolding field_of relationship_of relationship_at rel_at bound_at name_at version_at arch_at op_at close_at
three_candidates = refl

three_names : three_universe.names ≡ codes "a" ∷ codes "b" ∷ codes "c" ∷ []
unfolding field_of relationship_of relationship_at rel_at bound_at name_at version_at arch_at op_at close_at
three_names = refl

three_conflicts : map (is_conflict three_universe) (0 ∷ 1 ∷ 2 ∷ []) ≡ false ∷ false ∷ true ∷ []
unfolding field_of relationship_of relationship_at rel_at bound_at name_at version_at arch_at op_at close_at
three_conflicts = refl

-- a 2 is wanted
abbrev wanted : Problem
wanted = problem_from three_universe (2 ∷ 4 ∷ 8 ∷ [])

wanted_choices : choices wanted ≡ 0 ∷ 1 ∷ 3 ∷ 5 ∷ 6 ∷ 7 ∷ []
unfolding field_of relationship_of relationship_at rel_at bound_at name_at version_at arch_at op_at close_at
wanted_choices = refl

wanted_tokens : map (token three_universe wanted) (0 ∷ 1 ∷ 3 ∷ 5 ∷ 6 ∷ 7 ∷ []) ≡ codes "a-" ∷ codes "a=1" ∷ codes "b-" ∷ codes "b=2" ∷ codes "b=3" ∷ codes "c-" ∷ []
unfolding field_of relationship_of relationship_at rel_at bound_at name_at version_at arch_at op_at close_at digits
wanted_tokens = refl

wanted_read : map (choice_of three_universe wanted) (codes "a-" ∷ codes "a=1" ∷ codes "b-" ∷ codes "b=2" ∷ codes "b=3" ∷ codes "c-" ∷ []) ≡ Ok 0 ∷ Ok 1 ∷ Ok 3 ∷ Ok 5 ∷ Ok 6 ∷ Ok 7 ∷ []
unfolding field_of relationship_of relationship_at rel_at bound_at name_at version_at arch_at op_at close_at
wanted_read = refl

wanted_misread : map (choice_of three_universe wanted) (codes "" ∷ codes "b" ∷ codes "-" ∷ codes "=1" ∷ codes "b=" ∷ codes "b=1/0" ∷ codes "b=2/1" ∷ codes "zz-" ∷ codes "b=9" ∷ codes "b=1" ∷ codes "a=2" ∷ codes "a=2/1" ∷ [])
    ≡ Err NotAToken ∷ Err NotAToken ∷ Err NotAToken ∷ Err NotAToken ∷ Err NotAToken ∷ Err NotAToken ∷ Err NotAChoice ∷ Err NoSuchPackage ∷ Err NoSuchVersion ∷ Err NotAChoice ∷ Err NotAChoice ∷ Err NotAChoice ∷ []
unfolding field_of relationship_of relationship_at rel_at bound_at name_at version_at arch_at op_at close_at
wanted_misread = refl
