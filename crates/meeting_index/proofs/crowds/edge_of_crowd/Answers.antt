-- The edge of the crowd that is found.
use Rattle.std.proofs.Common.{◌≡◌, ◌∙◌, ap, sym, Option, ℕ, List, false, Some, None}
use Rattle.std.specs.Option.{MatchOption}
use Rattle.std.specs.Map.{lookup}
use Rattle.ascii.specs.Texts.{is_same}
use Rattle.dep_fields.specs.Relationships.{VersionBound, bound_of}
use Rattle.meeting_index.specs.Crowds.{HasEdge, IsEdge, crowd_has, crowds_have, kept_has}
use Rattle.meeting_index.specs.declared.crowd.Crowd.{Crowd}
use Rattle.meeting_index.specs.declared.crowds.Crowds.{Crowds}
use Rattle.meeting_index.specs.declared.named.Name.{Name}
use Rattle.meeting_index.proofs.crowds.edge_of_crowd.Goals as goal

of-crowd : (crowds : Crowds) (bytes : List ℕ) (crowd : Crowd) (bound : VersionBound) (edge : Option ℕ)
    → lookup (λ (name : Name). is_same bytes name.bytes.now) crowds.by_name.entries ≡ Some crowd
    → MatchOption edge ((c : ℕ) → crowd_has crowd (Some bound) c ≡ false) (IsEdge crowd bound)
    → MatchOption edge ((c : ℕ) → crowds_have crowds bytes (Some bound) c ≡ false) (HasEdge crowds bytes bound)
of-crowd crowds bytes crowd bound None there none = λ c. ap (λ o. kept_has o (Some bound) c) there ∙ none c
of-crowd crowds bytes crowd bound (Some carrier) there edge = record { crowd = crowd; is = there; edge = edge }

pub returns-in-None : goal.returns-in-None
returns-in-None c = λ n. ap (λ o. kept_has o (Some (bound_of (c.args.op, c.args.version.now))) n) (sym c.in-None.ensures)

pub returns-in-Some : goal.returns-in-Some
returns-in-Some c =
    of-crowd c.args.crowds.now c.args.name.now c.in-Some.crowd.now (bound_of (c.args.op, c.args.version.now)) c.edge.result (sym c.in-Some.ensures) c.edge.ensures
