-- What the version is sought as, if there is one.
use Rattle.std.proofs.Common.{◌∙◌, ap, map, ◌∷◌, []}
use Rattle.std.specs.Option.{option_map}
use Rattle.dep_fields.specs.Relationships.{bound_of}
use Rattle.meeting_index.specs.Provided.{listed_for_versions}
use Rattle.meeting_index.proofs.Owners.{found-for, none-for}
use Rattle.universe_parts.specs.Listed.{version_listed}
use Rattle.meeting_index.proofs.found.found.Goals as goal

pub returns-in-Some : goal.returns-in-Some
returns-in-Some c =
    let carriers = c.args.carriers.now in
    ap (λ n. n ∷ []) c.sought_as.ensures
    ∙ found-for carriers.sought (map version_listed carriers.versions.now) (listed_for_versions carriers) (option_map bound_of c.args.bound) c.args.number c.in-Some.version c.in-Some.ensures

pub returns-in-None : goal.returns-in-None
returns-in-None c =
    let carriers = c.args.carriers.now in
    none-for carriers.sought (map version_listed carriers.versions.now) (listed_for_versions carriers) (option_map bound_of c.args.bound) c.args.number c.in-None.ensures
