-- The carrier for its version, and what that is sought as.
use Rattle.std.proofs.Common.{map, refl}
use Rattle.meeting_index.specs.Provided.{listed_for_versions}
use Rattle.meeting_index.proofs.Owners.{is-for, none-is-for}
use Rattle.universe_parts.specs.Listed.{version_listed}
use Rattle.meeting_index.proofs.members.member.Goals as goal

pub returns-in-Some-clause-found : goal.returns-in-Some-clause-found
returns-in-Some-clause-found c =
    let carriers = c.args.carriers.now in
    is-for carriers.sought (map version_listed carriers.versions.now) (listed_for_versions carriers) c.args.number c.in-Some.carried _ refl c.sought_as.ensures c.in-Some.ensures.found

pub returns-in-None-clause-found : goal.returns-in-None-clause-found
returns-in-None-clause-found c =
    let carriers = c.args.carriers.now in
    none-is-for carriers.sought (map version_listed carriers.versions.now) (listed_for_versions carriers) c.args.number c.in-None.ensures.found
