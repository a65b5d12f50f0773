-- What is listed of stanzas: packages and versions, candidates, holds, and a problem without dependencies.
use Rattle.std.specs.Prelude.{◌≡◌, ◌⊎◌, ◌<◌, ℕ, ◌+◌, Bool, false, List, [], ◌∷◌, ◌++◌, map, length, Option, None}
use Rattle.std.specs.Option.{unwrap_or}
use Rattle.lists.specs.Below.{below}
use Rattle.resolver_model.specs.Problems.{Problem, package_count, version_count}
use Rattle.problem.specs.declared.limits.Which.TheVariants.{Packages, Versions}
use Rattle.problem.specs.declared.limits.ProblemEnd.{ProblemEnd}
use Rattle.problem.specs.Builds.{with_package}
use Rattle.problem.specs.Limits.{most_packages, most_versions, end_past, refusal}
use Rattle.universe_model.specs.Faults.{build_end}
use Rattle.universe_model.specs.Reading.{Stanzas}
use Rattle.universe_model.specs.declared.BuildEnd.{BuildEnd}
use Rattle.universe_model.specs.declared.BuildEnd.TheVariants.{NoMemory}
use Rattle.universe_model.specs.Universes.{installed_in}
use Rattle.universe_model.specs.Versions as universe
use Rattle.universe_model.specs.Versions.{Version, candidate_of, is_held}
use Rattle.universe_parts.specs.Listed.{stanza_read, version_listed}
use Rattle.universe_parts.specs.declared.listed.ReadStanza.{ReadStanza}
use Rattle.version_list.specs.Rows.{RowText, row_versions, candidate_place, installed_place}
use Rattle.version_list.specs.declared.Listing.{Listing}

-- the stanzas of a status file and of a packages file
abbrev pub stanzas_read : List ReadStanza → List ReadStanza → Stanzas
stanzas_read status packages = record { status = map stanza_read status; packages = map stanza_read packages }

-- packages are counted first, and then versions
abbrev pub listing_refusal : Stanzas → Option ProblemEnd
listing_refusal stanzas =
    refusal Packages most_packages (length (universe.names stanzas)) (refusal Versions most_versions (length (universe.versions stanzas)) None)

abbrev pub package_number_of : Version → ℕ
package_number_of v = v.package_number

-- The packages and versions of stanzas, within the limits; and a problem of them, whose start versions are the installed ones.
pub record IsListing (stanzas : Stanzas) (l : Listing) : Type 0 where
  pub names : l.names ≡ universe.names stanzas
  pub versions : map version_listed l.versions.items ≡ universe.versions stanzas
  pub candidates : l.candidates.items ≡ map (candidate_of (universe.versions stanzas)) (below (length (universe.names stanzas)))
  pub held : l.held.items ≡ map (is_held stanzas.status) (universe.names stanzas)
  pub problem : l.builder ≡ record {
    owners = map package_number_of (universe.versions stanzas);
    starts = installed_in stanzas (universe.names stanzas) (universe.versions stanzas);
    dependencies = [];
  }
  pub within : listing_refusal stanzas ≡ None

-- ---- how one package more is listed

-- what is listed so far
pub record Listed : Type 0 where
  pub versions : List Version
  pub candidates : List ℕ
  pub held : List Bool
  pub problem : Problem

abbrev pub listed : Listing → Listed
listed l = record {
  versions = map version_listed l.versions.items;
  candidates = l.candidates.items;
  held = l.held.items;
  problem = l.builder;
}

abbrev pub with_row : Listed → RowText → Listed
with_row l row = record {
  versions = l.versions ++ row_versions (package_count l.problem) row;
  candidates = l.candidates ++ (version_count l.problem + candidate_place row.releases) ∷ [];
  held = l.held ++ unwrap_or row.hold false ∷ [];
  problem = with_package l.problem (length row.releases) (installed_place row);
}

-- why the packages of a problem were not listed: it has too many versions, unless memory is wanting
abbrev pub IsEndOf : Problem → BuildEnd → Type 0
IsEndOf problem end = (end ≡ NoMemory) ⊎ ((most_versions < version_count problem) × (end ≡ build_end (end_past Versions most_versions)))
