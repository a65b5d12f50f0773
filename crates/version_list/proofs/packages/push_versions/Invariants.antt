use Rattle.std.proofs.Common.{◌≡◌, ◌++◌, ◌∷◌, Some, None, map, take}
use Rattle.universe_model.specs.Versions.{version_of, release_of}
use Rattle.universe_parts.specs.Listed.{version_listed}
use Rattle.version_list.specs.Releases.{release_stanza}
use Rattle.version_list.proofs.packages.push_versions.Given as goal

-- absent and the versions so far are listed
abbrev pub invariant-loop-release : goal.invariant-loop-release
invariant-loop-release l =
    map version_listed l.versions.items
    ≡ map version_listed l.fn.versions.items
    ++ version_of l.number l.row.name.now None
    ∷ map (λ read. version_of l.number l.row.name.now (Some (release_of read))) (map release_stanza (take l.release-index l.release-items))
