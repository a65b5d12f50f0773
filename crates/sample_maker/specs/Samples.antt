-- Generated universes: a status file and a Packages file, written as control files (Debian Policy
-- 5.1) with relation fields (7.1).
use Rattle.std.specs.Prelude.{ℕ, zero, suc, ◌+◌, List, [], ◌++◌, Option, Some, None, codes, decimal}
use Rattle.std.specs.List.{flat_map, range_with_len, sum_by}
use Rattle.sample_maker.specs.Draws.{state, earlier, earlier_draws, conflict, conflict_draws}

-- A relation field with one package, `FIELD: pN`, with a restriction to versions or none.
abbrev pub relation : List ℕ → List ℕ → Option ℕ → List ℕ
relation field versions None = []
relation field versions (Some n) = field ++ codes ": p" ++ decimal n ++ versions ++ codes "\n"

-- the stanza of the installed version 1 of the package i
abbrev pub installed_stanza : ℕ → Option ℕ → List ℕ
installed_stanza i depends =
    codes "Package: p" ++ decimal i
    ++ codes "\nStatus: install ok installed\nArchitecture: all\nVersion: 1\n"
    ++ relation (codes "Depends") [] depends
    ++ codes "\n"

-- the stanza of the version 2 that the archive has of the package i
abbrev pub archive_stanza : ℕ → Option ℕ → Option ℕ → List ℕ
archive_stanza i depends conflicts =
    codes "Package: p" ++ decimal i
    ++ codes "\nArchitecture: all\nVersion: 2\n"
    ++ relation (codes "Depends") (codes " (>= 2)") depends
    ++ relation (codes "Conflicts") (codes " (<< 2)") conflicts
    ++ codes "\n"

-- how many draws the installed stanzas of the packages below i take
abbrev pub installed_draws : ℕ → ℕ
installed_draws i = sum_by earlier_draws (range_with_len 0 i)

-- the status text of the packages below count, its draws made from the state x on
abbrev pub status_text : ℕ → ℕ → List ℕ
status_text x count =
    flat_map (λ i. installed_stanza i (earlier (state x (installed_draws i)) i))
    (range_with_len 0 count)

-- how many draws the archive stanzas of the packages below i take, from the state x on
abbrev pub archive_draws : ℕ → ℕ → ℕ
archive_draws x zero = 0
archive_draws x (suc i) =
    let n = archive_draws x i + earlier_draws i in n + conflict_draws (state x n) i

-- the stanza of the package i, where n draws were made before it
abbrev pub archive_stanza_at : ℕ → ℕ → ℕ → List ℕ
archive_stanza_at x n i =
    archive_stanza i (earlier (state x n) i) (conflict (state x (n + earlier_draws i)) i)

-- the packages text of the packages below count, its draws made from the state x on
abbrev pub archive_text : ℕ → ℕ → List ℕ
archive_text x count =
    flat_map (λ i. archive_stanza_at x (archive_draws x i) i) (range_with_len 0 count)

-- the packages text of a seed: its draws go on behind those of the status text
abbrev pub packages_text : ℕ → ℕ → List ℕ
packages_text seed count = archive_text (state seed (installed_draws count)) count
