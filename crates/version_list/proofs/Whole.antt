-- All packages, listed one after another, are those of the stanzas.
use Rattle.std.proofs.Common.{◌≡◌, ℕ, suc, ◌+◌, ◌<◌, ◌≤◌, ◌⊎◌, inl, inr, List, [], ◌∷◌, ◌++◌, Bool, true, false, if◌then◌else◌, Some, None, map, length, get_or, drop, nat_lt, replicate, refl, sym, ap, ◌∙◌, arith, append_assoc, length-append}
use Rattle.std.proofs.lemmas.Bool.Decides.{nat_tests}
use Rattle.std.proofs.lemmas.List.{append-nil, length-map, length-replicate, map-append, length_push, drop_more}
use Rattle.std.specs.List.{fold}
use Rattle.std.specs.Option.{option_map}
use Rattle.resolver_model.specs.Problems.{Problem, Dependency, package_count, version_count}
use Rattle.problem.specs.declared.limits.Which.TheVariants.{Packages, Versions}
use Rattle.problem.specs.Builds.{no_packages}
use Rattle.problem.specs.Limits.{most_packages, most_versions, end_past, refusal}
use Rattle.universe_model.specs.Faults.{build_end}
use Rattle.universe_model.specs.Reading.{ReadStanza, Stanzas}
use Rattle.universe_model.specs.Universes.{installed_in}
use Rattle.universe_model.specs.Versions as universe
use Rattle.universe_model.specs.Versions.{Version, version_of, release_of, candidate_of, is_held}
use Rattle.universe_model.specs.declared.BuildEnd.{BuildEnd}
use Rattle.universe_model.specs.declared.BuildEnd.TheVariants.{NoMemory}
use Rattle.version_list.specs.declared.Listing.{Listing}
use Rattle.version_list.specs.declared.rows.Row.{Row}
use Rattle.version_list.specs.Rows.{RowText, AreRows, row_read, row_of, rows_of, row_versions, candidate_place, installed_place}
use Rattle.version_list.specs.Listings.{Listed, IsEndOf, IsListing, listed, listing_refusal, package_number_of, with_row}
use Rattle.version_list.proofs.Placed.{versions_from, places_from, row_held, versions-rows, candidates-rows, installed-rows, held-rows}

abbrev pub nothing_listed : Listed
nothing_listed = record { versions = []; candidates = []; held = []; problem = no_packages }

abbrev candidate_at : RowText → ℕ
candidate_at row = candidate_place row.releases

-- ---- one package more

one-more : (l : Listed) (row : RowText) → package_count (with_row l row).problem ≡ package_count l.problem + 1
one-more l row = length_push l.problem.starts (length l.problem.owners + installed_place row)

size-more : (l : Listed) (row : RowText) → version_count (with_row l row).problem ≡ version_count l.problem + (length row.releases + 1)
size-more l row =
    length-append l.problem.owners (replicate (length row.releases + 1) (length l.problem.starts))
    ∙ ap (λ n. length l.problem.owners + n) (length-replicate (length row.releases + 1) (length l.problem.starts))

numbers-reads : (q : ℕ) (row : RowText) (reads : List ReadStanza)
    → map package_number_of (map (λ read. version_of q row.name (Some (release_of read))) reads) ≡ replicate (length reads) q
numbers-reads q row [] = refl
numbers-reads q row (read ∷ reads) = ap (λ ns. q ∷ ns) (numbers-reads q row reads)

numbers-row : (q : ℕ) (row : RowText) → map package_number_of (row_versions q row) ≡ replicate (length row.releases + 1) q
numbers-row q row =
    ap (λ ns. q ∷ ns) (numbers-reads q row row.releases)
    ∙ (let next : suc (length row.releases) ≡ length row.releases + 1 = omega arith in ap (λ n. replicate n q) next)

-- ---- all packages

pub versions-all : (l : Listed) (rows : List RowText) → (fold with_row l rows).versions ≡ l.versions ++ versions_from (package_count l.problem) rows
versions-all l [] = sym (append-nil l.versions)
versions-all l (row ∷ rows) =
    versions-all (with_row l row) rows
    ∙ ap (λ q. (l.versions ++ row_versions (package_count l.problem) row) ++ versions_from q rows) (one-more l row)
    ∙ append_assoc l.versions (row_versions (package_count l.problem) row) (versions_from (package_count l.problem + 1) rows)

pub candidates-all : (l : Listed) (rows : List RowText) → (fold with_row l rows).candidates ≡ l.candidates ++ places_from candidate_at (version_count l.problem) rows
candidates-all l [] = sym (append-nil l.candidates)
candidates-all l (row ∷ rows) =
    let here : List ℕ = (version_count l.problem + candidate_at row) ∷ [] in
    candidates-all (with_row l row) rows
    ∙ ap (λ n. (l.candidates ++ here) ++ places_from candidate_at n rows) (size-more l row)
    ∙ append_assoc l.candidates here (places_from candidate_at (version_count l.problem + (length row.releases + 1)) rows)

pub held-all : (l : Listed) (rows : List RowText) → (fold with_row l rows).held ≡ l.held ++ map row_held rows
held-all l [] = sym (append-nil l.held)
held-all l (row ∷ rows) = held-all (with_row l row) rows ∙ append_assoc l.held (row_held row ∷ []) (map row_held rows)

pub starts-all : (l : Listed) (rows : List RowText) → (fold with_row l rows).problem.starts ≡ l.problem.starts ++ places_from installed_place (version_count l.problem) rows
starts-all l [] = sym (append-nil l.problem.starts)
starts-all l (row ∷ rows) =
    let here : List ℕ = (version_count l.problem + installed_place row) ∷ [] in
    starts-all (with_row l row) rows
    ∙ ap (λ n. (l.problem.starts ++ here) ++ places_from installed_place n rows) (size-more l row)
    ∙ append_assoc l.problem.starts here (places_from installed_place (version_count l.problem + (length row.releases + 1)) rows)

pub owners-all : (l : Listed) (rows : List RowText)
    → (fold with_row l rows).problem.owners ≡ l.problem.owners ++ map package_number_of (versions_from (package_count l.problem) rows)
owners-all l [] = sym (append-nil l.problem.owners)
owners-all l (row ∷ rows) =
    let q : ℕ = package_count l.problem in
    let own : List ℕ = replicate (length row.releases + 1) q in
    owners-all (with_row l row) rows
    ∙ ap (λ n. (l.problem.owners ++ own) ++ map package_number_of (versions_from n rows)) (one-more l row)
    ∙ append_assoc l.problem.owners own (map package_number_of (versions_from (q + 1) rows))
    ∙ ap (λ ns. l.problem.owners ++ (ns ++ map package_number_of (versions_from (q + 1) rows))) (sym (numbers-row q row))
    ∙ ap (λ ns. l.problem.owners ++ ns) (sym (map-append package_number_of (row_versions q row) (versions_from (q + 1) rows)))

pub dependencies-all : (l : Listed) (rows : List RowText) → (fold with_row l rows).problem.dependencies ≡ l.problem.dependencies
dependencies-all l [] = refl
dependencies-all l (row ∷ rows) = dependencies-all (with_row l row) rows

-- versions only grow
pub size-all : (l : Listed) (rows : List RowText) → version_count l.problem ≤ version_count (fold with_row l rows).problem
size-all l [] = omega arith
size-all l (row ∷ rows) =
    let rest = size-all (with_row l row) rows in
    let more = size-more l row in
    omega arith

end-later : (l : Listed) (row : RowText) (rows : List RowText) (whole : Listed) (end : BuildEnd) → fold with_row l (row ∷ rows) ≡ whole
    → IsEndOf (with_row l row).problem end → IsEndOf whole.problem end
end-later l row rows whole end e (inl none) = inl none
end-later l row rows whole end e (inr past) =
    let more = size-all (with_row l row) rows in
    let same : version_count (fold with_row (with_row l row) rows).problem ≡ version_count whole.problem = ap (λ (m : Listed). version_count m.problem) e in
    let now : most_versions < version_count (with_row l row).problem = past.0 in
    inr (omega arith, past.1)

-- what ends the listing of one package ends that of all
pub end-at : (l whole : Listed) (rows : List Row) (n : ℕ) (row : Row) (end : BuildEnd) → n < length rows → row ≡ get_or rows n row
    → fold with_row l (map row_read (drop n rows)) ≡ whole → IsEndOf (with_row l (row_read row)).problem end → IsEndOf whole.problem end
end-at l whole rows n row end h is e past =
    let rest : List RowText = map row_read (drop (n + 1) rows) in
    end-later l (row_read row) rest whole end
    (ap (λ (r : Row). fold with_row l (row_read r ∷ rest)) is ∙ sym (ap (λ (rs : List Row). fold with_row l (map row_read rs)) (drop_more rows n row h)) ∙ e)
    past

-- ---- of the stanzas

same-problem : (p : Problem) (owners starts : List ℕ) (dependencies : List Dependency) → p.owners ≡ owners → p.starts ≡ starts → p.dependencies ≡ dependencies
    → p ≡ record { owners = owners; starts = starts; dependencies = dependencies }
same-problem p owners starts dependencies e f g =
    ap (λ os. let problem : Problem = record { owners = os; starts = p.starts; dependencies = p.dependencies } in problem) e
    ∙ ap (λ ss. let problem : Problem = record { owners = owners; starts = ss; dependencies = p.dependencies } in problem) f
    ∙ ap (λ ds. let problem : Problem = record { owners = owners; starts = starts; dependencies = ds } in problem) g

whole-versions : (stanzas : Stanzas) → (fold with_row nothing_listed (rows_of stanzas)).versions ≡ universe.versions stanzas
whole-versions stanzas = versions-all nothing_listed (rows_of stanzas) ∙ versions-rows stanzas

whole-owners : (stanzas : Stanzas) → (fold with_row nothing_listed (rows_of stanzas)).problem.owners ≡ map package_number_of (universe.versions stanzas)
whole-owners stanzas = owners-all nothing_listed (rows_of stanzas) ∙ ap (map package_number_of) (versions-rows stanzas)

whole-problem : (stanzas : Stanzas) → (fold with_row nothing_listed (rows_of stanzas)).problem ≡ record {
  owners = map package_number_of (universe.versions stanzas);
  starts = installed_in stanzas (universe.names stanzas) (universe.versions stanzas);
  dependencies = [];
}
whole-problem stanzas =
    same-problem (fold with_row nothing_listed (rows_of stanzas)).problem _ _ _
    (whole-owners stanzas)
    (starts-all nothing_listed (rows_of stanzas) ∙ installed-rows stanzas)
    (dependencies-all nothing_listed (rows_of stanzas))

whole-size : (stanzas : Stanzas) → version_count (fold with_row nothing_listed (rows_of stanzas)).problem ≡ length (universe.versions stanzas)
whole-size stanzas = ap length (whole-owners stanzas) ∙ length-map (universe.versions stanzas) package_number_of

few-refusal : (n v : ℕ) → n ≤ most_packages → v ≤ most_versions → refusal Packages most_packages n (refusal Versions most_versions v None) ≡ None
few-refusal n v h k =
    let few : nat_lt most_packages n ≡ false = grind (arith, nat_tests) in
    let none : nat_lt most_versions v ≡ false = grind (arith, nat_tests) in
    ap (λ b. if b then Some (end_past Packages most_packages) else refusal Versions most_versions v None) few
    ∙ ap (λ b. if b then Some (end_past Versions most_versions) else None) none

pub IsListing-from : (stanzas : Stanzas) (l : Listing) (ns : List (List ℕ)) (rows : List Row) → AreRows stanzas ns rows → length rows ≤ most_packages
    → l.names ≡ ns → listed l ≡ fold with_row nothing_listed (map row_read rows) → version_count l.builder ≤ most_versions → IsListing stanzas l
IsListing-from stanzas l ns rows are few named is within =
    let whole : listed l ≡ fold with_row nothing_listed (rows_of stanzas) = is ∙ ap (fold with_row nothing_listed) are.kept in
    let size : length rows ≡ length (universe.names stanzas) =
    sym (length-map rows row_read) ∙ ap length are.kept ∙ length-map (universe.names stanzas) (row_of stanzas) in
    let count : version_count l.builder ≡ length (universe.versions stanzas) = ap (λ (m : Listed). version_count m.problem) whole ∙ whole-size stanzas in
    record {
      names = named ∙ are.named;
      versions = ap (λ (m : Listed). m.versions) whole ∙ whole-versions stanzas;
      candidates = ap (λ (m : Listed). m.candidates) whole ∙ candidates-all nothing_listed (rows_of stanzas) ∙ candidates-rows stanzas;
      held = ap (λ (m : Listed). m.held) whole ∙ held-all nothing_listed (rows_of stanzas) ∙ held-rows stanzas;
      problem = ap (λ (m : Listed). m.problem) whole ∙ whole-problem stanzas;
      within = few-refusal (length (universe.names stanzas)) (length (universe.versions stanzas)) (omega arith) (omega arith);
    }

-- ---- what refuses them

pub versions-refused : (stanzas : Stanzas) (ns : List (List ℕ)) (rows : List Row) (end : BuildEnd) → AreRows stanzas ns rows → length rows ≤ most_packages
    → IsEndOf (fold with_row nothing_listed (map row_read rows)).problem end → (end ≡ NoMemory) ⊎ (option_map build_end (listing_refusal stanzas) ≡ Some end)
versions-refused stanzas ns rows end are few (inl e) = inl e
versions-refused stanzas ns rows end are few (inr e) =
    let size : length rows ≡ length (universe.names stanzas) =
    sym (length-map rows row_read) ∙ ap length are.kept ∙ length-map (universe.names stanzas) (row_of stanzas) in
    let count : version_count (fold with_row nothing_listed (map row_read rows)).problem ≡ length (universe.versions stanzas) =
    ap (λ (rs : List RowText). version_count (fold with_row nothing_listed rs).problem) are.kept ∙ whole-size stanzas in
    let many : most_versions < version_count (fold with_row nothing_listed (map row_read rows)).problem = e.0 in
    let fits : nat_lt most_packages (length (universe.names stanzas)) ≡ false = grind (arith, nat_tests) in
    let past : nat_lt most_versions (length (universe.versions stanzas)) ≡ true = grind (arith, nat_tests) in
    inr (ap (λ b. option_map build_end (if b then Some (end_past Packages most_packages) else refusal Versions most_versions (length (universe.versions stanzas)) None)) fits
    ∙ ap (λ b. option_map build_end (if b then Some (end_past Versions most_versions) else None)) past
    ∙ ap Some (sym e.1))

-- ---- from the beginning

pub nothing-listed : (vs : List Version) (candidates : List ℕ) (held : List Bool) (problem : Problem) → vs ≡ [] → candidates ≡ [] → held ≡ [] → problem ≡ no_packages
    → let l : Listed = record { versions = vs; candidates = candidates; held = held; problem = problem } in l ≡ nothing_listed
nothing-listed vs candidates held problem e f g h = cc
