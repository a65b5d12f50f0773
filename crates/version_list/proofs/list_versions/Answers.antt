-- The rows of the stanzas, listed from nothing.
use Rattle.std.proofs.Common.{◌≤◌, List, map, length, ap, ◌∙◌, arith}
use Rattle.std.proofs.lemmas.Result.{err_from_is_err_and}
use Rattle.std.specs.List.{fold}
use Rattle.problem.specs.Limits.{most_packages}
use Rattle.universe_parts.specs.Listed.{version_listed}
use Rattle.version_list.specs.declared.rows.Row.{Row}
use Rattle.version_list.specs.Listings.{Listed, with_row, stanzas_read}
use Rattle.version_list.specs.Rows.{row_read}
use Rattle.version_list.proofs.Whole.{IsListing-from, versions-refused, nothing-listed, nothing_listed}
use Rattle.version_list.proofs.list_versions.Goals as goal

pub returns-in_err-list_packages : goal.returns-in_err-list_packages
returns-in_err-list_packages c =
    let p = err_from_is_err_and c.from_residual-in_err-list_packages.result c.from_residual-in_err-list_packages.ensures.1 in
    let start = nothing-listed (map version_listed c.new-2.result.items) c.new-3.result.items c.new-4.result.items c.new-5.result
    (ap (map version_listed) c.new-2.ensures.items) c.new-3.ensures.items c.new-4.ensures.items c.new-5.ensures in
    let few : length c.in_ok-rows.rows.items ≤ most_packages = omega arith in
    rw (p.1, p.2) (versions-refused (stanzas_read c.args.status.now c.args.packages.now) c.read_rows.new.names c.in_ok-rows.rows.items c.in_err-list_packages.field-0.0
    c.in_ok-rows.ensures few (rw (← start, ← c.as_slice.ensures.value) c.in_err-list_packages.ensures.end))

pub returns : goal.returns
returns c =
    let start = nothing-listed (map version_listed c.new-2.result.items) c.new-3.result.items c.new-4.result.items c.new-5.result
    (ap (map version_listed) c.new-2.ensures.items) c.new-3.ensures.items c.new-4.ensures.items c.new-5.ensures in
    let few : length c.in_ok-rows.rows.items ≤ most_packages = omega arith in
    IsListing-from (stanzas_read c.args.status.now c.args.packages.now) c.list_packages.new.listing c.read_rows.new.names c.in_ok-rows.rows.items
    c.in_ok-rows.ensures few c.in_ok-list_packages.ensures.names
    (c.in_ok-list_packages.ensures.listed
    ∙ ap (λ (l : Listed). fold with_row l (map row_read c.as_slice.result.now)) start
    ∙ ap (λ (rows : List Row). fold with_row nothing_listed (map row_read rows)) c.as_slice.ensures.value)
    c.in_ok-list_packages.ensures.within
