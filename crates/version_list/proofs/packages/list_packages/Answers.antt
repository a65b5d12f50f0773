-- What ends the listing of one package ends that of all.
use Rattle.std.proofs.Common.{map}
use Rattle.std.proofs.lemmas.Result.{err_from_is_err_and}
use Rattle.std.specs.List.{fold}
use Rattle.version_list.specs.Listings.{listed, with_row}
use Rattle.version_list.specs.Rows.{row_read}
use Rattle.version_list.proofs.Whole.{end-at}
use Rattle.version_list.proofs.packages.list_packages.Goals as goal

pub returns-in_err-list_package-clause-end : goal.returns-in_err-list_package-clause-end
returns-in_err-list_package-clause-end c =
    let p = err_from_is_err_and c.from_residual.result c.from_residual.ensures.1 in
    rw (p.1, p.2) (end-at (listed c.loop-row.listing) (fold with_row (listed c.args.listing.now) (map row_read c.args.rows.now)) c.args.rows.now c.loop-row.row-index
    c.row-item.result c.in_err-list_package.field-0.0 c.loop-row-test.true c.row-item.is c.loop-row.invariant.whole c.in_err-list_package.ensures.end)
