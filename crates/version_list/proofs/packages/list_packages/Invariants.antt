use Rattle.std.proofs.Common.{◌≡◌, ◌≤◌, [], map, drop}
use Rattle.std.specs.List.{fold}
use Rattle.resolver_model.specs.Problems.{package_count, version_count}
use Rattle.problem.specs.Limits.{most_versions}
use Rattle.version_list.specs.Listings.{listed, with_row}
use Rattle.version_list.specs.Rows.{row_read}
use Rattle.version_list.proofs.packages.list_packages.Given as goal

-- what is listed so far becomes the whole by what is left
abbrev pub invariant-loop-row : goal.invariant-loop-row
invariant-loop-row l = record {
  whole : fold with_row (listed l.listing) (map row_read (drop l.row-index l.rows)) ≡ fold with_row (listed l.fn.listing) (map row_read l.rows);
  names : l.listing.names ≡ l.fn.listing.names;
  count : package_count l.listing.builder ≡ l.row-index;
  dependencies : l.listing.builder.dependencies ≡ [];
  within : version_count l.listing.builder ≤ most_versions;
}
