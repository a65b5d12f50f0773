use Rattle.std.proofs.Common.{◌≡◌, false, nat_lt, take}
use Rattle.std.specs.List.{list_any}
use Rattle.hint_file.specs.Prices.{most_amount}
use Rattle.hint_file.proofs.rows.narrowed.Given as goal

abbrev pub invariant-loop-amount : goal.invariant-loop-amount
invariant-loop-amount l = record {
  little : list_any (λ amount. nat_lt most_amount amount) (take l.amount-index l.row) ≡ false;
  list : l.list.items ≡ take l.amount-index l.row;
}
