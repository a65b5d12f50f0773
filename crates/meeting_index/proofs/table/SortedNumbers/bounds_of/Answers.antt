-- The places that are kept are where shares begin.
use Rattle.std.proofs.Common.{◌≡◌, ◌∙◌, ◌+◌, arith, ap, length, List, ℕ}
use Rattle.std.proofs.lemmas.List.{length-map}
use Rattle.meeting_index.specs.Named.{named_number}
use Rattle.meeting_index.proofs.Shares.{start-kept, starts-rise}
use Rattle.meeting_index.proofs.table.SortedNumbers.bounds_of.Goals as goal

pub returns-clause-start : goal.returns-clause-start
returns-clause-start c =
    let s = c.args.self.now in
    start-kept s.names.items s.starts.items c.args.share c.index.result.now s.starts_are (omega (arith, c.requires)) c.index.ensures

pub returns-clause-end : goal.returns-clause-end
returns-clause-end c =
    let s = c.args.self.now in
    start-kept s.names.items s.starts.items (c.args.share + 1) c.index-2.result.now s.starts_are (omega (arith, c.requires)) c.index-2.ensures

pub returns-clause-order : goal.returns-clause-order
returns-clause-order c =
    let s = c.args.self.now in
    starts-rise s.names.items c.args.share c.index.result.now c.index-2.result.now
    (start-kept s.names.items s.starts.items c.args.share c.index.result.now s.starts_are (omega (arith, c.requires)) c.index.ensures)
    (start-kept s.names.items s.starts.items (c.args.share + 1) c.index-2.result.now s.starts_are (omega (arith, c.requires)) c.index-2.ensures)

pub returns-clause-names : goal.returns-clause-names
returns-clause-names c =
    let s = c.args.self.now in
    (start-kept s.names.items s.starts.items (c.args.share + 1) c.index-2.result.now s.starts_are (omega (arith, c.requires)) c.index-2.ensures).within

pub returns-clause-numbers : goal.returns-clause-numbers
returns-clause-numbers c =
    let s = c.args.self.now in
    let long : length s.numbers.items ≡ length s.names.items = ap (λ (ns : List ℕ). length ns) s.numbers_are ∙ length-map s.names.items named_number in
    let end = start-kept s.names.items s.starts.items (c.args.share + 1) c.index-2.result.now s.starts_are (omega (arith, c.requires)) c.index-2.ensures in
    omega (arith, long, end.within)
