-- What is at a name is in its share.
use Rattle.std.proofs.Common.{◌∙◌, ◌+◌, ◌-◌, ◌≤◌, arith, sym, ap, length, subst, List, ℕ, map, take, drop}
use Rattle.std.proofs.lemmas.List.{drop-map, take-map}
use Rattle.std.specs.List.Sorted.{IsSorted}
use Rattle.meeting_index.specs.Named.{named_number, named_order, numbers_in, share_of}
use Rattle.meeting_index.specs.Starts.{IsStart}
use Rattle.meeting_index.specs.declared.named.Named.{Named}
use Rattle.meeting_index.proofs.NamedRuns.{sorted-part}
use Rattle.meeting_index.proofs.Shares.{share-filter}
use Rattle.meeting_index.proofs.table.SortedNumbers.at.Goals as goal

pub numbers_among-requires-clause-sorted : goal.numbers_among-requires-clause-sorted
numbers_among-requires-clause-sorted c =
    let names = c.args.self.now.names.items in
    let low = c.bounds_of-low.result.0 in
    let high = c.bounds_of-low.result.1 in
    let part : low + (high - low) ≤ length names = omega (arith, c.bounds_of-low.ensures.order, c.bounds_of-low.ensures.names) in
    subst (λ (ns : List Named). IsSorted named_order (take (high - low) (drop low ns))) (sym c.deref.ensures.value) (sorted-part low (high - low) names part c.args.self.now.sorted)

pub numbers_among-requires-clause-numbers : goal.numbers_among-requires-clause-numbers
numbers_among-requires-clause-numbers c =
    let names = c.args.self.now.names.items in
    let low = c.bounds_of-low.result.0 in
    let high = c.bounds_of-low.result.1 in
    ap (λ (ns : List ℕ). take (high - low) (drop low ns)) (c.deref-2.ensures.value ∙ c.args.self.now.numbers_are)
    ∙ ap (take (high - low)) (drop-map named_number low names)
    ∙ take-map named_number (high - low) (drop low names)
    ∙ ap (λ (ns : List Named). map named_number (take (high - low) (drop low ns))) (sym c.deref.ensures.value)

pub returns : goal.returns
returns c =
    let names = c.args.self.now.names.items in
    let low = c.bounds_of-low.result.0 in
    let high = c.bounds_of-low.result.1 in
    let sought = c.new-sought.result in
    let first : IsStart names (share_of sought) low = subst (λ n. IsStart names n low) c.share.ensures.share c.bounds_of-low.ensures.start in
    let last : IsStart names (share_of sought + 1) high = subst (λ n. IsStart names (n + 1) high) c.share.ensures.share c.bounds_of-low.ensures.end in
    c.numbers_among.ensures
    ∙ ap (λ (ns : List Named). numbers_in (take (high - low) (drop low ns)) sought.bytes.now) c.deref.ensures.value
    ∙ ap (map named_number) (sym (share-filter sought names low high first last))
    ∙ ap (numbers_in names) c.new-sought.ensures.bytes
