-- Each crowded row so far has its crowd, and the next one gets it.
use Rattle.std.proofs.Common.{◌≡◌, ◌<◌, true, ap, ℕ, List, get_or, subst, arith, ◌+◌, length}
use Rattle.std.proofs.lemmas.List.{get_or_read}
use borrow.Author.Count.{below_more}
use Rattle.meeting_index.specs.Crowds.{ArePut, is_crowd}
use Rattle.meeting_index.specs.Provided.{carriers_listed}
use Rattle.meeting_index.specs.declared.rows.NumberRow.{NumberRow}
use Rattle.meeting_index.proofs.crowds.crowd_packages.Goals as goal

pub loop-row-preserved : goal.loop-row-preserved
loop-row-preserved c =
    let items = c.rows-row-items.result.now in
    let i = c.loop-row.row-index in
    let IsThere : NumberRow → Type 0 = λ x. is_crowd x.numbers.items ≡ true → ArePut (carriers_listed c.args.carriers.now) c.args.named.now c.crowd_row.new.crowds x.bytes.now in
    let there : (k : ℕ) → k < i + 1 → (d : NumberRow) → IsThere (get_or items k d) =
    below_more (λ k. (d : NumberRow) → IsThere (get_or items k d)) i
    (λ k lt d crowded many other same. c.in_ok-crowd_row.ensures.stay other (c.loop-row.invariant.there k d lt crowded many other same))
    (λ d. subst IsThere (get_or_read items i c.row-item.result c.loop-row-test.true c.row-item.is d) (λ crowded many other same. c.in_ok-crowd_row.ensures.there crowded many other same)) in
    record {
      right = c.in_ok-crowd_row.ensures.right;
      there = λ k d lt crowded many other same. there k lt d crowded many other same;
    }

pub returns-clause-there : goal.returns-clause-there
returns-clause-there c = λ k d lt crowded.
    subst (λ (rows : List NumberRow). is_crowd (get_or rows k d).numbers.items ≡ true → ArePut (carriers_listed c.args.carriers.now) c.args.named.now c.loop-row.crowds (get_or rows k d).bytes.now) c.rows-row-items.ensures
    (c.loop-row.invariant.there k d (omega (arith, lt, c.loop-row-test.false, ap (λ (rows : List NumberRow). length rows) c.rows-row-items.ensures))) crowded
