use Rattle.std.proofs.Common.{◌≡◌, true, false, [], ap, Vec, Global, ℕ}
use Rattle.lists.proofs.Below.{filter-below_yes, filter-below_no}
use Rattle.resolver_model.specs.Problems.{is_broken}
use Rattle.problem.proofs.parts.Parts.broken_at_start.Goals as goal
use Rattle.problem.proofs.parts.Parts.broken_at_start.Goals.{then-is_unmet+in_ok-push, else-is_unmet}

pub loop-dep-preserved : goal.loop-dep-preserved
loop-dep-preserved c =
    let own = c.args.self.now in
    elim c.if-is_unmet.branch [
      | then-is_unmet+in_ok-push w ↦
          let yes : is_broken own [] c.loop-dep.dep ≡ true = cc (c.is_unmet.ensures, c.source.ensures.source, c.targets.ensures.targets, w.if-is_unmet.true) in
          let more = filter-below_yes (is_broken own []) c.loop-dep.dep yes in
          let same : c.if-is_unmet.list.items ≡ w.push.new.self.items = ap (λ (v : Vec ℕ Global). v.items) w.list-is in
          cc (same, w.in_ok-push.ensures.items, c.loop-dep.invariant, more)
      | else-is_unmet w ↦
          let no : is_broken own [] c.loop-dep.dep ≡ false = cc (c.is_unmet.ensures, c.source.ensures.source, c.targets.ensures.targets, w.if-is_unmet.false) in
          let more = filter-below_no (is_broken own []) c.loop-dep.dep no in
          let same : c.if-is_unmet.list.items ≡ c.loop-dep.list.items = ap (λ (v : Vec ℕ Global). v.items) w.list-is in
          cc (same, c.loop-dep.invariant, more)
    ]
