use Rattle.std.proofs.Common.{arith, map, length, rules, slice_index_or}
use Rattle.std.proofs.lemmas.List.{length-map}
use Rattle.universe_model.specs.Universes.{known, nothing_known}
use Rattle.universe_parts.specs.Listed.{version_listed}
use Rattle.laws_universe.proofs.KnownOrder.{known_order-total}
use Rattle.universe.proofs.Ordered.{all-in, sorted-from_clause}
use Rattle.universe.proofs.order.versions_in_order.Goals as goal

pub returns : goal.returns
returns c =
    let vs = map known (map version_listed c.args.versions.now) in
    record {
      sorted = sorted-from_clause known_order-total (λ v. slice_index_or vs v nothing_known) c.sort_unstable_by.new.self.items c.sort_unstable_by.ensures.sorted (λ a r g called. search rules);
      all = λ v less.
          all-in (length c.args.versions.now) c.in_ok-order.order.items c.sort_unstable_by.new.self.items c.in_ok-order.ensures c.sort_unstable_by.ensures.permutation v
          (omega (arith, less, length-map c.args.versions.now version_listed, length-map (map version_listed c.args.versions.now) known));
    }
