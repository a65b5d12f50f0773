-- No slot is taken, and there are no names.
use Rattle.std.proofs.Common.{sym, subst, ℕ, List, []}
use Rattle.universe_parts.specs.Names.{AreNumbered}
use Rattle.universe_parts.proofs.Slots.{numbered-none}
use Rattle.universe_parts.proofs.names.free_slots.Goals as goal

pub returns-clause-free : goal.returns-clause-free
returns-clause-free c =
    subst (λ (slots : List ℕ). AreNumbered [] slots []) (sym (c.in_ok-slots.ensures.items_if_clones_equal (λ y e. e))) (numbered-none c.args.count)
