use Rattle.std.proofs.Common.{◌≡◌, false, rules, ◌∙◌, sym, subst, Equal}
use Rattle.std.specs.Ordering.{nat_cmp, is_ne}
use Rattle.deb_version.specs.Versions.{parts}
use Rattle.deb_version.specs.VersionOrder.{number, part_order, version_order}
use Rattle.deb_version.proofs.Keys.{version_order-preorder, by_revision}
use Rattle.deb_version.proofs.compare.Goals as goal

pub returns-then-is_ne-clause-preorder : goal.returns-then-is_ne-clause-preorder
returns-then-is_ne-clause-preorder c = version_order-preorder

pub returns-then-is_ne-2-clause-preorder : goal.returns-then-is_ne-2-clause-preorder
returns-then-is_ne-2-clause-preorder c = version_order-preorder

pub returns-clause-order : goal.returns-clause-order
returns-clause-order c =
    let a = parts c.args.a.now.text.now in
    let b = parts c.args.b.now.text.now in
    let last : c.compare_parts.result ≡ part_order a.revision b.revision = search rules in
    let first : is_ne (nat_cmp (number a.epoch) (number b.epoch)) ≡ false = search rules in
    let second : is_ne (part_order a.upstream b.upstream) ≡ false = search rules in
    last ∙ by_revision a b first second

pub returns-clause-preorder : goal.returns-clause-preorder
returns-clause-preorder c = version_order-preorder

pub returns-then-eq-clause-order : goal.returns-then-eq-clause-order
returns-then-eq-clause-order c =
    let a = c.args.a.now.text.now in
    let same : a ≡ c.args.b.now.text.now = search rules in
    subst (λ b. Equal ≡ version_order (parts a) (parts b)) same (sym (version_order-preorder.reflexive (parts a)))

pub returns-then-eq-clause-preorder : goal.returns-then-eq-clause-preorder
returns-then-eq-clause-preorder c = version_order-preorder
