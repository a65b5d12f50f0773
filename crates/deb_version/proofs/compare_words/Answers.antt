use Rattle.std.proofs.Common.{◌≡◌, ◌+◌, true, false, arith, rules, ◌∙◌}
use Rattle.std.specs.Ordering.{int_cmp, is_ne}
use Rattle.deb_version.specs.VersionOrder.{rank_at}
use Rattle.deb_version.proofs.Turns.{place_decides, place_equal}
use Rattle.deb_version.proofs.compare_words.Goals as goal

pub returns-then-is_ne : goal.returns-then-is_ne
returns-then-is_ne c =
    let a = c.args.a.now in
    let b = c.args.b.now in
    let e : c.cmp-order.result ≡ int_cmp (rank_at a c.loop-place.place) (rank_at b c.loop-place.place) = search rules in
    let h : is_ne c.cmp-order.result ≡ true = search rules in
    place_decides a b c.loop-place.place c.cmp-order.result e h ∙ c.loop-place.invariant

pub loop-place-preserved : goal.loop-place-preserved
loop-place-preserved c =
    let a = c.args.a.now in
    let b = c.args.b.now in
    let e : c.cmp-order.result ≡ int_cmp (rank_at a c.loop-place.place) (rank_at b c.loop-place.place) = search rules in
    let h : is_ne c.cmp-order.result ≡ false = search rules in
    place_equal a b c.loop-place.place (c.loop-place.place + 1) c.cmp-order.result (omega arith) e h ∙ c.loop-place.invariant
