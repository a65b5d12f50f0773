use Rattle.std.proofs.Common.{◌≡◌, ◌++◌, ◌∷◌, [], ◌∙◌, List, ap, sym, get_or, take, append_assoc, arith}
use Rattle.std.proofs.lemmas.List.{take_all, take_more}
use Rattle.requirement_list.specs.Left.{Left, nothing_left}
use Rattle.requirement_list.proofs.left.LeftTable.append.Goals as goal

pub loop-place-preserved : goal.loop-place-preserved
loop-place-preserved c =
    let other = c.args.other.now in
    let old = c.args.self.now in
    let place = c.loop-place.place in
    let left = get_or other place nothing_left in
    let pushed : c.push.new.self ≡ c.loop-place.self ++ left ∷ [] = rw (c.owner.ensures, c.versions.ensures) at c.in_ok-push.ensures in
    pushed ∙ ap (λ (lefts : List Left). lefts ++ left ∷ []) c.loop-place.invariant ∙ append_assoc old (take place other) (left ∷ [])
    ∙ ap (λ (lefts : List Left). old ++ lefts) (sym (take_more other place nothing_left (omega (arith, c.len-place-end.ensures, c.loop-place-test.true))))

pub returns : goal.returns
returns c =
    let old = c.args.self.now in
    c.loop-place.invariant ∙ ap (λ (lefts : List Left). old ++ lefts) (take_all c.loop-place.place c.args.other.now (omega (arith, c.len-place-end.ensures, c.loop-place-test.false)))
