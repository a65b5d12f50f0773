use Rattle.std.proofs.Common.{◌≡◌, ◌+◌, ◌<◌, ◌∷◌, ◌++◌, [], length, map, take, set, ap, sym, ◌∙◌, arith, length-append}
use Rattle.std.proofs.lemmas.List.{map-append, take_more_set}
use Rattle.control_file.specs.Raw.{raw_text}
use Rattle.control_file.proofs.raw.FrontFields.keep.Goals as goal

pub returns-then-place-lt-MOST_KEPT : goal.returns-then-place-lt-MOST_KEPT
returns-then-place-lt-MOST_KEPT c = λ fields is kept few.
    let items = c.args.self.now.items in
    let field = c.args.field in
    let place = c.args.place in
    let room : place < length items = omega (arith, c.args.self.now.whole, c.if-place-lt-MOST_KEPT.true) in
    let long : length (fields ++ raw_text field ∷ []) ≡ place + 1 = omega (arith, is, length-append fields (raw_text field ∷ [])) in
    let before : map raw_text (take place items) ≡ fields = ap (λ k. map raw_text (take k items)) (sym is) ∙ kept (omega (arith, is, few, long)) in
    ap (λ k. map raw_text (take k (set items place field))) long
    ∙ ap (map raw_text) (take_more_set items place field room)
    ∙ map-append raw_text (take place items) (field ∷ [])
    ∙ ap (λ fs. fs ++ raw_text field ∷ []) before

pub returns-else-place-lt-MOST_KEPT : goal.returns-else-place-lt-MOST_KEPT
returns-else-place-lt-MOST_KEPT c = λ fields is kept few. absurd (omega (arith, is, few, length-append fields (raw_text c.args.field ∷ []), c.if-place-lt-MOST_KEPT.false))
