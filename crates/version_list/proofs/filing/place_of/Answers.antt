-- The row of a name is there, or goes to the end.
use Rattle.std.proofs.Common.{◌≡◌, ◌<◌, [], ◌∷◌, ◌++◌, map, length, ap, ◌∙◌, arith}
use Rattle.std.proofs.lemmas.List.{map_push, length-map}
use Rattle.std.specs.List.{position_or_len}
use Rattle.ascii.specs.Texts.{is_same}
use Rattle.version_list.specs.Rows.{RowText, row_read}
use Rattle.version_list.proofs.OneName.{named-there, named-missing, within-apart, sizes-named}
use Rattle.version_list.proofs.filing.place_of.Goals as goal

pub returns-in_ok-push-clause-rows : goal.returns-in_ok-push-clause-rows
returns-in_ok-push-clause-rows c =
    let last : position_or_len (is_same c.args.name.now) c.args.names.now ≡ length c.args.names.now =
    omega (arith, c.in_ok-place.ensures.number, c.len.ensures, c.requires, c.if-place-len.true) in
    ap (map row_read) c.in_ok-push.ensures.items
    ∙ map_push row_read c.args.rows.now.items c.new.result
    ∙ ap (λ (row : RowText). map row_read c.args.rows.now.items ++ row ∷ []) c.new.ensures
    ∙ named-missing c.args.name.now c.args.names.now (map row_read c.args.rows.now.items) last

pub returns-in_ok-push-clause-sizes : goal.returns-in_ok-push-clause-sizes
returns-in_ok-push-clause-sizes c =
    sizes-named c.args.names.now (map row_read c.args.rows.now.items) c.args.name.now (length-map c.args.rows.now.items row_read ∙ c.requires)
    c.push.new.self.items c.add.new.self (returns-in_ok-push-clause-rows c) c.in_ok-place.ensures.added

pub returns-else-place-len-clause-rows : goal.returns-else-place-len-clause-rows
returns-else-place-len-clause-rows c =
    let here : c.in_ok-place.place < length c.args.names.now =
    within-apart c.args.name.now c.args.names.now c.in_ok-place.place (length c.args.names.now) c.in_ok-place.ensures.number (omega arith)
    (λ e. c.if-place-len.false (omega (arith, e, c.len.ensures, c.requires))) in
    named-there c.args.name.now c.args.names.now (map row_read c.args.rows.now.items) (omega (arith, c.in_ok-place.ensures.number, here))

pub returns-else-place-len-clause-sizes : goal.returns-else-place-len-clause-sizes
returns-else-place-len-clause-sizes c =
    sizes-named c.args.names.now (map row_read c.args.rows.now.items) c.args.name.now (length-map c.args.rows.now.items row_read ∙ c.requires)
    c.args.rows.now.items c.add.new.self (returns-else-place-len-clause-rows c) c.in_ok-place.ensures.added

pub returns-else-place-len-clause-inside : goal.returns-else-place-len-clause-inside
returns-else-place-len-clause-inside c =
    within-apart c.args.name.now c.args.names.now c.in_ok-place.place (length c.args.rows.now.items) c.in_ok-place.ensures.number c.requires
    (λ e. c.if-place-len.false (omega (arith, e, c.len.ensures)))
