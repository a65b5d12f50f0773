-- The row of a package has one number more.
use Rattle.std.proofs.Common.{◌≡◌, ◌∙◌, sym, ap, ℕ, List, [], ◌∷◌, ◌++◌, Some}
use Rattle.std.specs.List.{position}
use Rattle.ascii.specs.Texts.{is_same}
use Rattle.meeting_index.specs.Named.{numbers_in}
use Rattle.meeting_index.specs.Rows.{row_numbers}
use Rattle.meeting_index.proofs.NumberRows.{numbers-more, numbers-read, rows-set}
use Rattle.meeting_index.proofs.rows.add_number.Goals as goal

pub returns-clause-rows : goal.returns-clause-rows
returns-clause-rows c =
    rows-set c.args.names.now c.args.rows.now.items c.requires c.args.bytes.now c.args.number c.in-Some.place c.add_to_row.new.row (sym c.place_of.ensures ∙ c.in-Some.is) c.in_ok-add_to_row.ensures.bytes

pub returns-clause-added : goal.returns-clause-added
returns-clause-added c = λ other.
    let at : position (is_same c.args.bytes.now) c.args.names.now ≡ Some c.in-Some.place = sym c.place_of.ensures ∙ c.in-Some.is in
    numbers-more c.args.names.now c.args.rows.now.items c.requires c.args.bytes.now c.args.number c.in-Some.place c.add_to_row.new.row at
    (c.in_ok-add_to_row.ensures.numbers
    ∙ ap (λ (numbers : List ℕ). numbers ++ c.args.number ∷ []) (ap row_numbers c.index_mut.ensures.value ∙ numbers-read c.args.names.now c.args.rows.now.items c.requires c.args.bytes.now c.args.number c.in-Some.place c.index_mut.result.now at))
    (numbers_in c.args.others.now.items other.bytes.now) other.bytes.now
