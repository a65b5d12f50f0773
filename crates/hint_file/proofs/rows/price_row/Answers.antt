use Rattle.std.proofs.Common.{◌∙◌, inl, inr, ap, sym}
use Rattle.std.proofs.lemmas.Result.{MatchResult-weaker}
use Rattle.std.specs.List.{list_any}
use Rattle.hint_file.specs.Scenes.{scene_of}
use Rattle.hint_file.proofs.RowsRead.{is_much, past-read, row-read}
use Rattle.hint_file.proofs.rows.price_row.Goals as goal

pub returns : goal.returns
returns c =
    let s = scene_of c.args.setting.now in
    let hints = c.args.hints.now in
    let terms = c.args.terms.now in
    let row = c.in_ok-row.row.items in
    let is = c.in_ok-row.ensures in
    let same = c.deref.ensures.value in
    MatchResult-weaker c.narrowed.result c.narrowed.ensures
    (λ list h. (
      sym (past-read s hints terms row is) ∙ ap (list_any is_much) (sym same) ∙ h.0,
      h.1 ∙ same ∙ row-read s hints terms row is (ap (list_any is_much) (sym same) ∙ h.0),
    ))
    (λ end h. elim h [
      | inl memory ↦ inl memory
      | inr past ↦ inr (past.0, sym (past-read s hints terms row is) ∙ ap (list_any is_much) (sym same) ∙ past.1)
    ])
