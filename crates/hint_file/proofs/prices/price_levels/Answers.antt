use Rattle.std.proofs.Common.{◌∙◌, ◌+◌, ℕ, List, inl, inr, length, refl, sym, ap, ap₂}
use Rattle.std.proofs.lemmas.List.{length-map}
use Rattle.std.proofs.lemmas.Result.{err_from_is_err_and}
use Rattle.lists.specs.Below.{below}
use Rattle.lists.proofs.Below.{length-below}
use Rattle.resolver_model.specs.Costs.{Table, empty_table}
use Rattle.hint_file.specs.Prices.{amount_of, choice_numbers, row_of, is_row_past}
use Rattle.hint_file.specs.Rows.{with_row}
use Rattle.hint_file.specs.Scenes.{scene_of}
use Rattle.hint_file.proofs.TableRows.{none-priced, level-next, little-next, much-here}
use Rattle.hint_file.proofs.prices.price_levels.Goals as goal

pub loop-place-init : goal.loop-place-init
loop-place-init c = record {
  little = refl;
  table = c.in_ok-table.ensures ∙ ap₂ empty_table (c.deref.ensures.value ∙ c.in_ok-kinds.ensures) (ap₂ (λ a b. a + b) c.versions.ensures.count c.deps.ensures)
      ∙ none-priced (scene_of c.args.setting.now) c.args.hints.now c.args.levels.now;
}

pub returns-in_err-row : goal.returns-in_err-row
returns-in_err-row c =
    let s = scene_of c.args.setting.now in
    let hints = c.args.hints.now in
    let p = err_from_is_err_and c.from_residual-in_err-row.result c.from_residual-in_err-row.ensures.1 in
    rw (p.1, p.2) (elim c.in_err-row.ensures [
      | inl memory ↦ inl memory
      | inr past ↦ inr (
        past.0,
        much-here s hints c.args.levels.now c.loop-place.place c.index-levels-place.result c.loop-place-test.true c.index-levels-place.is
            (ap (is_row_past s hints) (sym c.as_slice.ensures) ∙ past.1),
      )
    ])

pub set_row-requires-clause-row : goal.set_row-requires-clause-row
set_row-requires-clause-row c =
    let s = scene_of c.args.setting.now in
    let hints = c.args.hints.now in
    ap length (c.deref-in-loop-place.ensures.value ∙ c.in_ok-row.ensures.1)
    ∙ length-map (below (choice_numbers s.problem)) (amount_of s hints c.as_slice.result.now)
    ∙ length-below (choice_numbers s.problem)
    ∙ sym (ap (λ (t : Table). t.choices) c.loop-place.invariant.table)

pub loop-place-preserved : goal.loop-place-preserved
loop-place-preserved c =
    let s = scene_of c.args.setting.now in
    let hints = c.args.hints.now in
    let levels = c.args.levels.now in
    let k = c.loop-place.place in
    let level = c.index-levels-place.result in
    record {
      little = little-next s hints levels k level c.loop-place-test.true c.index-levels-place.is c.loop-place.invariant.little
          (ap (is_row_past s hints) (sym c.as_slice.ensures) ∙ c.in_ok-row.ensures.0);
      table = c.set_row.ensures
          ∙ ap₂ (λ (t : Table) (row : List ℕ). with_row t k row) c.loop-place.invariant.table (c.deref-in-loop-place.ensures.value ∙ c.in_ok-row.ensures.1 ∙ ap (row_of s hints) c.as_slice.ensures)
          ∙ level-next s hints levels k level c.loop-place-test.true c.index-levels-place.is;
    }
