use Rattle.std.proofs.Common.{◌∙◌, sym, ap, map, string_bytes, subst}
use Rattle.clap.specs.Words.{app_of, Kinds, kind_of, HasKind}
use Rattle.resolve_words.proofs.CommandTaken.{simple-as, free-as, rows-as, faults-as, end-as}
use Rattle.resolve_words.specs.ProgramCommand.{faults}
use Rattle.resolve_words.specs.Checked.{kind_end}
use Rattle.resolve_words.proofs.program_command.read_words.Goals as goal

pub returns-in-Ok : goal.returns-in-Ok
returns-in-Ok c =
    let a = app_of c.in_ok-program_command.field-0 in
    let words = map string_bytes c.args.words.now in
    let same = c.in_ok-program_command.ensures in (
      sym (faults-as a words same) ∙ c.in-Ok.ensures.kinds (free-as a words same),
      (c.in-Ok.ensures.matches (simple-as a words same)).0 ∙ rows-as a words same,
    )

pub returns-in-Err : goal.returns-in-Err
returns-in-Err c =
    let a = app_of c.in_ok-program_command.field-0 in
    let words = map string_bytes c.args.words.now in
    let same = c.in_ok-program_command.ensures in
    let kinds = subst (λ (ks : Kinds). HasKind ks c.in-Err.error) (faults-as a words same) (c.in-Err.ensures.kinds (free-as a words same)) in
    end-as (kind_of c.in-Err.error) (faults words) c.end_of.result (c.end_of.ensures ∙ ap kind_end c.kind.ensures) kinds
