use Rattle.std.proofs.Common.{inr, ◌≡◌, [], ap, sym, subst, ◌∙◌}
use Rattle.resolve_cli.specs.Reports.{scene}
use Rattle.resolver_model.specs.Answers.{Setting}
use Rattle.resolver_model.specs.Histories.{History}
use Rattle.resolver_model.specs.Legal.{IsLegal}
use Rattle.search_core.specs.Sessions.{Session, setting_of}
use Rattle.talk.specs.Runs.{IsOver}
use Rattle.talk.specs.Transcripts.{Script, script_of}
use Rattle.resolve_cli.proofs.run.speak.Goals as goal

pub returns : goal.returns
returns g c =
    let basis = c.args.speaker.now.basis.now in
    let s : Setting = setting_of basis.problem basis.table c.args.rules c.args.slice 1 in
    let script : Script = script_of c.args.speaker.now in
    let input = g.I.Source.state c.args.input.now in
    let out = g.O.Sink.state c.args.out.now in
    let input_now = g.I.Source.state c.converse-status.new.input in
    let out_now = g.O.Sink.state c.converse-status.new.out in
    let status = c.converse-status.result in
    let lines = c.converse-status.new.lines in
    let session = c.converse-status.new.session in
    let history = c.into_history.result.items in
    let setting : session.setting ≡ s = c.converse-status.ensures.setting ∙ ap (λ (x : Session). x.setting) c.in-Ok.ensures in
    let none : c.in-Ok.session.history ≡ [] = ap (λ (x : Session). x.history) c.in-Ok.ensures in
    let entries : session.history ≡ history = sym c.into_history.ensures.entries in
    let L : Setting → Type 0 = λ x. IsLegal x history in
    let H : History → Type 0 = λ h. IsLegal session.setting h in
    let O : History → Type 0 = λ h. IsOver script status lines (scene h input out) (scene session.history input_now out_now) in
    let N : History → Type 0 = λ h. IsOver script status lines (scene [] input out) (scene h input_now out_now) in
    inr (record {
      legal = subst L setting (subst H entries c.into_history.ensures.legal);
      over = subst N entries (subst O none c.converse-status.ensures.over);
    })
