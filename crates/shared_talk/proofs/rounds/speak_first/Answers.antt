use Rattle.std.proofs.Common.{sym, ◌∙◌}
use Rattle.shared_talk.proofs.Working.{all_can}
use Rattle.shared_talk.proofs.Dealing.{dealt, can_answer, no_stop, made_nothing, can_work, done}
use Rattle.shared_talk.proofs.rounds.speak_first.Goals as goal

pub converse_shared-requires-clause-ready : goal.converse_shared-requires-clause-ready
converse_shared-requires-clause-ready g c κs within =
    let cell = c.args.cell.now in
    let is = sym c.in-Some.ensures.cases.0 ∙ c.requires.passes in
    can_answer cell c.in-Some.talker.now c.in-Some.workers.now c.requires.no_entry (dealt cell cell.start.setting.actors c.in-Some.talker.now c.in-Some.workers.now c.requires.no_entry is)

pub converse_shared-requires-clause-stop : goal.converse_shared-requires-clause-stop
converse_shared-requires-clause-stop g c κs within =
    let cell = c.args.cell.now in
    let is = sym c.in-Some.ensures.cases.0 ∙ c.requires.passes in
    no_stop cell c.in-Some.talker.now c.in-Some.workers.now (dealt cell cell.start.setting.actors c.in-Some.talker.now c.in-Some.workers.now c.requires.no_entry is)

pub converse_shared-requires-clause-no_entry : goal.converse_shared-requires-clause-no_entry
converse_shared-requires-clause-no_entry g c κs within =
    let cell = c.args.cell.now in
    let is = sym c.in-Some.ensures.cases.0 ∙ c.requires.passes in
    made_nothing cell c.in-Some.talker.now c.in-Some.workers.now c.requires.no_entry (dealt cell cell.start.setting.actors c.in-Some.talker.now c.in-Some.workers.now c.requires.no_entry is)

pub converse_shared-requires-clause-workers : goal.converse_shared-requires-clause-workers
converse_shared-requires-clause-workers g c κs within =
    let cell = c.args.cell.now in
    let is = sym c.in-Some.ensures.cases.0 ∙ c.requires.passes in
    can_work cell c.in-Some.talker.now c.in-Some.workers.now (dealt cell cell.start.setting.actors c.in-Some.talker.now c.in-Some.workers.now c.requires.no_entry is)

pub returns-clause-done : goal.returns-clause-done
returns-clause-done g c =
    let cell = c.args.cell.now in
    let first = c.in-Some.talker.now in
    let olds = c.in-Some.workers.now in
    let is = sym c.in-Some.ensures.cases.0 ∙ c.requires.passes in
    let d = dealt cell cell.start.setting.actors first olds c.requires.no_entry is in
    let call = c.converse_shared.ensures in
    done cell first c.converse_shared.new.talker olds c.converse_shared.new.workers is d call.further.same call.ready call.workers
    (all_can cell olds c.converse_shared.new.workers call.workers (can_work cell first olds d))
