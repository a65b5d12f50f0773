use Rattle.std.proofs.Common.{◌-◌}
use Rattle.resolver_model.specs.Histories.{puts_since}
use Rattle.search_core.specs.Sessions.{IsFor}
use Rattle.lone_search.specs.Answers.{is_step}
use Rattle.lone_search.specs.Steps.{IsGoneOn, IsSearching}
use Rattle.lone_search.proofs.search.Given as goal

abbrev pub invariant-loop-session : goal.invariant-loop-session
invariant-loop-session l = record {
  gone : IsGoneOn is_step l.initial.session l.session;
  same : IsFor l.session l.basis.problem l.basis.table;
  searching : IsSearching l.session;
}

abbrev pub decreases-loop-session : goal.decreases-loop-session
decreases-loop-session l = l.session.setting.slice - puts_since 0 l.session.history
