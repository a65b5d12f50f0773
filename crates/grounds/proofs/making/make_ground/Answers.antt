use Rattle.std.proofs.Common.{inl, map, refl, sym, ap, subst, string_bytes}
use Rattle.std.proofs.lemmas.Result.{err_from_is_err_and}
use Rattle.resolve_words.specs.Given.{given_by}
use Rattle.resolver_model.specs.Rules.{Rules}
use Rattle.search_core.specs.Begins.{MayBegin}
use Rattle.sources.specs.Sources.{sources_of}
use Rattle.grounds.proofs.Beginnings.{may_begin}
use Rattle.grounds.proofs.Refusals.{refused_by_hints, refused_by_actions, refused_by_prices, is_ground}
use Rattle.grounds.proofs.making.make_ground.Goals as goal

pub returns-in_err-hints-clause-ground : goal.returns-in_err-hints-clause-ground
returns-in_err-hints-clause-ground c =
    let p = err_from_is_err_and c.from_residual-in_err-hints.result c.from_residual-in_err-hints.ensures.1 in
    rw (p.1, p.2) (refused_by_hints (given_by c.args.settings.now) (sources_of c.args.sources.now) c.in_ok-universe.universe c.as_slice.result.now _
    c.in_ok-universe.ensures.0 c.in_ok-universe.ensures.1 c.as_slice.ensures.value refl _ c.in_err-hints.ensures)

pub returns-in_err-wanted-clause-ground : goal.returns-in_err-wanted-clause-ground
returns-in_err-wanted-clause-ground c =
    let p = err_from_is_err_and c.from_residual-in_err-wanted.result c.from_residual-in_err-wanted.ensures.1 in
    rw (p.1, p.2) (refused_by_actions (given_by c.args.settings.now) (sources_of c.args.sources.now) c.in_ok-universe.universe c.as_slice.result.now (map string_bytes c.as_slice-2.result.now)
    c.in_ok-universe.ensures.0 c.in_ok-universe.ensures.1 c.as_slice.ensures.value (ap (map string_bytes) c.as_slice-2.ensures.value) c.in_ok-hints.ensures.0 _ c.in_err-wanted.ensures.read)

pub returns-in_err-table-clause-ground : goal.returns-in_err-table-clause-ground
returns-in_err-table-clause-ground c =
    let p = err_from_is_err_and c.from_residual-in_err-table.result c.from_residual-in_err-table.ensures.1 in
    rw (p.1, p.2) (refused_by_prices (given_by c.args.settings.now) (sources_of c.args.sources.now) c.in_ok-universe.universe c.as_slice.result.now (map string_bytes c.as_slice-2.result.now)
    c.in_ok-universe.ensures.0 c.in_ok-universe.ensures.1 c.as_slice.ensures.value (ap (map string_bytes) c.as_slice-2.ensures.value) c.in_ok-hints.ensures.0 c.in_ok-wanted.ensures.read.0
    c.in_ok-hints.hints c.in_ok-hints.ensures.1 c.in_ok-wanted.wanted c.in_ok-wanted.ensures.read.1 c.in_ok-problem.problem c.in_ok-problem.ensures _ c.in_err-table.ensures)

pub returns-in_err-rules-clause-ground : goal.returns-in_err-rules-clause-ground
returns-in_err-rules-clause-ground c =
    let p = err_from_is_err_and c.from_residual-in_err-rules.result c.from_residual-in_err-rules.ensures.1 in
    rw (p.1, p.2) (inl c.in_err-rules.ensures)

pub returns-clause-ground : goal.returns-clause-ground
returns-clause-ground c =
    is_ground (given_by c.args.settings.now) (sources_of c.args.sources.now) c.in_ok-universe.universe c.as_slice.result.now (map string_bytes c.as_slice-2.result.now)
    c.in_ok-universe.ensures.0 c.in_ok-universe.ensures.1 c.as_slice.ensures.value (ap (map string_bytes) c.as_slice-2.ensures.value) c.in_ok-hints.ensures.0 c.in_ok-wanted.ensures.read.0
    c.in_ok-hints.hints c.in_ok-hints.ensures.1 c.in_ok-wanted.wanted c.in_ok-wanted.ensures.read.1 c.in_ok-problem.problem c.in_ok-problem.ensures
    _ refl refl c.in_ok-table.ensures.0 c.in_ok-table.ensures.1 c.in_ok-rules.ensures

pub returns-clause-begins : goal.returns-clause-begins
returns-clause-begins c = λ actors one.
    subst (λ (rules : Rules). MayBegin c.in_ok-problem.problem c.in_ok-table.table rules c.args.settings.now.slice actors) (sym c.in_ok-rules.ensures)
    (may_begin c.in_ok-problem.problem c.in_ok-table.table c.in_ok-hints.hints c.args.settings.now.slice actors c.args.settings.now.slice_from one)
