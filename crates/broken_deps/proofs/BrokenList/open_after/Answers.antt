use Rattle.std.proofs.Common.{◌≡◌, ◌<◌, ◌≤◌, ◌++◌, ◌∙◌, ap, nat_lt, arith}
use Rattle.std.specs.List.{filter, list_all}
use Rattle.std.proofs.lemmas.Bool.{lt-ltb, le-ltb}
use Rattle.resolver_model.specs.Problems.{dependency_count, version_count, package_of, state, is_open}
use Rattle.broken_deps.specs.Opening.{open_deps, nearby, stays_open}
use Rattle.broken_deps.proofs.After.{still_open, open_after_version, open_after_leave}
use Rattle.broken_deps.proofs.Found.{open_range, state_range}
use Rattle.broken_deps.proofs.BrokenList.open_after.Goals as goal

pub add_still_open-requires : goal.add_still_open-requires
add_still_open-requires c =
    let p = c.args.problem.now in
    let deps : c.as_slice.result.now ≡ open_deps p c.args.set.now = c.as_slice.ensures.value ∙ c.self.view_is ∙ c.requires.list in
    ap (list_all (λ d. nat_lt d (dependency_count p))) deps ∙ open_range p c.args.set.now

pub add_nearby-requires-clause-before : goal.add_nearby-requires-clause-before
add_nearby-requires-clause-before c =
    let p = c.args.problem.now in
    omega (arith, c.state-before.ensures, state_range p c.versions.ensures.formed c.args.set.now c.package_of.result c.package_of.ensures.range)

pub returns-then-choice-versions : goal.returns-then-choice-versions
returns-then-choice-versions c =
    let p = c.args.problem.now in
    let set = c.args.set.now in
    let deps : c.as_slice.result.now ≡ open_deps p set = c.as_slice.ensures.value ∙ c.self.view_is ∙ c.requires.list in
    let start : c.add_still_open.new.list.items ≡ filter (stays_open p c.args.larger.now c.args.choice) c.as_slice.result.now =
    c.in_ok-add_still_open.ensures ∙ ap (λ xs. xs ++ filter (stays_open p c.args.larger.now c.args.choice) c.as_slice.result.now) c.new-list.ensures.items in
    let still = still_open p set c.args.larger.now c.args.choice c.as_slice.result.now c.add_still_open.new.list.items c.requires.larger deps start in
    let le : version_count p ≤ c.args.choice = omega (arith, c.versions.ensures.count, c.if-choice-versions.true) in
    open_after_leave p set c.args.larger.now c.args.choice c.add_still_open.new.list.items (le-ltb c.args.choice (version_count p) le) still

pub returns : goal.returns
returns c =
    let p = c.args.problem.now in
    let set = c.args.set.now in
    let deps : c.as_slice.result.now ≡ open_deps p set = c.as_slice.ensures.value ∙ c.self.view_is ∙ c.requires.list in
    let start : c.add_still_open.new.list.items ≡ filter (stays_open p c.args.larger.now c.args.choice) c.as_slice.result.now =
    c.in_ok-add_still_open.ensures ∙ ap (λ xs. xs ++ filter (stays_open p c.args.larger.now c.args.choice) c.as_slice.result.now) c.new-list.ensures.items in
    let still = still_open p set c.args.larger.now c.args.choice c.as_slice.result.now c.add_still_open.new.list.items c.requires.larger deps start in
    let lt : c.args.choice < version_count p = omega (arith, c.versions.ensures.count, c.if-choice-versions.false) in
    let before : c.state-before.result ≡ state p set (package_of p c.args.choice) = c.state-before.ensures ∙ ap (state p set) c.package_of.ensures.package in
    open_after_version p set c.args.larger.now c.args.choice c.state-before.result c.add_still_open.new.list.items c.add_nearby.new.list.items (lt-ltb c.args.choice (version_count p) lt) before still
    (c.in_ok-add_nearby.ensures ∙ ap (λ larger. c.add_still_open.new.list.items ++ filter (is_open p larger) (nearby p c.args.choice c.state-before.result)) c.under-installed.ensures.set)
