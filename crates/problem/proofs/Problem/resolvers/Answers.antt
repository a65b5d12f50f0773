use Rattle.std.proofs.Common.{arith, ◌≡◌, ◌≤◌, ◌++◌, sym, ap, ◌∙◌, subst, ℕ, List, IsTrue}
use Rattle.lists.specs.Sets.{is_rising}
use Rattle.resolver_model.specs.Problems.{package_of, dependency, resolvers, version_count}
use Rattle.problem.specs.Places.{absent_of, end_of}
use Rattle.problem.specs.Resolving.{free_targets, free_versions, leave_choices}
use Rattle.problem.proofs.Ranges.{absent-le-end}
use Rattle.problem.proofs.Merged.{pieces, joined_pieces, pieces_resolve, rising_resolvers}
use Rattle.problem.proofs.Problem.resolvers.Goals as goal

pub push_versions-requires : goal.push_versions-requires
push_versions-requires c =
    let p = c.args.self.now in
    let q = c.package_of-package.result in
    let le : absent_of p q ≤ end_of p q = absent-le-end p c.versions-versions.ensures.formed q c.package_of-package.ensures.range in
    omega (arith, le, c.absent_of-first.ensures.absent, c.end_of-end.ensures.end)

pub from_list-requires : goal.from_list-requires
from_list-requires c =
    let p = c.args.self.now in
    let set = c.args.set.now in
    let d = c.args.dep in
    let first = c.absent_of-first.result in
    let end = c.end_of-end.result in
    let high : c.push_targets-2.new.list.items ≡ c.push_versions.new.list.items ++ free_targets p set d end (version_count p) =
    c.in_ok-push_targets-2.ensures ∙ ap (λ n. c.push_versions.new.list.items ++ free_targets p set d end n) c.versions-versions.ensures.count in
    let list : c.as_slice.result.now ≡ pieces p set d first end =
    joined_pieces c.new-list.result.items c.push_targets.new.list.items c.push_versions.new.list.items c.push_targets-2.new.list.items c.push_leave.new.list.items c.as_slice.result.now
    (free_targets p set d 0 first) (free_versions p set first end) (free_targets p set d end (version_count p)) (leave_choices p d)
    c.new-list.ensures.items c.in_ok-push_targets.ensures c.in_ok-push_versions.ensures high c.in_ok-push_leave.ensures c.as_slice.ensures.value in
    let owner : c.package_of-package.result ≡ package_of p (dependency p d).source = c.package_of-package.ensures.package ∙ ap (package_of p) c.source.ensures.source in
    let from_absent : first ≡ absent_of p (package_of p (dependency p d).source) = c.absent_of-first.ensures.absent ∙ ap (absent_of p) owner in
    let to_end : end ≡ end_of p (package_of p (dependency p d).source) = c.end_of-end.ensures.end ∙ ap (end_of p) owner in
    let same : pieces p set d first end ≡ resolvers p set d = pieces_resolve p c.versions-versions.ensures.formed set d first end c.requires.range c.requires.open from_absent to_end in
    let whole : c.as_slice.result.now ≡ resolvers p set d = list ∙ same in
    let P : List ℕ → Type 0 = λ l. IsTrue (is_rising l) in
    subst P (sym whole) (rising_resolvers p set d)

pub returns : goal.returns
returns c =
    let p = c.args.self.now in
    let set = c.args.set.now in
    let d = c.args.dep in
    let first = c.absent_of-first.result in
    let end = c.end_of-end.result in
    let high : c.push_targets-2.new.list.items ≡ c.push_versions.new.list.items ++ free_targets p set d end (version_count p) =
    c.in_ok-push_targets-2.ensures ∙ ap (λ n. c.push_versions.new.list.items ++ free_targets p set d end n) c.versions-versions.ensures.count in
    let list : c.as_slice.result.now ≡ pieces p set d first end =
    joined_pieces c.new-list.result.items c.push_targets.new.list.items c.push_versions.new.list.items c.push_targets-2.new.list.items c.push_leave.new.list.items c.as_slice.result.now
    (free_targets p set d 0 first) (free_versions p set first end) (free_targets p set d end (version_count p)) (leave_choices p d)
    c.new-list.ensures.items c.in_ok-push_targets.ensures c.in_ok-push_versions.ensures high c.in_ok-push_leave.ensures c.as_slice.ensures.value in
    let owner : c.package_of-package.result ≡ package_of p (dependency p d).source = c.package_of-package.ensures.package ∙ ap (package_of p) c.source.ensures.source in
    let from_absent : first ≡ absent_of p (package_of p (dependency p d).source) = c.absent_of-first.ensures.absent ∙ ap (absent_of p) owner in
    let to_end : end ≡ end_of p (package_of p (dependency p d).source) = c.end_of-end.ensures.end ∙ ap (end_of p) owner in
    let same : pieces p set d first end ≡ resolvers p set d = pieces_resolve p c.versions-versions.ensures.formed set d first end c.requires.range c.requires.open from_absent to_end in
    let whole : c.as_slice.result.now ≡ resolvers p set d = list ∙ same in
    rw (← whole) c.from_list.ensures
