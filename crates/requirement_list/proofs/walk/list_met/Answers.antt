use Rattle.std.proofs.Common.{◌≡◌, ◌+◌, ℕ, List, [], ◌∷◌, ◌++◌, length, map, refl, ap, ◌∙◌, subst, arith, append_assoc}
use Rattle.std.proofs.lemmas.List.{append-nil}
use Rattle.dep_fields.specs.Relationships.{meaning}
use Rattle.requirement_list.specs.Settings.{setting_in}
use Rattle.requirement_list.specs.Left.{Left}
use Rattle.requirement_list.specs.Answers.{left_by, row_of}
use Rattle.requirement_list.specs.Conflicts.{package_left}
use Rattle.requirement_list.proofs.Concerned.{IsWalk, walk_version, walk_rising, walk_before, walk_after, walk_next, walk_passed, packages_from, packages_none, met_of}
use Rattle.requirement_list.proofs.walk.list_met.Goals as goal
use Rattle.requirement_list.proofs.walk.list_met.Goals.{then-package-next+in_ok-list_package, else-package-next}

pub package_of-package-requires : goal.package_of-package-requires
package_of-package-requires c =
    let s = setting_in c.args.index.now c.args.problem.now in
    let item = meaning c.args.item.now in
    let p = c.args.problem.now in
    let met = c.as_slice-met.result.now in
    let walk : IsWalk s item p met c.loop-place.place c.loop-place.next =
    record { owners = c.requires; starts = refl; all_met = c.as_slice-met.ensures.value ∙ c.in_ok-met_by.ensures.met; there = c.loop-place-test.true; passed = c.loop-place.invariant.passed } in
    walk_version s item p met c.loop-place.place c.loop-place.next walk

pub list_package-requires-clause-rising : goal.list_package-requires-clause-rising
list_package-requires-clause-rising c =
    let s = setting_in c.args.index.now c.args.problem.now in
    let item = meaning c.args.item.now in
    let p = c.args.problem.now in
    let met = c.as_slice-met.result.now in
    let walk : IsWalk s item p met c.loop-place.place c.loop-place.next =
    record { owners = c.requires; starts = refl; all_met = c.as_slice-met.ensures.value ∙ c.in_ok-met_by.ensures.met; there = c.loop-place-test.true; passed = c.loop-place.invariant.passed } in
    walk_rising s item p met c.loop-place.place c.loop-place.next walk

pub list_package-requires-clause-before : goal.list_package-requires-clause-before
list_package-requires-clause-before c =
    let s = setting_in c.args.index.now c.args.problem.now in
    let item = meaning c.args.item.now in
    let p = c.args.problem.now in
    let met = c.as_slice-met.result.now in
    let walk : IsWalk s item p met c.loop-place.place c.loop-place.next =
    record { owners = c.requires; starts = refl; all_met = c.as_slice-met.ensures.value ∙ c.in_ok-met_by.ensures.met; there = c.loop-place-test.true; passed = c.loop-place.invariant.passed } in
    let own = c.package_of-package.ensures.package in
    let formed = c.package_of-package.ensures.formed in
    walk_before s item p met c.loop-place.place c.loop-place.next c.package_of-package.result walk formed own c.if-package-next.true

pub list_package-requires-clause-after : goal.list_package-requires-clause-after
list_package-requires-clause-after c =
    let s = setting_in c.args.index.now c.args.problem.now in
    let item = meaning c.args.item.now in
    let p = c.args.problem.now in
    let met = c.as_slice-met.result.now in
    let walk : IsWalk s item p met c.loop-place.place c.loop-place.next =
    record { owners = c.requires; starts = refl; all_met = c.as_slice-met.ensures.value ∙ c.in_ok-met_by.ensures.met; there = c.loop-place-test.true; passed = c.loop-place.invariant.passed } in
    let own = c.package_of-package.ensures.package in
    let formed = c.package_of-package.ensures.formed in
    λ _. walk_after s item p met c.loop-place.place c.loop-place.next c.package_of-package.result walk formed own

pub loop-place-preserved : goal.loop-place-preserved
loop-place-preserved c =
    let s = setting_in c.args.index.now c.args.problem.now in
    let item = meaning c.args.item.now in
    let p = c.args.problem.now in
    let met = c.as_slice-met.result.now in
    let walk : IsWalk s item p met c.loop-place.place c.loop-place.next =
    record { owners = c.requires; starts = refl; all_met = c.as_slice-met.ensures.value ∙ c.in_ok-met_by.ensures.met; there = c.loop-place-test.true; passed = c.loop-place.invariant.passed } in
    let own = c.package_of-package.ensures.package in
    let formed = c.package_of-package.ensures.formed in
    let q = c.package_of-package.result in
    let extent = c.args.extent in
    elim c.if-package-next.branch [
      | then-package-next+in_ok-list_package w ↦
          let split = walk_next s item p extent met c.loop-place.place c.loop-place.next q walk formed own w.if-package-next.true in
          let left = map (left_by s item extent) (packages_from s item (q + 1)) in
          let P : List Left → Type 0 = λ lefts. c.loop-place.listed ++ lefts ≡ row_of s item extent in
          record {
            listed = rw (w.listed-is, w.next-is, w.in_ok-list_package.ensures) (append_assoc c.loop-place.listed (package_left p extent met q ∷ []) left ∙ subst P split c.loop-place.invariant.listed);
            passed = walk_passed s item p met c.loop-place.place c.loop-place.next q c.if-package-next.next walk own (omega (arith, w.next-is, w.if-package-next.true)) (omega (arith, w.next-is));
          }
      | else-package-next w ↦ record {
        listed = rw (w.listed-is, w.next-is) c.loop-place.invariant.listed;
        passed = walk_passed s item p met c.loop-place.place c.loop-place.next q c.if-package-next.next walk own (omega (arith, w.next-is)) (omega (arith, w.next-is, w.if-package-next.false));
      }
    ]

pub returns : goal.returns
returns c =
    let s = setting_in c.args.index.now c.args.problem.now in
    let item = meaning c.args.item.now in
    let same : c.as_slice-met.result.now ≡ met_of s item = c.as_slice-met.ensures.value ∙ c.in_ok-met_by.ensures.met in
    let none = packages_none s item c.loop-place.next (λ k lt. c.loop-place.invariant.passed k (omega (arith, ap length same, c.loop-place-test.false))) in
    let P : List ℕ → Type 0 = λ qs. c.loop-place.listed ++ map (left_by s item c.args.extent) qs ≡ row_of s item c.args.extent in
    rw append-nil at (subst P none c.loop-place.invariant.listed)
