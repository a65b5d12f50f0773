use Rattle.std.proofs.Common.{rules, ◌≡◌, ◌<◌, ◌≤◌, ◌+◌, ◌∙◌, ap, sym, subst, length, nat_lt, get_or, set, List, ℕ, replicate, [], ◌∷◌, ◌++◌, take, arith}
use Rattle.std.proofs.lemmas.Bool.{le-ltb}
use Rattle.std.proofs.lemmas.List.{get_or-replicate, length-set, take_more}
use Rattle.resolver_model.specs.Problems.{version_count}
use Rattle.broken_deps.specs.Places.{AreNoted, place_of, with_version}
use Rattle.broken_deps.specs.declared.installed.Place.{Place}
use Rattle.broken_deps.specs.declared.installed.Place.TheVariants.{Nothing}
use Rattle.broken_deps.proofs.Noted.{none_noted, noted_more, noted_leave}
use Rattle.broken_deps.proofs.installed.places_of.Goals.{then-choice-versions, else-choice-versions}
use Rattle.broken_deps.proofs.installed.places_of.Goals as goal

pub loop-choice-init : goal.loop-choice-init
loop-choice-init c = (search rules, none_noted c.args.problem.now (replicate 1024 Nothing) (λ q. get_or-replicate 1024 (place_of q) Nothing Nothing (let less : place_of q < 1024 = omega arith in less)))

pub loop-choice-preserved : goal.loop-choice-preserved
loop-choice-preserved c =
    let p = c.args.problem.now in
    let choices = c.as_slice-choice-items.result.now in
    let i = c.loop-choice.choice-index in
    let places = c.loop-choice.places in
    let choice = get_or choices i 0 in
    let lt : i < length choices = search rules in
    let Kept : List Place → List ℕ → Type 0 = λ now done. (length now ≡ 1024) × AreNoted p now done in
    let more = take i choices ++ choice ∷ [] in
    let kept : Kept c.if-choice-versions.places more =
    elim c.if-choice-versions.branch as (λ _. Kept c.if-choice-versions.places more) [
      | then-choice-versions w ↦
          let slot = w.place_of-place.result in
          let room : slot < length places = omega (arith, c.loop-choice.invariant.0, w.place_of-place.ensures.range) in
          let less : choice < version_count p = omega (arith, c.versions.ensures.count, w.if-choice-versions) in
          subst (λ now. Kept now more) (sym w.places-is) (
            length-set places slot w.with_version.result ∙ c.loop-choice.invariant.0,
            subst (λ new. AreNoted p (set places slot new) more) (sym w.with_version.ensures)
                (noted_more p places (take i choices) choice slot less room (w.place_of-place.ensures.place ∙ ap place_of w.package_of.ensures.package) c.loop-choice.invariant.1),
          )
      | else-choice-versions w ↦
          let past : version_count p ≤ choice = omega (arith, c.versions.ensures.count, w.if-choice-versions) in
          subst (λ now. Kept now more) (sym w.places-is) (c.loop-choice.invariant.0, noted_leave p places (take i choices) choice (le-ltb choice (version_count p) past) c.loop-choice.invariant.1)
    ] in
    subst (λ done. Kept c.if-choice-versions.places done) (sym (take_more choices i 0 lt)) kept
