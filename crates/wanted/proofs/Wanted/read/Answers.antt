use Rattle.std.proofs.Common.{◌≡◌, ◌∙◌, ◌<◌, false, inr, ap, arith, below_more, length, map, option_map, string_bytes}
use Rattle.std.proofs.lemmas.List.{length-map, take_all}
use Rattle.wanted.specs.Wanting.{actions_of, is_bad_at}
use Rattle.wanted.specs.declared.WantedEnd.TheVariants.{BadAction}
use Rattle.wanted.proofs.Firsts.{actions-more, bad-at, bytes-at, first-found, good-at, none-bad}
use Rattle.wanted.proofs.Wanted.read.Goals as goal

pub returns-in-Ok-false-clause-read : goal.returns-in-Ok-false-clause-read
returns-in-Ok-false-clause-read c =
    let u = c.args.universe.now in
    let words = c.args.words.now in
    let texts = map string_bytes words in
    let place = c.loop-place.place in
    let within : place < length texts = omega (arith, length-map words string_bytes) in
    let here = c.as_bytes.ensures.value ∙ bytes-at words place c.index-words-place.result (omega arith) c.index-words-place.is in
    let bad = bad-at u texts place c.loop-place.wanted c.as_bytes.result.now c.in-Ok-false.field-0 c.loop-place.invariant.read here c.in-Ok-false.ensures.good c.in-Ok-false.field-0-test in
    inr (ap (option_map BadAction) (first-found u texts place within c.loop-place.invariant.good bad))

pub loop-place-preserved : goal.loop-place-preserved
loop-place-preserved c =
    let u = c.args.universe.now in
    let words = c.args.words.now in
    let texts = map string_bytes words in
    let place = c.loop-place.place in
    let within : place < length texts = omega (arith, length-map words string_bytes) in
    let here = c.as_bytes.ensures.value ∙ bytes-at words place c.index-words-place.result (omega arith) c.index-words-place.is in
    let wanted = c.loop-place.wanted in
    record {
      read = c.in-Ok-true.ensures.added c.in-Ok-true.field-0-test ∙ actions-more u texts place wanted c.as_bytes.result.now within c.loop-place.invariant.read here;
      good = below_more (λ k. is_bad_at u texts k ≡ false) place c.loop-place.invariant.good
          (good-at u texts place wanted c.as_bytes.result.now c.in-Ok-true.field-0 c.loop-place.invariant.read here c.in-Ok-true.ensures.good c.in-Ok-true.field-0-test);
      own = c.in-Ok-true.ensures.own;
    }

pub returns-clause-read : goal.returns-clause-read
returns-clause-read c =
    let u = c.args.universe.now in
    let words = c.args.words.now in
    let texts = map string_bytes words in
    let place = c.loop-place.place in
    let size = length-map words string_bytes in (
      none-bad u texts (λ k less. c.loop-place.invariant.good k (omega (arith, size, less))),
      c.loop-place.invariant.read ∙ ap (actions_of u) (take_all place texts (omega (arith, size))),
    )
