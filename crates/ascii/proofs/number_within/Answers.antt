use Rattle.std.proofs.Common.{◌≡◌, ◌+◌, ◌-◌, ◌*◌, Some, None, cond, nat_lt, arith, refl, sym, ◌∙◌, get_or}
use Rattle.std.proofs.lemmas.Bool.Decides.{nat_tests}
use Rattle.ascii.specs.Decimals.{number}
use Rattle.ascii.proofs.Decimals.{number-more, number-past, cut-some, cut-none}
use Rattle.ascii.proofs.number_within.Goals as goal

pub returns-in-None : goal.returns-in-None
returns-in-None c =
    let ds = c.args.digits.now in
    let i = c.loop-digit.digit-index in
    let value = c.loop-digit.value in
    let past = cut-none (value * 10 + (get_or ds i 0 - 48)) 18446744073709551616 (sym c.with_digit.ensures ∙ c.in-None.is) in
    let all = number-past ds i value 18446744073709551616 c.requires c.loop-digit-test.true c.loop-digit.invariant.so_far past in
    let gives : cond (nat_lt (number ds) 18446744073709551616) (Some (number ds)) None ≡ None = rw all refl in
    sym gives

pub loop-digit-preserved : goal.loop-digit-preserved
loop-digit-preserved c =
    let ds = c.args.digits.now in
    let i = c.loop-digit.digit-index in
    let value = c.loop-digit.value in
    let some = cut-some (value * 10 + (get_or ds i 0 - 48)) 18446744073709551616 c.in-Some.more (sym c.with_digit.ensures ∙ c.in-Some.is) in
    let more = number-more ds i value c.requires c.loop-digit-test.true c.loop-digit.invariant.so_far in
    record {
      so_far = some.0 ∙ more;
      fits = grind (arith, nat_tests);
    }
