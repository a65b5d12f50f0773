use Rattle.std.proofs.Common.{arith}
use Rattle.ascii.proofs.Decimals.{digit_at, number-more, number-short, number-small}
use Rattle.ascii.proofs.number_of.Goals as goal

pub overflow_mul-value : goal.overflow_mul-value
overflow_mul-value c = omega (arith, number-small c.loop-digit.digit-index _ c.loop-digit.value c.loop-digit-test.true c.requires.few c.loop-digit.invariant.short)

pub overflow_add-value : goal.overflow_add-value
overflow_add-value c =
    let digit = digit_at c.args.digits.now c.loop-digit.digit-index c.requires.digits c.loop-digit-test.true in
    omega (arith, digit.high, number-small c.loop-digit.digit-index _ c.loop-digit.value c.loop-digit-test.true c.requires.few c.loop-digit.invariant.short)

pub loop-digit-preserved : goal.loop-digit-preserved
loop-digit-preserved c = record {
  so_far = number-more c.args.digits.now c.loop-digit.digit-index c.loop-digit.value c.requires.digits c.loop-digit-test.true c.loop-digit.invariant.so_far;
  short = number-short c.args.digits.now c.loop-digit.digit-index c.loop-digit.value c.requires.digits c.loop-digit-test.true c.loop-digit.invariant.short;
}
