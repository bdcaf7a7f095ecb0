use Rattle.std.proofs.Common.{◌+◌, arith}
use Rattle.ob_parser.proofs.Texts.{digit_at, value_more, value_below}
use Rattle.ob_parser.proofs.parser.expressions.number_of.Goals as goal

pub overflow_mul-value : goal.overflow_mul-value
overflow_mul-value c =
    let more = value_more c.args.digits.now c.loop-digit.digit-index c.loop-digit-test.true in
    let below = value_below c.args.digits.now (c.loop-digit.digit-index + 1) in
    omega (arith, c.loop-digit.invariant)

pub overflow_add-value : goal.overflow_add-value
overflow_add-value c =
    let digit = digit_at c.args.digits.now c.loop-digit.digit-index c.requires.digits c.loop-digit-test.true in
    let more = value_more c.args.digits.now c.loop-digit.digit-index c.loop-digit-test.true in
    let below = value_below c.args.digits.now (c.loop-digit.digit-index + 1) in
    omega (arith, c.loop-digit.invariant)

pub loop-digit-preserved : goal.loop-digit-preserved
loop-digit-preserved c =
    let digit = digit_at c.args.digits.now c.loop-digit.digit-index c.requires.digits c.loop-digit-test.true in
    let more = value_more c.args.digits.now c.loop-digit.digit-index c.loop-digit-test.true in
    omega (arith, c.loop-digit.invariant)
