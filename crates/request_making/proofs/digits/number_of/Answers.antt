use Rattle.std.proofs.Common.{arith}
use Rattle.std.proofs.lemmas.Str.Parse.{digit_at}
use Rattle.request_making.proofs.DigitLaws.{digit_more, digit_ends, digits_end}
use Rattle.request_making.proofs.digits.number_of.Goals as goal

pub with_digit-requires : goal.with_digit-requires
with_digit-requires c = digit_at c.args.digits.now c.loop-digit.digit-index c.requires c.loop-digit-test.true

pub returns-in_err-number : goal.returns-in_err-number
returns-in_err-number c =
    rw c.from_residual.ensures (digit_ends c.args.digits.now c.loop-digit.digit-index c.loop-digit.number c.loop-digit-test.true c.requires c.loop-digit.invariant.1 c.in_err-number.ensures)

pub loop-digit-preserved : goal.loop-digit-preserved
loop-digit-preserved c =
    let e = c.in_ok-number.ensures in
    (omega (arith, e.0, e.1), digit_more c.args.digits.now c.loop-digit.digit-index c.loop-digit.number c.in_ok-number.number c.loop-digit-test.true c.requires c.loop-digit.invariant.1 e.1)

pub returns : goal.returns
returns c = digits_end c.args.digits.now c.loop-digit.digit-index c.loop-digit.number c.loop-digit-test.false c.loop-digit.invariant.0 c.loop-digit.invariant.1
