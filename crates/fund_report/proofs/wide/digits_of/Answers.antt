use Rattle.fund_base.proofs.Decimals.{goes_on, ends}
use Rattle.fund_report.proofs.wide.digits_of.Goals as goal

pub returns-in_err-number-clause-none : goal.returns-in_err-number-clause-none
returns-in_err-number-clause-none c =
    rw c.from_residual.ensures (ends c.args.text.now c.loop-digit.digit-index c.loop-digit.number c.args.most c.loop-digit-test.true c.loop-digit.invariant.0 c.in_err-number.ensures.none)

pub loop-digit-preserved : goal.loop-digit-preserved
loop-digit-preserved c =
    let e = c.in_ok-number.ensures in
    (goes_on c.args.text.now c.loop-digit.digit-index c.loop-digit.number c.in_ok-number.number c.loop-digit-test.true c.loop-digit.invariant.0 e.found.0 e.found.1, e.found.2)
