use Rattle.std.proofs.Common.{subst}
use Rattle.fund_base.specs.Cursor.{IsBytes}
use Rattle.fund_plan.proofs.PaymentLaws.{input_fits}
use Rattle.fund_plan.proofs.payment.input.Goals as goal

pub returns-clause-fits : goal.returns-clause-fits
returns-clause-fits c =
    let bytes = subst IsBytes c.bytes.ensures.value c.are_bytes.ensures.bytes in
    rw (c.new-2.ensures, c.new-4.ensures, c.sequence.ensures, c.new.ensures.items, c.new-3.ensures.items) (input_fits c.args.replaceable c.args.coin.now c.bytes.ensures.len bytes c.is_index.ensures)
