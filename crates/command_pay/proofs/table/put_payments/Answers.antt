use Rattle.std.proofs.Common.{◌∙◌, string_bytes}
use Rattle.command_pay.specs.Table.{pays_line}
use Rattle.command_pay.proofs.Pieces.{one_piece_more}
use Rattle.command_pay.proofs.table.put_payments.Goals as goal

pub loop-payment-preserved : goal.loop-payment-preserved
loop-payment-preserved c =
    one_piece_more pays_line c.args.payments.now c.loop-payment.payment-index c.payment-item.result (string_bytes c.args.text.now) (string_bytes c.loop-payment.text) _ _ c.loop-payment-test.true c.payment-item.is c.loop-payment.invariant c.in_ok-push_str.ensures.bytes (c.as_str.ensures.value ∙ c.in_ok-line.ensures)
