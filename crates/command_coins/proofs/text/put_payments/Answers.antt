use Rattle.std.proofs.Common.{◌∙◌, ◌++◌, ap, List, ℕ, string_bytes}
use Rattle.command_coins.specs.Listing.{payment_line}
use Rattle.command_coins.proofs.LinesLaws.{lines_more}
use Rattle.command_coins.proofs.text.put_payments.Goals as goal

pub loop-payment-preserved : goal.loop-payment-preserved
loop-payment-preserved c =
    let line = c.as_str.ensures.value ∙ c.in_ok-line.ensures in
    c.in_ok-push_str.ensures.bytes
    ∙ ap (λ (l : List ℕ). string_bytes c.loop-payment.text ++ l) line
    ∙ lines_more payment_line c.args.payments.now c.loop-payment.payment-index c.payment-item.result (string_bytes c.args.text.now) (string_bytes c.loop-payment.text) c.loop-payment-test.true c.payment-item.is c.loop-payment.invariant
