use Rattle.std.proofs.Common.{◌++◌, ◌∙◌, ap, string_bytes}
use Rattle.pay_words.proofs.Pieces.{one_piece_more}
use Rattle.people_advice.specs.Scripts.{payment_warning}
use Rattle.people_advice.proofs.scripts.warnings_text.Goals as goal

pub loop-payment-preserved : goal.loop-payment-preserved
loop-payment-preserved c =
    one_piece_more payment_warning c.args.payments.now c.loop-payment.payment-index c.payment-item.result (string_bytes c.loop-payment.text) _ c.loop-payment-test.true c.payment-item.is c.loop-payment.invariant
    (c.in_ok-push_str.ensures.bytes ∙ ap (λ said. string_bytes c.loop-payment.text ++ said) (c.as_str.ensures.value ∙ c.in_ok-line.ensures))
