use Rattle.std.proofs.Common.{◌∙◌, sym, map}
use Rattle.std.proofs.lemmas.List.{get_or_default}
use Rattle.pay_words.specs.Payments.{plain_payment}
use Rattle.pay_words.proofs.PaymentRest.{payment_taken, payment_refused, payments_ended}
use Rattle.pay_words.proofs.payments.payments_given.Goals as goal

pub returns-in-Err : goal.returns-in-Err
returns-in-Err c = λ other.
    payment_refused c.args.words.now (map plain_payment c.loop-one.payments.items) c.args.given.now c.loop-one.one-index _ c.in-Err.fault _ c.loop-one-test.true (get_or_default c.args.given.now c.loop-one.one-index _ _ c.loop-one-test.true) (c.in-Err.ensures other) c.loop-one.invariant

pub loop-one-preserved : goal.loop-one-preserved
loop-one-preserved c =
    payment_taken c.args.words.now (map plain_payment c.loop-one.payments.items) (map plain_payment c.put_payment.new.payments.items) c.args.given.now c.loop-one.one-index _ _ c.loop-one-test.true (get_or_default c.args.given.now c.loop-one.one-index _ _ c.loop-one-test.true) c.in-Ok.ensures c.loop-one.invariant

pub returns : goal.returns
returns c = sym c.loop-one.invariant ∙ payments_ended c.args.words.now _ c.args.given.now c.loop-one.one-index c.loop-one-test.false
