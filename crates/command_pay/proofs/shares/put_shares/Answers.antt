use Rattle.std.proofs.Common.{◌∙◌, arith, string_bytes}
use Rattle.command_pay.proofs.Shown.{shares_all, shares_more}
use Rattle.command_pay.proofs.shares.put_shares.Goals as goal

pub loop-place-preserved : goal.loop-place-preserved
loop-place-preserved c =
    shares_more c.args.payments.now c.args.amounts.now c.loop-place.place c.index-payments-place.result (string_bytes c.args.text.now) (string_bytes c.loop-place.text) _ _ (omega (arith, c.loop-place-test.true, c.min-place-end.ensures)) c.loop-place.invariant c.in_ok-push_str.ensures.bytes
    (c.as_str.ensures.value ∙ c.in_ok-line.ensures)

pub returns : goal.returns
returns c = shares_all c.args.payments.now c.args.amounts.now c.loop-place.place (string_bytes c.args.text.now) (string_bytes c.loop-place.text) (omega (arith, c.loop-place-test.false, c.min-place-end.ensures)) c.loop-place.invariant
