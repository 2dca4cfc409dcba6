use Rattle.std.proofs.Common.{◌∙◌, Some, ap, arith, sym}
use Rattle.std.specs.List.{zip}
use Rattle.tx_codec.specs.declared.tx.TxOut.{TxOut}
use Rattle.command_settle.specs.Payment.{output_of}
use Rattle.command_settle.proofs.PaymentLaws.{all_done, one_more, pair_at, pairs_long, value_none}
use Rattle.command_settle.proofs.payment.spent_outputs.Goals as goal

pub returns-in-None-clause-stop : goal.returns-in-None-clause-stop
returns-in-None-clause-stop c =
    let long = pairs_long c.args.inputs.now c.args.known.now c.requires in
    let pair = pair_at c.args.inputs.now c.args.known.now c.requires c.loop-i.i c.index-inputs-i.result c.index-known-i.result c.loop-i-test.true c.index-inputs-i.is c.index-known-i.is in
    value_none (zip c.args.inputs.now c.args.known.now) c.loop-i.i (c.index-inputs-i.result, c.index-known-i.result) c.loop-i.spent.items c.shown.result c.broken.result (omega (arith, c.loop-i-test.true, long)) pair c.loop-i.invariant (sym c.in-None.ensures) c.shown.ensures c.broken.ensures

pub loop-i-preserved : goal.loop-i-preserved
loop-i-preserved c =
    let long = pairs_long c.args.inputs.now c.args.known.now c.requires in
    let pair = pair_at c.args.inputs.now c.args.known.now c.requires c.loop-i.i c.index-inputs-i.result c.index-known-i.result c.loop-i-test.true c.index-inputs-i.is c.index-known-i.is in
    rw c.in_ok-push-in-Some.ensures.items
    (one_more output_of (zip c.args.inputs.now c.args.known.now) c.loop-i.i (c.index-inputs-i.result, c.index-known-i.result) c.loop-i.spent.items c.in_ok-copy-in-Some.field-0 (omega (arith, c.loop-i-test.true, long)) pair c.loop-i.invariant
    (sym c.in-Some.ensures ∙ ap (λ (o : TxOut). Some o) (sym c.in_ok-copy-in-Some.ensures)))

pub returns-clause-spent : goal.returns-clause-spent
returns-clause-spent c =
    let long = pairs_long c.args.inputs.now c.args.known.now c.requires in
    all_done output_of (zip c.args.inputs.now c.args.known.now) c.loop-i.i c.loop-i.spent.items (omega (arith, c.loop-i-test.false, long)) c.loop-i.invariant
