use Rattle.std.proofs.Common.{sym}
use Rattle.command_settle.specs.Payment.{weight_of}
use Rattle.command_settle.proofs.PaymentLaws.{one_more, script_none}
use Rattle.command_settle.proofs.payment.declared_weights.Goals as goal

pub returns-in-None-clause-stop : goal.returns-in-None-clause-stop
returns-in-None-clause-stop c =
    script_none c.args.scripts.now c.args.spent.now c.loop-i.i c.index-spent-i.result c.loop-i.declared.items c.shown.result c.broken.result c.loop-i-test.true (sym c.index-spent-i.is) c.loop-i.invariant (sym c.in-None.ensures) c.shown.ensures c.broken.ensures

pub loop-i-preserved : goal.loop-i-preserved
loop-i-preserved c =
    rw c.in_ok-push-in-Some.ensures.items
    (one_more (weight_of c.args.scripts.now) c.args.spent.now c.loop-i.i c.index-spent-i.result c.loop-i.declared.items c.in-Some.weight c.loop-i-test.true (sym c.index-spent-i.is) c.loop-i.invariant (sym c.in-Some.ensures))
