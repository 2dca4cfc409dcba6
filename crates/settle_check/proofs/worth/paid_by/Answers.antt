use Rattle.std.proofs.Common.{arith}
use Rattle.settle_check.proofs.SpareLaws.{worth_all, worth_next, worth_within}
use Rattle.settle_check.proofs.worth.paid_by.Goals as goal

pub overflow_add-sum : goal.overflow_add-sum
overflow_add-sum c =
    let le = worth_within c.args.outputs.now c.loop-output.output-index c.loop-output.sum c.get-sum.result c.output-item.result c.loop-output-test.true c.output-item.is c.get-sum.ensures.value c.loop-output.invariant in
    omega (arith, le, c.requires)

pub loop-output-preserved : goal.loop-output-preserved
loop-output-preserved c = worth_next c.args.outputs.now c.loop-output.output-index c.loop-output.sum c.get-sum.result c.output-item.result c.loop-output-test.true c.output-item.is c.get-sum.ensures.value c.loop-output.invariant

pub returns : goal.returns
returns c = worth_all c.args.outputs.now c.loop-output.output-index c.loop-output.sum c.loop-output-test.false c.loop-output.invariant
