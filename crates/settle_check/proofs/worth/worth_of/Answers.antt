use Rattle.std.proofs.Common.{arith, refl}
use Rattle.settle_check.proofs.SpareLaws.{worth_all, worth_next}
use Rattle.settle_check.proofs.worth.worth_of.Goals as goal

pub overflow_add-sum : goal.overflow_add-sum
overflow_add-sum c = omega (arith, c.loop-output.invariant.most, c.get-sum.ensures.most, c.get-sum.ensures.value, c.loop-output-test.true, c.requires)

pub loop-output-init : goal.loop-output-init
loop-output-init c = record { total = refl; most = omega arith; within = omega arith }

pub loop-output-preserved : goal.loop-output-preserved
loop-output-preserved c = record {
  total = worth_next c.args.outputs.now c.loop-output.output-index c.loop-output.sum c.get-sum.result c.output-item.result c.loop-output-test.true c.output-item.is c.get-sum.ensures.value c.loop-output.invariant.total;
  most = omega (arith, c.loop-output.invariant.most, c.get-sum.ensures.most, c.get-sum.ensures.value);
  within = omega (arith, c.loop-output-test.true);
}

pub returns : goal.returns
returns c = record {
  value = worth_all c.args.outputs.now c.loop-output.output-index c.loop-output.sum c.loop-output-test.false c.loop-output.invariant.total;
  most = omega (arith, c.loop-output.invariant.most, c.loop-output.invariant.within, c.requires);
}
