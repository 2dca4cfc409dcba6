use Rattle.std.proofs.Common.{arith}
use Rattle.fund_steps.proofs.SumLaws.{weights_within}
use Rattle.fee_sharing.proofs.sweeping.sweep_weight.Goals as goal

pub weight-requires : goal.weight-requires
weight-requires c = weights_within c.args.coins.now c.requires

pub overflow_add-result : goal.overflow_add-result
overflow_add-result c = omega (arith, weights_within c.args.coins.now c.requires, c.weight.ensures, c.base.ensures.most)
