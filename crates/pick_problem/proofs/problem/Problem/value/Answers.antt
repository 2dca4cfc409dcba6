use Rattle.pick_problem.proofs.SumLaws.{value_more}
use Rattle.pick_problem.proofs.problem.Problem.value.Goals as goal

pub loop-place-preserved : goal.loop-place-preserved
loop-place-preserved c =
    value_more c.args.self.now c.items-items.result.now c.args.places.now c.loop-place.place-index c.loop-place.sum c.from-sum.result c.items-items.ensures.problem c.items-items.ensures.items c.requires c.loop-place-test.true c.from-sum.ensures c.loop-place.invariant
