use Rattle.std.proofs.Common.{refl}
use Rattle.pick_problem.proofs.SumLaws.{weight_more}
use Rattle.pick_problem.proofs.problem.Problem.weight.Goals as goal

pub loop-place-preserved : goal.loop-place-preserved
loop-place-preserved c =
    weight_more c.args.self.now c.items-items.result.now c.args.places.now c.loop-place.place-index c.loop-place.sum _ c.items-items.ensures.problem c.items-items.ensures.items c.requires c.loop-place-test.true refl c.loop-place.invariant
