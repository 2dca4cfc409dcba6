use Rattle.std.specs.Int.{w128}
use Rattle.std.proofs.Common.{◌≡◌, ◌+◌, ◌≤◌, ◌+ℤ◌, arith, sym, subst, to_z, of_z, length}
use Rattle.std.proofs.lemmas.Int.{ints}
use Rattle.pick_problem.proofs.SumLaws.{CostSoFar, cost_more, places_few}
use Rattle.pick_problem.proofs.problem.Problem.cost.Goals as goal

pub loop-place-preserved : goal.loop-place-preserved
loop-place-preserved c =
    let p = c.args.self.now in
    let places = c.args.places.now in
    let old = to_z w128 c.loop-place.sum-bits in
    let more : CostSoFar p places (c.loop-place.place-index + 1) (old +ℤ c.from-sum.result) =
    cost_more p c.items-items.result.now places c.loop-place.place-index old c.from-sum.result c.items-items.ensures.problem c.items-items.ensures.items c.requires c.loop-place-test.true c.from-sum.ensures c.loop-place.invariant in
    let few : length places ≤ length p.items = places_few (length p.items) places c.requires in
    let e : to_z w128 (of_z w128 (to_z w128 c.loop-place.sum-bits +ℤ to_z w128 (of_z w128 c.from-sum.result))) ≡ old +ℤ c.from-sum.result =
    omega (arith, ints, more.low, more.high, few, c.items-items.ensures.problem.items.few) in
    subst (CostSoFar p places (c.loop-place.place-index + 1)) (sym e) more
