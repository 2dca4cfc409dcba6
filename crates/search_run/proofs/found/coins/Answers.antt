use Rattle.std.proofs.Common.{◌+◌, arith}
use Rattle.search_run.proofs.CoinLaws.{coins_few, coins_more, place_there}
use Rattle.search_run.proofs.found.coins.Goals as goal

pub bounds-sizes-place : goal.bounds-sizes-place
bounds-sizes-place c =
    place_there c.args.step.now c.sizes-sizes.result.now c.args.places.now c.loop-place.place-index c.sizes-sizes.ensures.step c.sizes-sizes.ensures.sizes c.requires c.loop-place-test.true

pub overflow_add-sum : goal.overflow_add-sum
overflow_add-sum c =
    omega (
      arith,
      coins_few c.args.step.now c.args.places.now (c.loop-place.place-index + 1) (c.loop-place.sum + c.from-sum.result) c.sizes-sizes.ensures.step c.requires (omega (arith, c.loop-place-test.true))
          (coins_more c.args.step.now c.sizes-sizes.result.now c.args.places.now c.loop-place.place-index c.loop-place.sum c.from-sum.result c.sizes-sizes.ensures.step c.sizes-sizes.ensures.sizes c.requires c.loop-place-test.true c.from-sum.ensures c.loop-place.invariant),
    )

pub loop-place-preserved : goal.loop-place-preserved
loop-place-preserved c =
    coins_more c.args.step.now c.sizes-sizes.result.now c.args.places.now c.loop-place.place-index c.loop-place.sum c.from-sum.result c.sizes-sizes.ensures.step c.sizes-sizes.ensures.sizes c.requires c.loop-place-test.true c.from-sum.ensures c.loop-place.invariant
