use Rattle.std.specs.Int.{w64}
use Rattle.std.proofs.Common.{◌≡◌, ◌≤◌, ◌+ℤ◌, arith, to_z, of_z, length}
use Rattle.std.proofs.lemmas.Int.{ints}
use Rattle.std.proofs.lemmas.List.Sums.{fold_more}
use Rattle.output_groups.proofs.measures.cost.Goals as goal

pub loop-lent-preserved : goal.loop-lent-preserved
loop-lent-preserved c =
    let few : length c.args.coins.now ≤ 100 = c.requires.group.few in
    let e : to_z w64 (of_z w64 (to_z w64 c.loop-lent.sum-bits +ℤ to_z w64 (of_z w64 c.coin_cost-sum.result))) ≡ to_z w64 c.loop-lent.sum-bits +ℤ c.coin_cost-sum.result = omega (arith, ints) in
    (grind (arith, ints, fold_more, e), omega (arith, ints, e), omega (arith, ints, e))
