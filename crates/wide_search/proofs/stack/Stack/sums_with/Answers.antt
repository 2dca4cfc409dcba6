use Rattle.std.proofs.Common.{arith, ap}
use Rattle.std.proofs.lemmas.Int.{ints}
use Rattle.pick_problem.specs.declared.item.Item.{Item}
use Rattle.wide_search.proofs.StackLaws.{small_costs, sums_more}
use Rattle.wide_search.proofs.stack.Stack.sums_with.Goals as goal

pub returns : goal.returns
returns c =
    let small = small_costs c.args.prepared.now c.args.t c.args.t c.args.self.now c.item-item.ensures.problem.problem
    c.requires.below c.requires.stack in
    let value = ap (λ (x : Item). x.value) c.item-item.ensures.item in
    let weight = ap (λ (x : Item). x.weight) c.item-item.ensures.item in
    let cost = ap (λ (x : Item). x.cost) c.item-item.ensures.item in
    sums_more c.args.prepared.now c.args.t c.args.self.now _ c.item-item.ensures.problem.problem c.requires.below
    c.requires.stack
    (omega (arith, value, c.from.ensures))
    (omega (arith, weight))
    (omega (
      arith,
      ints,
      small.old_low,
      small.old_high,
      small.item_low,
      small.item_high,
      cost,
      c.from-2.ensures,
    ))
