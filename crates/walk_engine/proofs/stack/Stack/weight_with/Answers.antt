use Rattle.std.proofs.Common.{arith, ap}
use Rattle.pick_problem.specs.declared.item.Item.{Item}
use Rattle.walk_engine.proofs.StackLaws.{small_parts, weight_push}
use Rattle.walk_engine.proofs.stack.Stack.weight_with.Goals as goal

pub overflow_add-result : goal.overflow_add-result
overflow_add-result c =
    let small = small_parts c.args.prepared.now c.args.t c.args.self.now c.item.ensures.problem c.requires.below
    c.requires.stack in
    let weight = ap (λ (x : Item). x.weight) c.item.ensures.item in
    omega (arith, small.weight, weight)

pub returns : goal.returns
returns c =
    let weight = ap (λ (x : Item). x.weight) c.item.ensures.item in
    omega (
      arith,
      weight_push c.args.prepared.now c.args.self.now.places.items c.args.t,
      c.requires.stack.weight,
      weight,
    )
