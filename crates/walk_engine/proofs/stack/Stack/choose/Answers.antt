use Rattle.std.proofs.Common.{arith, ap}
use Rattle.std.proofs.lemmas.Int.{ints}
use Rattle.pick_problem.specs.declared.item.Item.{Item}
use Rattle.walk_engine.proofs.StackLaws.{small_parts, stack_more, has_place}
use Rattle.walk_engine.proofs.stack.Stack.choose.Goals as goal

pub overflow_add-self : goal.overflow_add-self
overflow_add-self c =
    let small = small_parts c.args.prepared.now c.args.t c.args.self.now c.item-item.ensures.problem c.requires.below
    c.requires.stack in
    let weight = ap (λ (x : Item). x.weight) c.item-item.ensures.item in
    omega (arith, small.weight, weight)

pub overflow_add-self-2 : goal.overflow_add-self-2
overflow_add-self-2 c =
    let small = small_parts c.args.prepared.now c.args.t c.args.self.now c.item-item.ensures.problem c.requires.below
    c.requires.stack in
    let cost = ap (λ (x : Item). x.cost) c.item-item.ensures.item in
    omega (
      arith,
      ints,
      small.old_low,
      small.old_high,
      small.item_low,
      small.item_high,
      small.new_low,
      small.new_high,
      cost,
      c.from.ensures,
    )

pub add-requires : goal.add-requires
add-requires c = has_place c.args.prepared.now c.args.t c.args.self.now c.requires.below c.requires.stack

pub returns-clause-stack : goal.returns-clause-stack
returns-clause-stack c =
    let small = small_parts c.args.prepared.now c.args.t c.args.self.now c.item-item.ensures.problem c.requires.below
    c.requires.stack in
    let value = ap (λ (x : Item). x.value) c.item-item.ensures.item in
    let weight = ap (λ (x : Item). x.weight) c.item-item.ensures.item in
    let cost = ap (λ (x : Item). x.cost) c.item-item.ensures.item in
    stack_more c.args.prepared.now c.args.t c.args.self.now _ c.requires.below c.requires.stack c.add.ensures.places
    (omega (arith, value, c.requires.low))
    (omega (arith, weight))
    (omega (
      arith,
      ints,
      small.old_low,
      small.old_high,
      small.item_low,
      small.item_high,
      small.new_low,
      small.new_high,
      cost,
      c.from.ensures,
    ))
    c.add.ensures.room
