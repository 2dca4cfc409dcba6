use Rattle.std.proofs.Common.{arith, ap}
use Rattle.std.proofs.lemmas.Int.{ints}
use Rattle.pick_problem.specs.declared.item.Item.{Item}
use Rattle.walk_engine.proofs.StackLaws.{has_last, small_front, stack_less}
use Rattle.walk_engine.proofs.stack.Stack.drop_last.Goals as goal

pub item-item-requires : goal.item-item-requires
item-item-requires c =
    let last = has_last c.args.prepared.now c.args.next c.args.self.now c.pop.new.self.items c.in_ok-j.j
    c.requires.stack c.in_ok-j.ensures.items in
    omega (arith, last.below, c.requires.within)

pub overflow_add-self : goal.overflow_add-self
overflow_add-self c =
    let last = has_last c.args.prepared.now c.args.next c.args.self.now c.pop.new.self.items c.in_ok-j.j
    c.requires.stack c.in_ok-j.ensures.items in
    let value = ap (λ (x : Item). x.value) c.item-item.ensures.item in
    omega (arith, last.gap, value, c.item-item.ensures.problem.lo_fits)

pub overflow_sub-self : goal.overflow_sub-self
overflow_sub-self c =
    let last = has_last c.args.prepared.now c.args.next c.args.self.now c.pop.new.self.items c.in_ok-j.j
    c.requires.stack c.in_ok-j.ensures.items in
    let weight = ap (λ (x : Item). x.weight) c.item-item.ensures.item in
    omega (arith, last.weight, weight)

pub overflow_sub-self-2 : goal.overflow_sub-self-2
overflow_sub-self-2 c =
    let small = small_front c.args.prepared.now c.args.next c.args.self.now c.pop.new.self.items c.in_ok-j.j
    c.item-item.ensures.problem c.requires.within c.requires.stack c.in_ok-j.ensures.items in
    let cost = ap (λ (x : Item). x.cost) c.item-item.ensures.item in
    omega (
      arith,
      ints,
      small.old_low,
      small.old_high,
      small.item_low,
      small.item_high,
      small.new_low,
      small.new_high,
      cost,
      c.from.ensures,
    )

pub returns-clause-less : goal.returns-clause-less
returns-clause-less c =
    let last = has_last c.args.prepared.now c.args.next c.args.self.now c.pop.new.self.items c.in_ok-j.j
    c.requires.stack c.in_ok-j.ensures.items in
    last.below

pub returns-clause-stack : goal.returns-clause-stack
returns-clause-stack c =
    let last = has_last c.args.prepared.now c.args.next c.args.self.now c.pop.new.self.items c.in_ok-j.j
    c.requires.stack c.in_ok-j.ensures.items in
    let small = small_front c.args.prepared.now c.args.next c.args.self.now c.pop.new.self.items c.in_ok-j.j
    c.item-item.ensures.problem c.requires.within c.requires.stack c.in_ok-j.ensures.items in
    let value = ap (λ (x : Item). x.value) c.item-item.ensures.item in
    let weight = ap (λ (x : Item). x.weight) c.item-item.ensures.item in
    let cost = ap (λ (x : Item). x.cost) c.item-item.ensures.item in
    stack_less c.args.prepared.now c.args.next c.in_ok-j.j c.args.self.now _ c.requires.stack c.in_ok-j.ensures.items
    (omega (arith, value))
    (omega (arith, weight, last.weight))
    (omega (
      arith,
      ints,
      small.old_low,
      small.old_high,
      small.item_low,
      small.item_high,
      small.new_low,
      small.new_high,
      cost,
      c.from.ensures,
    ))
    c.pop.ensures.capacity
