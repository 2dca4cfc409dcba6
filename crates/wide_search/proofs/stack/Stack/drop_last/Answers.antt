use Rattle.std.proofs.Common.{arith, ap}
use Rattle.std.proofs.lemmas.Int.{ints}
use Rattle.pick_problem.specs.declared.item.Item.{Item}
use Rattle.wide_search.proofs.StackLaws.{has_last, small_costs, stack_less}
use Rattle.wide_search.proofs.stack.Stack.drop_last.Goals as goal

pub item-item-requires : goal.item-item-requires
item-item-requires c =
    let last = has_last c.args.prepared.now c.args.next c.args.self.now c.pop.new.self.items c.in_ok-j.j
    c.requires.stack c.in_ok-j.ensures.items in
    omega (arith, last.below, c.requires.within)

pub overflow_sub-self : goal.overflow_sub-self
overflow_sub-self c =
    let last = has_last c.args.prepared.now c.args.next c.args.self.now c.pop.new.self.items c.in_ok-j.j
    c.requires.stack c.in_ok-j.ensures.items in
    let value = ap (λ (x : Item). x.value) c.item-item.ensures.item in
    omega (arith, last.value, value, c.from.ensures)

pub overflow_sub-self-2 : goal.overflow_sub-self-2
overflow_sub-self-2 c =
    let last = has_last c.args.prepared.now c.args.next c.args.self.now c.pop.new.self.items c.in_ok-j.j
    c.requires.stack c.in_ok-j.ensures.items in
    let weight = ap (λ (x : Item). x.weight) c.item-item.ensures.item in
    omega (arith, last.weight, weight)

pub returns-clause-less : goal.returns-clause-less
returns-clause-less c =
    let last = has_last c.args.prepared.now c.args.next c.args.self.now c.pop.new.self.items c.in_ok-j.j
    c.requires.stack c.in_ok-j.ensures.items in
    last.below

pub returns-clause-stack : goal.returns-clause-stack
returns-clause-stack c =
    let last = has_last c.args.prepared.now c.args.next c.args.self.now c.pop.new.self.items c.in_ok-j.j
    c.requires.stack c.in_ok-j.ensures.items in
    let small = small_costs c.args.prepared.now c.args.next c.in_ok-j.j c.args.self.now c.item-item.ensures.problem.problem
    (omega (arith, last.below, c.requires.within)) c.requires.stack in
    let value = ap (λ (x : Item). x.value) c.item-item.ensures.item in
    let weight = ap (λ (x : Item). x.weight) c.item-item.ensures.item in
    let cost = ap (λ (x : Item). x.cost) c.item-item.ensures.item in
    stack_less c.args.prepared.now c.args.next c.in_ok-j.j c.args.self.now _ c.item-item.ensures.problem.problem
    c.requires.within c.requires.stack c.in_ok-j.ensures.items
    (omega (arith, value, last.value, c.from.ensures))
    (omega (arith, weight, last.weight))
    (omega (
      arith,
      ints,
      small.old_low,
      small.old_high,
      small.item_low,
      small.item_high,
      cost,
      c.from-2.ensures,
    ))
    c.pop.ensures.capacity
