use Rattle.std.proofs.Common.{arith, ap}
use Rattle.std.proofs.lemmas.Int.{ints}
use Rattle.pick_problem.specs.declared.item.Item.{Item}
use Rattle.pick_problem.specs.Pool.{IsItem, item_at}
use Rattle.pick_problem.proofs.SumLaws.{item_is}
use Rattle.walk_engine.proofs.StackLaws.{small_parts}
use Rattle.walk_engine.proofs.CaseLaws.{waste_with}
use Rattle.walk_engine.proofs.stack.Stack.waste_with.Goals as goal

pub overflow_add-result : goal.overflow_add-result
overflow_add-result c =
    let small = small_parts c.args.prepared.now c.args.t c.args.self.now c.item-item.ensures.problem c.requires.below
    c.requires.stack in
    let cost = ap (λ (x : Item). x.cost) c.item-item.ensures.item in
    omega (
      arith,
      ints,
      small.old_low,
      small.old_high,
      small.item_low,
      small.item_high,
      small.new_low,
      small.new_high,
      cost,
      c.from.ensures,
    )

pub overflow_add-result-2 : goal.overflow_add-result-2
overflow_add-result-2 c =
    let small = small_parts c.args.prepared.now c.args.t c.args.self.now c.item-item.ensures.problem c.requires.below
    c.requires.stack in
    let item : IsItem (item_at c.args.prepared.now.items c.args.t) = item_is c.args.prepared.now c.args.t
    c.item-item.ensures.problem c.requires.below in
    let cost = ap (λ (x : Item). x.cost) c.item-item.ensures.item in
    let value = ap (λ (x : Item). x.value) c.item-item.ensures.item in
    omega (
      arith,
      ints,
      small.old_low,
      small.old_high,
      small.item_low,
      small.item_high,
      small.new_low,
      small.new_high,
      item.value,
      cost,
      value,
      c.from.ensures,
      c.from-2.ensures,
      c.saturating_sub.ensures,
    )

pub returns : goal.returns
returns c =
    let small = small_parts c.args.prepared.now c.args.t c.args.self.now c.item-item.ensures.problem c.requires.below
    c.requires.stack in
    let item : IsItem (item_at c.args.prepared.now.items c.args.t) = item_is c.args.prepared.now c.args.t
    c.item-item.ensures.problem c.requires.below in
    let cost = ap (λ (x : Item). x.cost) c.item-item.ensures.item in
    let value = ap (λ (x : Item). x.value) c.item-item.ensures.item in
    omega (
      arith,
      ints,
      small.old_low,
      small.old_high,
      small.item_low,
      small.item_high,
      small.new_low,
      small.new_high,
      item.value,
      cost,
      value,
      c.from.ensures,
      c.from-2.ensures,
      c.saturating_sub.ensures,
      waste_with c.args.prepared.now c.args.self.now c.args.t c.requires.stack,
    )
