use Rattle.std.specs.Prelude.{◌∷◌, get_or}
use Rattle.std.proofs.Common.{arith, refl}
use Rattle.std.specs.BinaryHeap.{heap_items}
use Rattle.pick_problem.specs.Pool.{IsItem, no_item}
use Rattle.random_draw.proofs.KeptLaws.{AreSmall, small, joins, item_small}
use Rattle.random_draw.proofs.Sorting.{sorted_up-permutation}
use Rattle.random_draw.proofs.kept.Kept.push.Goals as goal

pub overflow_add-self : goal.overflow_add-self
overflow_add-self c =
    let so : AreSmall c.args.self.now = small c.args.problem.now c.args.self.now c.items.ensures.problem c.requires.kept in
    let item : IsItem (get_or c.items.result.now c.args.place no_item) = item_small c.args.problem.now c.items.result.now c.args.place c.items.ensures.problem c.items.ensures.items c.requires.fresh in
    omega (arith, so.value, item.value, c.from.ensures)

pub overflow_add-self-2 : goal.overflow_add-self-2
overflow_add-self-2 c =
    let so : AreSmall c.args.self.now = small c.args.problem.now c.args.self.now c.items.ensures.problem c.requires.kept in
    let item : IsItem (get_or c.items.result.now c.args.place no_item) = item_small c.args.problem.now c.items.result.now c.args.place c.items.ensures.problem c.items.ensures.items c.requires.fresh in
    omega (arith, so.weight, item.weight)

pub returns-clause-places : goal.returns-clause-places
returns-clause-places c = sorted_up-permutation (c.args.place ∷ heap_items c.args.self.now.heap) (heap_items c.push.new.self) c.in_ok-push.ensures.permutation

pub returns-clause-kept : goal.returns-clause-kept
returns-clause-kept c =
    joins c.args.problem.now c.args.self.now c.push.new.self c.items.result.now c.args.place c.from.result (get_or c.items.result.now c.args.place no_item).weight c.requires.kept c.requires.fresh c.items.ensures.items (c.in_ok-push.ensures.heap_order c.requires.kept.heap) c.in_ok-push.ensures.permutation c.from.ensures refl
