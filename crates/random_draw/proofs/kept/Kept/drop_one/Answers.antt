use Rattle.std.specs.Prelude.{List, length, get_or}
use Rattle.std.proofs.Common.{arith, ap, refl}
use Rattle.pick_problem.specs.declared.item.Item.{Item}
use Rattle.pick_problem.specs.Pool.{no_item}
use Rattle.random_draw.proofs.KeptLaws.{IsDropped, leaves}
use Rattle.random_draw.proofs.kept.Kept.drop_one.Goals as goal

pub bounds-items-place : goal.bounds-items-place
bounds-items-place c =
    let done : IsDropped c.args.problem.now c.args.self.now c.pop.new.self c.in-Some.place (get_or c.items.result.now c.in-Some.place no_item).value (get_or c.items.result.now c.in-Some.place no_item).weight =
    leaves c.args.problem.now c.args.self.now c.pop.new.self c.items.result.now c.in-Some.place (get_or c.items.result.now c.in-Some.place no_item).value (get_or c.items.result.now c.in-Some.place no_item).weight c.items.ensures.problem c.requires.kept c.items.ensures.items
    (c.in-Some.ensures.heap_order c.requires.kept.heap).0 c.in-Some.ensures.permutation (c.in-Some.ensures.below_top c.requires.kept.heap) refl refl in
    omega (arith, done.below, ap (λ (xs : List Item). length xs) c.items.ensures.items)

pub overflow_sub-self : goal.overflow_sub-self
overflow_sub-self c =
    let done : IsDropped c.args.problem.now c.args.self.now c.pop.new.self c.in-Some.place c.from.result (get_or c.items.result.now c.in-Some.place no_item).weight =
    leaves c.args.problem.now c.args.self.now c.pop.new.self c.items.result.now c.in-Some.place c.from.result (get_or c.items.result.now c.in-Some.place no_item).weight c.items.ensures.problem c.requires.kept c.items.ensures.items
    (c.in-Some.ensures.heap_order c.requires.kept.heap).0 c.in-Some.ensures.permutation (c.in-Some.ensures.below_top c.requires.kept.heap) c.from.ensures refl in
    done.value

pub overflow_sub-self-in-Some : goal.overflow_sub-self-in-Some
overflow_sub-self-in-Some c =
    let done : IsDropped c.args.problem.now c.args.self.now c.pop.new.self c.in-Some.place c.from.result (get_or c.items.result.now c.in-Some.place no_item).weight =
    leaves c.args.problem.now c.args.self.now c.pop.new.self c.items.result.now c.in-Some.place c.from.result (get_or c.items.result.now c.in-Some.place no_item).weight c.items.ensures.problem c.requires.kept c.items.ensures.items
    (c.in-Some.ensures.heap_order c.requires.kept.heap).0 c.in-Some.ensures.permutation (c.in-Some.ensures.below_top c.requires.kept.heap) c.from.ensures refl in
    done.weight

pub returns-in-Some-clause-places : goal.returns-in-Some-clause-places
returns-in-Some-clause-places c =
    let done : IsDropped c.args.problem.now c.args.self.now c.pop.new.self c.in-Some.place c.from.result (get_or c.items.result.now c.in-Some.place no_item).weight =
    leaves c.args.problem.now c.args.self.now c.pop.new.self c.items.result.now c.in-Some.place c.from.result (get_or c.items.result.now c.in-Some.place no_item).weight c.items.ensures.problem c.requires.kept c.items.ensures.items
    (c.in-Some.ensures.heap_order c.requires.kept.heap).0 c.in-Some.ensures.permutation (c.in-Some.ensures.below_top c.requires.kept.heap) c.from.ensures refl in
    done.places

pub returns-in-Some-clause-fewer : goal.returns-in-Some-clause-fewer
returns-in-Some-clause-fewer c =
    let done : IsDropped c.args.problem.now c.args.self.now c.pop.new.self c.in-Some.place c.from.result (get_or c.items.result.now c.in-Some.place no_item).weight =
    leaves c.args.problem.now c.args.self.now c.pop.new.self c.items.result.now c.in-Some.place c.from.result (get_or c.items.result.now c.in-Some.place no_item).weight c.items.ensures.problem c.requires.kept c.items.ensures.items
    (c.in-Some.ensures.heap_order c.requires.kept.heap).0 c.in-Some.ensures.permutation (c.in-Some.ensures.below_top c.requires.kept.heap) c.from.ensures refl in
    done.fewer

pub returns-in-Some-clause-kept : goal.returns-in-Some-clause-kept
returns-in-Some-clause-kept c =
    let done : IsDropped c.args.problem.now c.args.self.now c.pop.new.self c.in-Some.place c.from.result (get_or c.items.result.now c.in-Some.place no_item).weight =
    leaves c.args.problem.now c.args.self.now c.pop.new.self c.items.result.now c.in-Some.place c.from.result (get_or c.items.result.now c.in-Some.place no_item).weight c.items.ensures.problem c.requires.kept c.items.ensures.items
    (c.in-Some.ensures.heap_order c.requires.kept.heap).0 c.in-Some.ensures.permutation (c.in-Some.ensures.below_top c.requires.kept.heap) c.from.ensures refl in
    done.remains
