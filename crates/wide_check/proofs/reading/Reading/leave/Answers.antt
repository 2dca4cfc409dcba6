use Rattle.std.proofs.Common.{ℕ, ◌≡◌, ◌-◌, arith, refl, ap, ◌∙◌, ◌-ℤ◌}
use Rattle.pick_problem.specs.declared.item.Item.{Item}
use Rattle.pick_problem.specs.Pool.{item_at}
use Rattle.wide_check.proofs.MoveLaws.{cost_difference, dropped, dropped_below, dropped_state, dropped_value, dropped_weight}
use Rattle.wide_check.proofs.reading.Reading.leave.Goals as goal

pub item-item-requires : goal.item-item-requires
item-item-requires c = dropped_below c.args.claim.now.problem c.args.self.now c.pop.new.self.items c.in-Some.place c.requires.reading c.in-Some.ensures.items

pub overflow_sub-self : goal.overflow_sub-self
overflow_sub-self c =
    omega (arith, c.from.ensures, ap (λ (x : Item). x.value) c.item-item.ensures.item, dropped_value c.args.claim.now.problem c.args.self.now c.pop.new.self.items c.in-Some.place c.requires.reading c.in-Some.ensures.items)

pub overflow_sub-self-in-Some : goal.overflow_sub-self-in-Some
overflow_sub-self-in-Some c =
    omega (arith, ap (λ (x : Item). x.weight) c.item-item.ensures.item, dropped_weight c.args.claim.now.problem c.args.self.now c.pop.new.self.items c.in-Some.place c.requires.reading c.in-Some.ensures.items)

pub returns-in-Some-clause-state : goal.returns-in-Some-clause-state
returns-in-Some-clause-state c = dropped_state c.args.claim.now.problem c.args.self.now.places.items c.pop.new.self.items c.in-Some.place c.args.self.now.closed c.args.self.now.met c.in-Some.ensures.items c.requires.«open»

pub returns-in-Some-clause-reading : goal.returns-in-Some-clause-reading
returns-in-Some-clause-reading c =
    let item : c.item-item.result ≡ item_at c.args.claim.now.problem.items c.in-Some.place = c.item-item.ensures.item in
    dropped c.args.claim.now.problem c.item-item.ensures.problem c.args.self.now _ c.in-Some.place c.requires.reading c.in-Some.ensures.items
    (ap (λ (n : ℕ). c.args.self.now.value - n) (c.from.ensures ∙ ap (λ (x : Item). x.value) item))
    (ap (λ (x : Item). c.args.self.now.weight - x.weight) item)
    (cost_difference c.args.claim.now.problem c.args.self.now c.item-item.result c.from-in-Some.result c.requires.reading c.item-item.ensures.ranges c.from-in-Some.ensures
    ∙ ap (λ (x : Item). c.args.self.now.cost -ℤ x.cost) item)
    refl (omega (arith, c.in-Some.ensures.capacity))
