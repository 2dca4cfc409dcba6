use Rattle.std.proofs.Common.{ℕ, ◌≡◌, ◌+◌, refl, ap, ◌∙◌, ◌+ℤ◌}
use Rattle.pick_problem.specs.declared.item.Item.{Item}
use Rattle.pick_problem.specs.Pool.{item_at}
use Rattle.wide_check.proofs.MoveLaws.{cost_sum, entered}
use Rattle.wide_check.proofs.reading.Reading.enter.Goals as goal

pub returns-clause-reading : goal.returns-clause-reading
returns-clause-reading c =
    let item : c.item-item.result ≡ item_at c.args.claim.now.problem.items c.args.self.now.next = c.item-item.ensures.item in
    entered c.args.claim.now.problem c.item-item.ensures.problem c.args.self.now _ c.requires.reading c.requires.below c.put.ensures.places
    (ap (λ (n : ℕ). c.args.self.now.value + n) (c.from.ensures ∙ ap (λ (x : Item). x.value) item))
    (ap (λ (x : Item). c.args.self.now.weight + x.weight) item)
    (cost_sum c.args.claim.now.problem c.args.self.now c.item-item.result c.from-2.result c.requires.reading c.item-item.ensures.ranges c.from-2.ensures
    ∙ ap (λ (x : Item). c.args.self.now.cost +ℤ x.cost) item)
    refl c.put.ensures.room
