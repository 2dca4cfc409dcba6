use Rattle.std.specs.Int.{w128}
use Rattle.std.specs.Int.RustNames.{FitsSigned}
use Rattle.std.proofs.Common.{arith, rules, ap, ◌∙◌}
use Rattle.std.proofs.lemmas.Int.{to_z-of_z}
use Rattle.pick_problem.specs.declared.item.Item.{Item}
use Rattle.walk_engine.proofs.BestLaws.{sums_are}
use Rattle.walk_engine.proofs.best.sums_with.Goals as goal

pub returns : goal.returns
returns c =
    let fits : FitsSigned w128 c.waste_with.result = search rules in
    let value = ap (λ (x : Item). x.value) c.item.ensures.item in
    sums_are c.args.prepared.now c.args.stack.now c.args.t _ c.requires.stack c.requires.reaches
    (to_z-of_z w128 c.waste_with.result fits ∙ c.waste_with.ensures)
    c.weight_with.ensures
    (omega (arith, c.from.ensures, value))
