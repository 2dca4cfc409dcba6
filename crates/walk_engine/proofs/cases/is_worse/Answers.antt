use Rattle.std.specs.Prelude.{int_le}
use Rattle.std.specs.Int.{w128}
use Rattle.std.specs.Int.RustNames.{FitsSigned}
use Rattle.std.proofs.Common.{◌≡◌, ℤ, true, rules, ap, to_z, of_z, ◌∙◌}
use Rattle.std.proofs.lemmas.Int.{to_z-of_z}
use Rattle.pick_problem.specs.declared.item.Kind.TheVariants.{Changeless}
use Rattle.pick_problem.specs.Walk.{no_negative}
use Rattle.walk_engine.specs.Stack.{with_place}
use Rattle.walk_engine.proofs.CaseLaws.{worse_changeless}
use Rattle.walk_engine.proofs.cases.is_worse.Goals as goal

pub returns-then-plain_costs : goal.returns-then-plain_costs
returns-then-plain_costs c =
    let p = c.args.prepared.now in
    let best = c.args.best.now in
    let waste = c.waste_with.result in
    let best_fits : FitsSigned w128 best.sums.waste = search rules in
    let fits : FitsSigned w128 waste = search rules in
    let found : best.found ≡ true = search rules in
    let kind : p.kind ≡ Changeless = cc in
    let plain : no_negative p ≡ true = cc in
    ap (λ (z : ℤ). int_le z (to_z w128 (of_z w128 waste))) (to_z-of_z w128 best.sums.waste best_fits)
    ∙ (ap (λ (z : ℤ). int_le best.sums.waste z) (to_z-of_z w128 waste fits)
    ∙ worse_changeless p best
    (with_place c.args.stack.now c.args.t) waste c.requires.best found kind plain c.waste_with.ensures)
