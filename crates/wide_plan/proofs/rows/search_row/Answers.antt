use Rattle.std.proofs.Common.{◌∙◌, ap, arith}
use Rattle.wide_plan.proofs.EndLaws.{tries_most}
use Rattle.wide_plan.specs.Walked.{PlainWalked}
use Rattle.wide_plan.proofs.rows.search_row.Goals as goal

pub returns-in_default-clause-most : goal.returns-in_default-clause-most
returns-in_default-clause-most c =
    let e = ap (λ (w : PlainWalked). w.made) (c.made.view_is ∙ c.in_ok-made.ensures) in
    omega (arith, e, tries_most c.problem.result.now c.args.tries)

pub returns-clause-most : goal.returns-clause-most
returns-clause-most c =
    let e = ap (λ (w : PlainWalked). w.made) (c.made.view_is ∙ c.in_ok-made.ensures) in
    omega (arith, e, tries_most c.problem.result.now c.args.tries)
