use Rattle.std.proofs.Common.{arith}
use Rattle.std.proofs.lemmas.Int.{ints}
use Rattle.pick_problem.specs.Problem.{PlainProblem}
use Rattle.wide_check.proofs.SavingLaws.{savings_below, savings_least}
use Rattle.wide_check.proofs.claim.Claim.savings.Goals as goal

pub returns-clause-low : goal.returns-clause-low
returns-clause-low c =
    let p : PlainProblem = c.self.inside.problem in
    omega (arith, ints, c.from.ensures.savings p c.self.invariant.saves, savings_least p c.self.invariant.problem.problem c.args.t, savings_below p c.args.t)
