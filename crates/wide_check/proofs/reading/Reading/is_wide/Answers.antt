use Rattle.std.proofs.Common.{ℕ, ◌≤◌, List, arith}
use Rattle.std.proofs.lemmas.Bool.{le-leb, leb-true}
use Rattle.pick_problem.specs.Problem.{PlainProblem, value_of}
use Rattle.wide_check.proofs.MoveLaws.{rises}
use Rattle.wide_check.proofs.TestLaws.{wide_of}
use Rattle.wide_check.proofs.reading.Reading.is_wide.Goals as goal

pub returns : goal.returns
returns c =
    let p : PlainProblem = c.args.claim.now.problem in
    let q : List ℕ = c.args.self.now.places.items in
    let reaches : p.lo ≤ value_of p q = omega (arith, c.requires.value, c.from.ensures, c.lo.ensures.lo) in
    let under : value_of p q ≤ p.hi = omega (arith, c.requires.value, c.from-2.ensures, c.hi.ensures) in (
      λ l.
          let light = leb-true c.args.self.now.weight c.most_weight.result l in
          wide_of p q (omega (arith, c.lo.ensures.some, c.lo.ensures.lo)) (rises p c.args.self.now c.requires) reaches under (omega (arith, light, c.requires.weight, c.most_weight.ensures)),
      λ h. le-leb c.args.self.now.weight c.most_weight.result (omega (arith, h.light, c.requires.weight, c.most_weight.ensures)),
    )
