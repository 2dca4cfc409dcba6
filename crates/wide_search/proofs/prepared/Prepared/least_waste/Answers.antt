use Rattle.std.proofs.Common.{◌≡◌, arith, ap}
use Rattle.std.proofs.lemmas.Int.{ints}
use Rattle.pick_problem.specs.Problem.{PlainProblem}
use Rattle.wide_check.specs.WideSteps.{savings}
use Rattle.wide_check.proofs.SavingLaws.{savings_below, savings_least}
use Rattle.wide_search.proofs.prepared.Prepared.least_waste.Goals as goal

pub overflow_add-result : goal.overflow_add-result
overflow_add-result c =
    let p = c.self.inside.problem in
    let t = c.args.t in
    let saved : c.from-2.result ≡ savings p t = c.from-2.ensures.savings p c.self.invariant.2 in
    let least = savings_least p c.self.invariant.0.problem t in
    omega (
      arith,
      ints,
      saved,
      least,
      savings_below p t,
      c.requires.small.low_cost,
      c.requires.small.high_cost,
    )

pub overflow_add-result-2 : goal.overflow_add-result-2
overflow_add-result-2 c =
    let p = c.self.inside.problem in
    let t = c.args.t in
    let saved : c.from-2.result ≡ savings p t = c.from-2.ensures.savings p c.self.invariant.2 in
    let least = savings_least p c.self.invariant.0.problem t in
    omega (
      arith,
      ints,
      saved,
      least,
      savings_below p t,
      c.requires.small.low_cost,
      c.requires.small.high_cost,
      c.requires.small.small_value,
      c.saturating_sub-excess.ensures,
    )

pub returns : goal.returns
returns c = λ q are.
    let p = c.self.inside.problem in
    let t = c.args.t in
    let saved : c.from-2.result ≡ savings p t = c.from-2.ensures.savings p c.self.invariant.2 in
    let same : savings p t ≡ savings c.args.self.now t = ap (λ (x : PlainProblem). savings x t) c.self.view_is in
    let lo : p.lo ≡ c.args.self.now.lo = ap (λ (x : PlainProblem). x.lo) c.self.view_is in
    let least = savings_least p c.self.invariant.0.problem t in
    omega (
      arith,
      ints,
      saved,
      same,
      lo,
      least,
      savings_below p t,
      c.requires.small.low_cost,
      c.requires.small.high_cost,
      c.requires.small.small_value,
      c.saturating_sub-excess.ensures,
      c.from.ensures,
      c.lo.ensures,
      are.cost,
      are.value,
    )
