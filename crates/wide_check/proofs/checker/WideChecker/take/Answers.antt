use Rattle.std.proofs.Common.{subst, ◌≡◌}
use Rattle.std.specs.Prelude.{IfErr, OnOk}
use Rattle.wide_check.specs.Feeding.{PlainWideChecker, RefusesToken, stepped}
use Rattle.wide_check.specs.Reads.{fault_at, state_of}
use Rattle.wide_check.specs.WideSteps.{IsAllowed}
use Rattle.wide_check.proofs.FeedLaws.{at_state, step_leaves, take_ok, take_refused}
use Rattle.wide_check.proofs.checker.WideChecker.take.Goals as goal

pub invariant_of-self : goal.invariant_of-self
invariant_of-self c =
    let old : PlainWideChecker = record {
      problem = c.self.inside.claim.problem;
      answer = c.self.inside.claim.answer;
      state = state_of c.self.inside.reading;
      fed = c.self.inside.fed;
      fault = c.self.inside.fault;
    } in (step_leaves old c.args.token (state_of c.step.new.self) c.step.result c.self.invariant.0 c.if-self.false c.step.ensures.step, c.step.ensures.reading)

pub returns-clause-ok : goal.returns-clause-ok
returns-clause-ok c =
    let old : PlainWideChecker = record {
      problem = c.self.inside.claim.problem;
      answer = c.self.inside.claim.answer;
      state = state_of c.self.inside.reading;
      fed = c.self.inside.fed;
      fault = c.self.inside.fault;
    } in
    subst (λ (m : PlainWideChecker). OnOk c.step.result (IsAllowed m.problem m.answer m.state c.args.token × (at_state old (state_of c.step.new.self) ≡ stepped m c.args.token))) c.self.view_is
    (take_ok old c.args.token (state_of c.step.new.self) c.step.result c.if-self.false c.step.ensures.step)

pub returns-clause-err : goal.returns-clause-err
returns-clause-err c =
    let old : PlainWideChecker = record {
      problem = c.self.inside.claim.problem;
      answer = c.self.inside.claim.answer;
      state = state_of c.self.inside.reading;
      fed = c.self.inside.fed;
      fault = c.self.inside.fault;
    } in
    subst (λ (m : PlainWideChecker). IfErr c.step.result (λ w. RefusesToken m c.args.token (fault_at w m.fed) × (at_state old (state_of c.step.new.self) ≡ m))) c.self.view_is
    (take_refused old c.args.token (state_of c.step.new.self) c.step.result c.if-self.false c.step.ensures.step)
