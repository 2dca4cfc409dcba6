use Rattle.std.specs.Prelude.{◌≡◌, ◌<◌, length, take, is_some}
use Rattle.std.proofs.Common.{rules, subst}
use Rattle.pick_problem.specs.Letters.{IsAcceptedText}
use Rattle.pick_problem.specs.Problem.{PlainProblem}
use Rattle.search_run.specs.Judged.{HasOrMemory}
use Rattle.search_run.specs.Kept.{IsAcceptedAt, comes_to, first_search}
use Rattle.search_run.proofs.FollowLaws.{accepted_at, along_below, along_on, refused_here}
use Rattle.search_run.proofs.verifying.verify.Goals as goal

pub bounds-steps-now : goal.bounds-steps-now
bounds-steps-now c = along_below IsAcceptedAt c.args.seed c.args.steps.now c.args.closed.now c.along.i c.along.now c.index-closed-i.result c.along-test.true c.index-closed-i.is c.requires c.along.invariant

pub answered-requires : goal.answered-requires
answered-requires c = along_below IsAcceptedAt c.args.seed c.args.steps.now c.args.closed.now c.along.i c.along.now c.index-closed-i.result c.along-test.true c.index-closed-i.is c.requires c.along.invariant

pub returns-in-Err : goal.returns-in-Err
returns-in-Err c =
    let s = c.index-closed-i.result in
    let x = c.index-steps-now.result in
    let below : c.along.now.at < length c.args.steps.now = along_below IsAcceptedAt c.args.seed c.args.steps.now c.args.closed.now c.along.i c.along.now s c.along-test.true c.index-closed-i.is c.requires c.along.invariant in
    record {
      accepted = tt;
      refused =
          refused_here c.args.seed c.args.steps.now c.args.closed.now c.along.i c.along.now x s c.in-Err.why c.refusal.result c.along-test.true c.index-closed-i.is below c.index-steps-now.is c.along.invariant
          (subst (λ (p : PlainProblem). HasOrMemory p s.answer s.letters c.in-Err.why) c.problem.ensures.problem c.in-Err.ensures.fault) c.refusal.ensures.memory c.refusal.ensures.log;
    }

pub along-preserved : goal.along-preserved
along-preserved c =
    let s = c.index-closed-i.result in
    let x = c.index-steps-now.result in
    let at = comes_to c.args.seed (first_search c.args.seed c.args.steps.now) (take c.along.i c.args.closed.now) in
    let below : c.along.now.at < length c.args.steps.now = along_below IsAcceptedAt c.args.seed c.args.steps.now c.args.closed.now c.along.i c.along.now s c.along-test.true c.index-closed-i.is c.requires c.along.invariant in
    let some : is_some c.index-closed-i.result.answer ≡ c.is_some.result = search rules in
    along_on IsAcceptedAt c.args.seed c.args.steps.now c.args.closed.now c.along.i c.along.now c.in_ok-now-2.now s c.along-test.true c.index-closed-i.is c.along.invariant
    (accepted_at c.args.steps.now c.along.now at x s below c.index-steps-now.is c.along.invariant.comes (subst (λ (p : PlainProblem). IsAcceptedText p s.answer s.letters) c.problem.ensures.problem c.in_default.ensures.ok))
    (c.in_ok-now-2.ensures at s.answer c.along.invariant.comes some)
