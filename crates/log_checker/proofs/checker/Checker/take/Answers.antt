use Rattle.log_checker.specs.Feeding.{PlainChecker}
use Rattle.log_checker.specs.Reads.{state_of}
use Rattle.log_checker.proofs.FeedLaws.{step_leaves}
use Rattle.log_checker.proofs.checker.Checker.take.Goals as goal

pub invariant_of-self : goal.invariant_of-self
invariant_of-self c =
    let old : PlainChecker = record {
      problem = c.self.inside.claim.problem;
      answer = c.self.inside.claim.answer;
      state = state_of c.self.inside.reading;
      fed = c.self.inside.fed;
      fault = c.self.inside.fault;
    } in (step_leaves old c.args.token (state_of c.step.new.self) c.step.result c.self.invariant.0 c.if-self.false c.step.ensures.step, c.step.ensures.reading)
