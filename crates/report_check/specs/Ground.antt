-- What reports are judged against.
use Rattle.std.specs.Prelude.{◌≡◌, List}
use Rattle.fund_plan.specs.Steps.{steps_of}
use Rattle.fund_steps.specs.Plan.{PlainPlan}
use Rattle.request_text.specs.PlainRequest.{PlainRequest}
use Rattle.search_run.specs.Step.{AreSteps, PlainStep}
use Rattle.wallet_text.specs.declared.wallet.Watch.{Watch}

-- the request and the change script are those of the plan, and these are the steps of its run
pub record IsGround (p : PlainPlan) (request : PlainRequest) (change : Watch) (steps : List PlainStep) : Type 0 where
  pub request_is : p.request ≡ request
  pub change_is : p.change ≡ change
  pub steps_are : steps ≡ steps_of p
  pub fine : AreSteps steps
