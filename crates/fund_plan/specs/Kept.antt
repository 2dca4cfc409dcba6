-- What a plan holds.
use Rattle.std.specs.Prelude.{◌≡◌, Option, IfSome}
use Rattle.request_text.specs.PlainRequest.{PlainRequest}
use Rattle.search_run.specs.Found.{IsResultOf, PlainFound}
use Rattle.search_run.specs.Runs.{PlainRun}
use Rattle.fund_steps.specs.Plan.{PlainPlan}
use Rattle.fund_plan.specs.Steps.{steps_of}
use Rattle.fund_plan.specs.declared.funding.Choice.{Choice}

-- what a request says of the coins that may be chosen
abbrev pub choice_of : PlainRequest → Choice
choice_of r = record { zero_conf = r.zero_conf; include_unsafe = r.include_unsafe; group = r.group; take = r.take }

-- its run is one over its steps, and what was taken for want of tries is a result of one
pub record IsRunOf (p : PlainPlan) (run : PlainRun) (partial : Option PlainFound) : Type 0 where
  pub seed_is : run.seed ≡ p.request.seed
  pub steps_are : run.steps ≡ steps_of p
  pub partial_is : IfSome partial (IsResultOf (steps_of p))
