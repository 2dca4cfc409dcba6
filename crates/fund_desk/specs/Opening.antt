-- The plan that a job is opened with.
use Rattle.std.specs.Prelude.{◌≡◌, None, Result, Ok}
use Rattle.fund_plan.specs.Outcome.{beginning_of}
use Rattle.fund_steps.specs.Plan.{PlainPlan}
use Rattle.desk_machine.specs.Replies.{Refusal}
use Rattle.fund_desk.specs.declared.opening.Made.{Made}

-- a request and its plan are made, as due, and no try is made yet
pub record IsMade (due : Result PlainPlan Refusal) (m : Made) : Type 0 where
  pub due_is : due ≡ Ok m.plan.plan
  pub request : m.request ≡ m.plan.plan.request
  pub stand : m.plan.stand ≡ beginning_of m.plan.plan
  pub partial : m.plan.partial ≡ None
