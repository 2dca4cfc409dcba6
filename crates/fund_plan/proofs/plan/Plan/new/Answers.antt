use Rattle.std.specs.Prelude.{All}
use Rattle.std.proofs.Common.{subst, sym}
use Rattle.fund_steps.specs.Plan.{HasEligible, IsRoomy, PlainPlan, ladder_in}
use Rattle.fund_plan.proofs.plan.Plan.new.Goals as goal

pub returns-clause-eligible : goal.returns-clause-eligible
returns-clause-eligible c = subst (λ (p : PlainPlan). All (HasEligible p) p.request.coins) (sym c.new-funding.ensures) c.in_ok-funds.ensures.eligible

pub returns-clause-roomy : goal.returns-clause-roomy
returns-clause-roomy c = subst (λ (p : PlainPlan). All (IsRoomy p) (ladder_in p)) (sym c.new-funding.ensures) c.in_ok-funds.ensures.roomy
