-- A payment that isn't marked as partial, and that there is no selection, is the answer.
use Rattle.std.proofs.Common.{ℕ, refl}
use Rattle.std.specs.Prelude.{◌≢◌}
use Rattle.closing_log.specs.declared.mark.Mark.{Mark}
use Rattle.closing_log.specs.declared.mark.Mark.TheVariants as mark
use Rattle.fund_plan.specs.Outcome.{IsAnswerOf}
use Rattle.fund_plan.specs.Selection.{PlainFunded}
use Rattle.fund_plan.specs.State.{PlanState}
use Rattle.fund_plan.specs.declared.outcome.Outcome.TheVariants as answers
use Rattle.fund_steps.specs.Plan.{PlainPlan}
use Rattle.kept_job.specs.Continued.{ClaimsNoneOn, ClaimsOn, ClaimsOnBy}

by_mark : (m : Mark) (p : PlainPlan) (from tries : ℕ) (s : PlanState) (f : PlainFunded) → (m ≢ mark.Partial) → ClaimsOnBy m p from tries s f → IsAnswerOf p (answers.Funded f)
by_mark mark.Exhausted p from tries s f some h = h.1
by_mark mark.Partial p from tries s f some h = absurd (some refl)
by_mark mark.Drawn p from tries s f some h = h.1
by_mark mark.Given p from tries s f some h = absurd h

pub funded_answer : (p : PlainPlan) (from tries : ℕ) (s : PlanState) (f : PlainFunded) → ClaimsOn p from tries s f → f.mark ≢ mark.Partial → IsAnswerOf p (answers.Funded f)
funded_answer p from tries s f h some = by_mark f.mark p from tries s f some h

pub none_answer : (p : PlainPlan) (s : PlanState) → ClaimsNoneOn p s → IsAnswerOf p answers.NoSelection
none_answer p s h = h.1
