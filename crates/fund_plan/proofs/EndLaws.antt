-- How plans end.
use Rattle.std.specs.Prelude.{ℕ, ◌≡◌, ◌-◌, min, [], Option, Some, None}
use Rattle.std.proofs.Common.{refl, sym, ap, ◌∙◌}
use Rattle.closing_log.specs.declared.mark.Mark.TheVariants as mark
use Rattle.search_run.proofs.MadeLaws.{run_answers}
use Rattle.search_run.specs.Found.{PlainFound, taken}
use Rattle.search_run.specs.Run.{Stand, end_by as end_by_left}
use Rattle.search_run.specs.Step.{AreSteps}
use Rattle.search_run.specs.declared.ending.End.{End}
use Rattle.search_run.specs.declared.ending.End.TheVariants as ends
use Rattle.fund_steps.proofs.WholeLaws.{steps_whole}
use Rattle.fund_steps.specs.Basis.{basis_of}
use Rattle.fund_steps.specs.Plan.{PlainPlan}
use Rattle.fund_plan.specs.Chosen.{funded_at}
use Rattle.fund_plan.specs.Outcome.{IsAnswerOf, beginning_of, by_end, end_at, led, most_tries, outcome_at, stand_after}
use Rattle.fund_plan.specs.State.{PlanState, end_by, granted, moved, moved_by, partial_of, told}
use Rattle.fund_plan.specs.Steps.{steps_of}
use Rattle.fund_plan.specs.declared.outcome.Outcome.TheVariants.{Funded}

-- what was taken for want of tries tells the end again
pub end_back : (s : PlanState) (e : End) → end_at s.plan s.stand ≡ e → end_by s (partial_of e) ≡ e
end_back s (ends.Ended o) is = is
end_back s (ends.Partial f) is = refl
end_back s ends.Unfinished is = is

pub moved_none : (s : PlanState) (n : ℕ) (o : Option PlainFound) → o ≡ None → moved_by s o n ≡ moved_by s None n
moved_none s n o is = ap (λ (x : Option PlainFound). moved_by s x n) is

pub told_there : (s : PlanState) (n : ℕ) → told (moved_by s None n) ≡ by_end s.plan (end_at s.plan (led s.plan s.stand (granted s n)))
told_there s n = ap (by_end s.plan) (end_back (moved_by s None n) (end_at s.plan (led s.plan s.stand (granted s n))) refl)

pub new_told : (s : PlanState) (n : ℕ) → s.stand ≡ beginning_of s.plan → s.partial ≡ None → told (moved s n) ≡ outcome_at s.plan n
unfolding outcome_at
new_told s n new none =
    ap told (moved_none s n s.partial none)
    ∙ told_there s n
    ∙ ap (λ (x : Stand). by_end s.plan (end_at s.plan (led s.plan x (min n (most_tries - x.past.tries))))) new

-- a result that was taken for want of tries is told again
pub told_partial : (s : PlanState) (f : PlainFound) → s.partial ≡ Some f → Funded (funded_at s.plan mark.Partial f) ≡ told s
told_partial s f some = sym (ap (λ (o : Option PlainFound). by_end s.plan (end_by s o)) some)

pub end_left : (p : PlainPlan) (s : Stand) → s.left ≡ [] → end_at p s ≡ ends.Ended (taken s.past.found)
end_left p s none = ap (end_by_left p.request.take p.request.seed s) none

pub ended_answers : (p : PlainPlan) (n : ℕ) → AreSteps (steps_of p) → (stand_after p n).left ≡ [] → IsAnswerOf p (outcome_at p n)
unfolding outcome_at
ended_answers p n are over = record {
  found = taken (stand_after p n).past.found;
  answer = run_answers p.request.seed (steps_of p) (min n most_tries) are (steps_whole (basis_of p)) over;
  is = ap (by_end p) (end_left p (stand_after p n) over);
}
