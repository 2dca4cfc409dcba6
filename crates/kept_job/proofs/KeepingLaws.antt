-- A plan that went on from a job and is unfinished can be kept, and stands at one of its steps.
use Rattle.std.proofs.Common.{◌≡◌, ◌∙◌, ℕ, ◌≤◌, ◌+◌, ◌-◌, min, List, [], ◌∷◌, ◌++◌, Option, sym, ap, subst, arith}
use Rattle.std.specs.List.{AllByRecursion}
use Rattle.fund_outside.specs.Kept.{KeptJob}
use Rattle.fund_plan.specs.Outcome.{most_tries}
use Rattle.fund_plan.specs.Resumed.{IsStandOf, restored_at}
use Rattle.fund_plan.specs.State.{PlanState, moved, told}
use Rattle.fund_plan.specs.Steps.{steps_of}
use Rattle.fund_plan.specs.declared.outcome.Outcome.{Outcome}
use Rattle.fund_plan.specs.declared.outcome.Outcome.TheVariants as answers
use Rattle.fund_steps.specs.Plan.{PlainPlan}
use Rattle.search_keep.specs.SavedText.{CanBeSaved}
use Rattle.search_run.proofs.MadeLaws.{kept_stands_on}
use Rattle.search_run.proofs.ResultLaws.{kept_stands}
use Rattle.search_run.specs.Judged.{saved_in}
use Rattle.search_run.specs.Kept.{stand_of}
use Rattle.search_run.specs.Stands.{IsStand}
use Rattle.search_run.specs.Step.{AreSteps, IsStep, PlainStep}
use Rattle.kept_job.proofs.ResumedLaws.{claims_open}
use Rattle.kept_job.proofs.SavingLaws.{can_keep}
use Rattle.kept_job.specs.Continued.{HasContinued, IsUsedUpOn}
use Rattle.kept_job.specs.SavingRules.{CanBeKept}

module _ (told_jobs : Type 0) (p : PlainPlan) (now : List ℕ) (o : Option KeptJob) (m : ℕ) (s : PlanState) (are : AreSteps (steps_of p)) where
  -- behind a try at least it can be kept in one part more
  pub can_keep_on : (g : HasContinued told_jobs p now o m s answers.Unfinished) → 1 ≤ m → CanBeSaved g.saved → CanBeKept s (g.saved.parts + 1)
  can_keep_on g some can =
      let u : IsUsedUpOn p g.saved.tries m s = claims_open told_jobs p now o m s g in
      let begins : IsStandOf (restored_at p g.saved g.log) = kept_stands p.request.seed (steps_of p) are (saved_in g.saved) g.log g.can.can in
      let made : s.stand.past.tries ≡ g.saved.tries + min m (most_tries - g.saved.tries) = u.used_up.made in
      let here : s.stand.past.tries ≡ (moved (restored_at p g.saved g.log) m).stand.past.tries = ap (λ (x : PlanState). x.stand.past.tries) g.stands in
      let left = g.can.due.tries in
      let few : g.saved.parts ≤ g.saved.tries + 1 = can.parts in
      let enough : g.saved.parts + 1 ≤ s.stand.past.tries + 1 = omega (arith, made, left, few, some) in
      subst (λ (x : PlanState). CanBeKept x (g.saved.parts + 1)) (sym g.stands)
      (can_keep (restored_at p g.saved g.log) m (g.saved.parts + 1) are begins (sym (g.comes_to ∙ ap told g.stands)) (omega arith)
      (subst (λ (tries : ℕ). g.saved.parts + 1 ≤ tries + 1) here enough))

  step_behind : (P : PlainStep → Type 0) (front : List PlainStep) (x : PlainStep) (rest : List PlainStep) → AllByRecursion P (front ++ x ∷ rest) → P x
  step_behind P [] x rest h = h.0
  step_behind P (y ∷ ys) x rest h = step_behind P ys x rest h.1

  -- what is left begins with one of its steps
  pub step_on : (a : Outcome) (g : HasContinued told_jobs p now o m s a) (x : PlainStep) (rest : List PlainStep) → s.stand.left ≡ x ∷ rest → IsStep x
  step_on a g x rest left =
      let stands : IsStand p.request.seed (steps_of p) s.stand =
      subst (λ (y : PlanState). IsStand p.request.seed (steps_of p) y.stand) (sym g.stands)
      (kept_stands_on p.request.seed (steps_of p) are (stand_of p.request.seed (steps_of p) (saved_in g.saved) g.log) (min m (most_tries - g.saved.tries))
      (kept_stands p.request.seed (steps_of p) are (saved_in g.saved) g.log g.can.can)) in
      let parts : steps_of p ≡ stands.left.0 ++ x ∷ rest = stands.left.1 ∙ ap (λ (xs : List PlainStep). stands.left.0 ++ xs) left in
      step_behind IsStep stands.left.0 x rest (subst (AllByRecursion IsStep) parts are)
