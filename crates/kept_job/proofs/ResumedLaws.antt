-- What a plan claims that went on from a job, by what it came to.
use Rattle.std.proofs.Common.{◌≡◌, ◌∙◌, ℕ, List, Option, sym, ap, subst}
use Rattle.closing_log.specs.LogText.{IsLogText, text_of}
use Rattle.fund_outside.specs.Kept.{KeptJob}
use Rattle.fund_plan.specs.Outcome.{IsAnswerOf}
use Rattle.fund_plan.specs.Resumed.{AreAccepted, log_in}
use Rattle.fund_plan.specs.Selection.{PlainFunded}
use Rattle.fund_plan.specs.State.{PlanState, told}
use Rattle.fund_plan.specs.Steps.{steps_of}
use Rattle.fund_plan.specs.declared.outcome.Outcome.{Outcome}
use Rattle.fund_plan.specs.declared.outcome.Outcome.TheVariants as answers
use Rattle.fund_steps.specs.Plan.{IsPlan, PlainPlan}
use Rattle.search_run.specs.Step.{AreSteps}
use Rattle.kept_job.proofs.AnswerLaws.{settled_answers, unfinished_used_up}
use Rattle.kept_job.proofs.ClaimLaws.{funded_claims_on, none_claims_on}
use Rattle.kept_job.proofs.ReadsLaws.{reads_on}
use Rattle.kept_job.specs.Continued.{ClaimsNoneOn, ClaimsOn, HasContinued, IsSettled, IsUsedUpOn}

module _ (told_jobs : Type 0) (p : PlainPlan) (now : List ℕ) (job : Option KeptJob) (m : ℕ) (s : PlanState) where
  pub claims_answer : (o : Outcome) → AreSteps (steps_of p) → HasContinued told_jobs p now job m s o → IsSettled o → IsAnswerOf p o
  claims_answer o are g settled =
      settled_answers p now g.saved g.log m are g.can o (g.comes_to ∙ ap told g.stands) settled
      (subst (λ (x : PlanState). AreAccepted p x.stand.past.closed) g.stands (g.accepted settled))

  pub claims_payment : (f : PlainFunded) (g : HasContinued told_jobs p now job m s (answers.Funded f)) → IsPlan p → AreSteps (steps_of p) → ClaimsOn p g.saved.tries m s f
  claims_payment f g rules are =
      let here = g.comes_to ∙ ap told g.stands in
      subst (λ (x : PlanState). ClaimsOn p g.saved.tries m x f) (sym g.stands)
      (funded_claims_on p now g.saved g.log m rules are g.can f (sym here)
      (λ settled. subst (λ (x : PlanState). AreAccepted p x.stand.past.closed) g.stands (g.accepted (subst IsSettled (sym here) settled)))
      (λ settled. subst (IsAnswerOf p) here (claims_answer (answers.Funded f) are g (subst IsSettled (sym here) settled))))

  pub claims_none : (g : HasContinued told_jobs p now job m s answers.NoSelection) → IsPlan p → AreSteps (steps_of p) → ClaimsNoneOn p s
  claims_none g rules are =
      let here = g.comes_to ∙ ap told g.stands in
      subst (ClaimsNoneOn p) (sym g.stands)
      (none_claims_on p now g.saved g.log m rules are g.can (sym here) (subst (λ (x : PlanState). AreAccepted p x.stand.past.closed) g.stands (g.accepted tt)) (claims_answer answers.NoSelection are g tt))

  pub claims_open : (g : HasContinued told_jobs p now job m s answers.Unfinished) → IsUsedUpOn p g.saved.tries m s
  claims_open g =
      subst (λ (x : PlanState). IsUsedUpOn p g.saved.tries m x) (sym g.stands)
      (unfinished_used_up p now g.saved g.log m (sym (g.comes_to ∙ ap told g.stands)))

  -- the log of one that came to an end reads as it is written
  pub claims_read : (a : Outcome) (bytes : List ℕ) (g : HasContinued told_jobs p now job m s a) → AreSteps (steps_of p) → IsLogText bytes g.log → (a ≡ answers.Unfinished → ⊥) → IsLogText (text_of (log_in s)) (log_in s)
  claims_read a bytes g are text goes =
      subst (λ (x : PlanState). IsLogText (text_of (log_in x)) (log_in x)) (sym g.stands)
      (reads_on p now g.saved g.log bytes m are g.can text (λ e. goes (g.comes_to ∙ (ap told g.stands ∙ e))))
