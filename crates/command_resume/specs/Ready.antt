-- What is read of the files before a plan goes on from its job, and how it goes on.
use Rattle.std.specs.Prelude.{ℕ, ◌≡◌, List, Option}
use Rattle.fund_outside.specs.Kept.{KeptJob}
use Rattle.fund_plan.specs.Answer.{ArePayments}
use Rattle.fund_plan.specs.Steps.{steps_of}
use Rattle.fund_steps.specs.Plan.{IsPlan}
use Rattle.search_run.specs.Step.{AreSteps}
use Rattle.kept_job.specs.Resuming.{HasResumed}
use Rattle.command_end.specs.Names.{Sources}
use Rattle.command_inputs.specs.Digest.{digest_in}
use Rattle.command_inputs.specs.Outcome.{plan_of}
use Rattle.command_inputs.specs.Inputs.{AreAsked}
use Rattle.command_inputs.specs.Names.{Payment}
use Rattle.command_resume.specs.Runs.{IsConcluded, Run}
use Rattle.command_inputs.specs.declared.funding.Ending.{Ending}
use Rattle.command_resume.specs.declared.resuming.LoadedJob.{LoadedJob}
use Rattle.command_resume.specs.declared.resuming.Ready.{Ready}

-- the plan is that of the request, and its steps keep their rules
pub record IsPlanned (x : Ready) : Type 0 where
  pub is : x.plan.plan ≡ plan_of x.held x.request
  pub rules : IsPlan x.plan.plan
  pub steps : AreSteps (steps_of x.plan.plan)

-- the same, of files: where they are told, they hold what was asked, and the digest is theirs
pub record IsReady (told : Type 0) (files : List ℕ → List ℕ) (s : Sources) (p : Payment) (x : Ready) : Type 0 where
  pub asked : AreAsked told files s p x.held x.request
  pub planned : IsPlanned x
  pub named : told → x.digest ≡ digest_in files s p

-- the plan went on from the job with the request's tries, and this is how the request ends
pub record HasEnded (told : Type 0) (x : Ready) (o : Option KeptJob) (e : Ending LoadedJob) : Type 0 where
  pub run : Run
  pub same : run.digest ≡ x.digest
  pub resumed : HasResumed told x.plan.plan x.digest o x.request.tries run.plan run.resumed
  pub pays : ArePayments x.plan.plan run.resumed.outcome
  pub ends : IsConcluded x.held x.request run e
