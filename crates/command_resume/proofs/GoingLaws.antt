-- What is read of the files and of the job, joined; and why going on stops.
use Rattle.std.proofs.Common.{◌≡◌, ◌∙◌, ℕ, List, Option, refl, sym, ap, subst}
use Rattle.fund_shelf.specs.Causes.{Rose, ShelfView}
use Rattle.fund_files.specs.Chain.{chain_from}
use Rattle.fund_files.specs.declared.chain.Chain.{Chain}
use Rattle.fund_outside.specs.Kept.{KeeperView, KeptJob}
use Rattle.fund_plan.specs.Answer.{ArePayments, HasSelection}
use Rattle.fund_plan.specs.Steps.{steps_of}
use Rattle.fund_steps.specs.Plan.{IsPlan, PlainPlan}
use Rattle.kept_job.specs.Refused.{IsNotResumed, IsOfJob}
use Rattle.kept_job.specs.Resuming.{HasResumed}
use Rattle.kept_job.specs.declared.fault.KeptFault.{KeptFault}
use Rattle.kept_job.specs.declared.fault.KeptFault.TheVariants as faults
use Rattle.request_text.specs.PlainRequest.{PlainRequest}
use Rattle.search_run.specs.Step.{AreSteps}
use Rattle.command_end.specs.Names.{Sources}
use Rattle.command_inputs.proofs.PlanLaws.{stops_on}
use Rattle.command_inputs.specs.Digest.{digest_in}
use Rattle.command_inputs.specs.Outcome.{plan_of}
use Rattle.command_inputs.specs.Inputs.{AreAsked}
use Rattle.command_inputs.specs.Names.{Payment}
use Rattle.command_inputs.specs.PlanEnds.{StopsPlan}
use Rattle.command_inputs.specs.Stops as fund_stops
use Rattle.command_inputs.specs.declared.refusal.Stop as funds
use Rattle.command_resume.proofs.LeavingLaws.{ended_on, untold}
use Rattle.command_resume.specs.Outcome.{AreReady, IsNotKept}
use Rattle.command_resume.specs.Endings.{IsEnded}
use Rattle.command_resume.specs.Ready.{HasEnded, IsPlanned, IsReady}
use Rattle.command_resume.specs.Runs.{IsConcluded, IsRunOn, Run}
use Rattle.command_resume.specs.Stops.{StopsKept}
use Rattle.command_inputs.specs.declared.funding.Ending.{Ending}
use Rattle.command_resume.specs.declared.resuming.LoadedJob.{LoadedJob}
use Rattle.command_resume.specs.declared.resuming.Ready.{Ready}

module _ (told_files : Type 0) (s : Sources) (p : Payment) (k : Chain) (r : PlainRequest) (old : ShelfView) (asked : AreAsked told_files old.files s p k r) where
  -- ---- why it stops

  pub plan_stopped : (new : ShelfView) (stop : funds.Stop) → StopsPlan k r stop → fund_stops.StopsFor told_files s p old new stop
  plan_stopped new stop is = stops_on told_files s p k.wallet asked.held.blocks r old new stop asked.inputs (subst (λ (x : Chain). StopsPlan x r stop) asked.held.is is)

  -- ---- the job

  module _ (told_jobs : Type 0) (job : List ℕ) (keeper keeper' : KeeperView) (plan : PlainPlan) (is : plan ≡ plan_of k r) (rules : IsPlan plan) (are : AreSteps (steps_of plan)) (digest : List ℕ) (named : told_files → digest ≡ digest_in old.files s p) (n : ℕ) (tries : n ≡ r.tries) where
    own : plan ≡ plan_of (chain_from k.wallet asked.held.blocks) r
    own = is ∙ ap (λ (x : Chain). plan_of x r) asked.held.is

    ready : told_files → AreReady old.files s p
    ready t = record { wallet = k.wallet; blocks = asked.held.blocks; asked = r; inputs = asked.inputs t; plan = subst IsPlan own rules }

    not_kept : (fault : KeptFault) → IsOfJob fault → IsNotResumed plan digest (keeper.jobs job) n fault → told_files → IsNotKept old.files s p (keeper.jobs job) fault
    not_kept fault of_job h t = record {
      wallet = k.wallet;
      blocks = asked.held.blocks;
      asked = r;
      inputs = asked.inputs t;
      plan = subst IsPlan own rules;
      steps = subst (λ (x : PlainPlan). AreSteps (steps_of x)) own are;
      own = of_job;
      fault_is =
          subst (λ (d : List ℕ). IsNotResumed (plan_of (chain_from k.wallet asked.held.blocks) r) d (keeper.jobs job) r.tries fault) (named t)
          (subst (λ (m : ℕ). IsNotResumed (plan_of (chain_from k.wallet asked.held.blocks) r) digest (keeper.jobs job) m fault) tries
          (subst (λ (x : PlainPlan). IsNotResumed x digest (keeper.jobs job) n fault) own h));
    }

    pub kept_stopped : (fault : KeptFault) → (fault ≡ faults.Failed → Rose keeper.faults keeper'.faults) → (told_jobs → IsNotResumed plan digest (keeper.jobs job) n fault) → StopsKept told_files told_jobs s p job old keeper keeper' fault
    kept_stopped faults.Failed rose h = (rose refl, ready)
    kept_stopped faults.Memory rose h = tt
    kept_stopped faults.NoJob rose h = (λ t u. not_kept faults.NoJob tt (h u) t, ready)
    kept_stopped (faults.Form place) rose h = (λ t u. not_kept (faults.Form place) tt (h u) t, ready)
    kept_stopped (faults.JobElse a b) rose h = (λ t u. not_kept (faults.JobElse a b) tt (h u) t, ready)
    kept_stopped faults.Spent rose h = (λ t u. not_kept faults.Spent tt (h u) t, ready)
    kept_stopped (faults.Part number) rose h = (λ t u. not_kept (faults.Part number) tt (h u) t, ready)
    kept_stopped faults.LongLog rose h = (λ t u. not_kept faults.LongLog tt (h u) t, ready)
    kept_stopped (faults.Parts a b) rose h = (λ t u. not_kept (faults.Parts a b) tt (h u) t, ready)
    kept_stopped (faults.Section i) rose h = (λ t u. not_kept (faults.Section i) tt (h u) t, ready)
    kept_stopped faults.IllFormed rose h = (λ t u. not_kept faults.IllFormed tt (h u) t, ready)
    kept_stopped (faults.Log i f) rose h = (λ t u. not_kept (faults.Log i f) tt (h u) t, ready)

    -- ---- a plan that went on

    module _ (run : Run) (same : run.digest ≡ digest) (went : HasResumed told_jobs plan digest (keeper.jobs job) n run.plan run.resumed) (pays : ArePayments plan run.resumed.outcome) where
      there : HasResumed told_jobs (plan_of k r) run.digest (keeper.jobs job) r.tries run.plan run.resumed
      there =
          subst (λ (d : List ℕ). HasResumed told_jobs (plan_of k r) d (keeper.jobs job) r.tries run.plan run.resumed) (sym same)
          (subst (λ (m : ℕ). HasResumed told_jobs (plan_of k r) digest (keeper.jobs job) m run.plan run.resumed) tries
          (subst (λ (x : PlainPlan). HasResumed told_jobs x digest (keeper.jobs job) n run.plan run.resumed) is went))

      pub run_ends : (e : Ending LoadedJob) → IsConcluded k r run e → IsEnded told_files told_jobs old.files s p (keeper.jobs job) e
      run_ends e c =
          ended_on told_files told_jobs old.files s p (keeper.jobs job) k.wallet asked.held.blocks r run asked.inputs (subst IsPlan own rules) (subst (λ (x : PlainPlan). AreSteps (steps_of x)) own are)
          (λ t. same ∙ named t) (subst (λ (x : Chain). HasResumed told_jobs (plan_of x r) run.digest (keeper.jobs job) r.tries run.plan run.resumed) asked.held.is there)
          (subst (λ (x : PlainPlan). ArePayments x run.resumed.outcome) own pays) e (subst (λ (x : Chain). IsConcluded x r run e) asked.held.is c)

-- ---- the fault of a run

-- the job is refused with the request's tries
pub refused_on : (told : Type 0) (p : PlainPlan) (now : List ℕ) (o : Option KeptJob) (n m : ℕ) (fault : KeptFault) → n ≡ m → (told → IsNotResumed p now o n fault) → told → IsNotResumed p now o m fault
refused_on told p now o n m fault is h t = subst (λ (k : ℕ). IsNotResumed p now o k fault) is (h t)

-- ---- the same of what is read

module _ (told_jobs : Type 0) (x : Ready) (h : IsPlanned x) (o : Option KeptJob) (n : ℕ) (tries : n ≡ x.request.tries) (run : Run) (same : run.digest ≡ x.digest)
    (went : HasResumed told_jobs x.plan.plan x.digest o n run.plan run.resumed) (pays : ArePayments x.plan.plan run.resumed.outcome) where
  asked_for : HasResumed told_jobs x.plan.plan x.digest o x.request.tries run.plan run.resumed
  asked_for = subst (λ (m : ℕ). HasResumed told_jobs x.plan.plan x.digest o m run.plan run.resumed) tries went

  pub run_on : HasSelection x.plan.plan.request run.resumed.outcome → IsRunOn x.held x.request run
  run_on fits = record {
    rules = subst IsPlan h.is h.rules;
    steps = subst (λ (p : PlainPlan). AreSteps (steps_of p)) h.is h.steps;
    job = o;
    resumed =
        untold told_jobs x.held x.request run.digest o run.plan run.resumed
        (subst (λ (d : List ℕ). HasResumed told_jobs (plan_of x.held x.request) d o x.request.tries run.plan run.resumed) (sym same)
        (subst (λ (p : PlainPlan). HasResumed told_jobs p x.digest o x.request.tries run.plan run.resumed) h.is asked_for));
    pays = subst (λ (p : PlainPlan). ArePayments p run.resumed.outcome) h.is pays;
    fits = subst (λ (p : PlainPlan). HasSelection p.request run.resumed.outcome) h.is fits;
  }

  pub has_ended : (e : Ending LoadedJob) → IsConcluded x.held x.request run e → HasEnded told_jobs x o e
  has_ended e c = record { run = run; same = same; resumed = asked_for; pays = pays; ends = c }

module _ (told_files : Type 0) (s : Sources) (p : Payment) (old : ShelfView) (x : Ready) (h : IsReady told_files old.files s p x) (told_jobs : Type 0) (job : List ℕ) (keeper keeper' : KeeperView) where
  pub stopped_on : (fault : KeptFault) → (fault ≡ faults.Failed → Rose keeper.faults keeper'.faults) → (told_jobs → IsNotResumed x.plan.plan x.digest (keeper.jobs job) x.request.tries fault) → StopsKept told_files told_jobs s p job old keeper keeper' fault
  stopped_on = kept_stopped told_files s p x.held x.request old h.asked told_jobs job keeper keeper' x.plan.plan h.planned.is h.planned.rules h.planned.steps x.digest h.named x.request.tries refl

  pub is_ended : (e : Ending LoadedJob) → HasEnded told_jobs x (keeper.jobs job) e → IsEnded told_files told_jobs old.files s p (keeper.jobs job) e
  is_ended e g = run_ends told_files s p x.held x.request old h.asked told_jobs job keeper keeper' x.plan.plan h.planned.is h.planned.rules h.planned.steps x.digest h.named x.request.tries refl g.run g.same g.resumed g.pays e g.ends
