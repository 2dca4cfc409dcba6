-- How a request ends whose plan went on from a job.
use Rattle.std.proofs.Common.{◌≡◌, ◌∙◌, ℕ, ◌≤◌, ◌+◌, List, ◌∷◌, Option, None, sym, ap, subst, arith, All}
use Rattle.block_feed.specs.Block.{ChainBlock}
use Rattle.closing_log.specs.declared.log.Stage.{Stage}
use Rattle.coin_book.specs.Faults.{fault_of as book_fault}
use Rattle.closing_log.specs.declared.log.Stage.TheVariants.{Presets, Changeless, LeanBig, Draw, LeanSmall, Wide}
use Rattle.fund_outside.specs.Kept.{KeptJob}
use Rattle.fund_plan.specs.Answer.{ArePayments, HasSelection, IsPayment, IsSelection}
use Rattle.fund_plan.specs.Selection.{PlainFunded}
use Rattle.fund_plan.specs.State.{PlanState}
use Rattle.fund_plan.specs.Steps.{steps_of}
use Rattle.fund_plan.specs.declared.outcome.Outcome.{Outcome as Answer}
use Rattle.fund_plan.specs.declared.outcome.Outcome.TheVariants as answers
use Rattle.fund_report.specs.ReportText.{IsRead}
use Rattle.fund_steps.specs.Plan.{IsPlan}
use Rattle.payment_states.specs.Makers.{HasMaker}
use Rattle.pick_problem.specs.Problem.{PlainProblem}
use Rattle.request_text.specs.PlainRequest.{PlainRequest}
use Rattle.search_run.specs.Step.{AreSteps, FitsStage, IsStep, PlainStep}
use Rattle.wallet_text.specs.PlainWallet.{PlainWallet}
use Rattle.fund_files.specs.Chain.{IsChain, chain_from}
use Rattle.fund_files.specs.declared.chain.Chain.{Chain}
use Rattle.kept_job.proofs.KeepingLaws.{can_keep_on, step_on}
use Rattle.kept_job.proofs.ResumedLaws.{claims_open}
use Rattle.kept_job.specs.Continued.{HasContinued, IsSettled, IsUsedUpOn}
use Rattle.kept_job.specs.Resuming.{HasResumed}
use Rattle.kept_job.specs.Saving.{PlainBehind}
use Rattle.kept_job.specs.SavingRules.{CanBeKept}
use Rattle.kept_job.specs.declared.resuming.Resumed.{Resumed}
use Rattle.command_end.specs.Names.{Sources}
use Rattle.command_inputs.specs.Digest.{digest_in}
use Rattle.command_inputs.specs.Outcome.{bump_fault_in, open_report, plan_of}
use Rattle.command_inputs.specs.Inputs.{AreInputs}
use Rattle.command_inputs.specs.Names.{Payment}
use Rattle.command_inputs.specs.PlanEnds.{CanEnd, IsEndOf, IsOpenAt, IsOpenReport}
use Rattle.command_inputs.specs.Packages.{PaysForPackages}
use Rattle.command_inputs.specs.Replacing.{ReplacesIf}
use Rattle.command_inputs.proofs.PackageLaws.{pays_for_packages}
use Rattle.command_inputs.proofs.ReplaceLaws.{replaces_named}
use Rattle.command_inputs.proofs.TermsLaws.{spent_made}
use Rattle.command_resume.specs.Endings.{CanBeLeft, IsEnded}
use Rattle.command_resume.specs.Resumed.{HasGone}
use Rattle.command_resume.specs.Runs.{IsConcluded, IsRunOn, IsStillOpen, Run}
use Rattle.command_inputs.specs.declared.funding.Ending.{Ending}
use Rattle.command_resume.specs.declared.resuming.LoadedJob.{LoadedJob}
use Rattle.command_inputs.specs.declared.funding.Ending.TheVariants as endings
use Rattle.command_inputs.specs.declared.funding.Left.{Left}
use Rattle.command_resume.proofs.EndingLaws.{open_on, paid_on, unpaid_on}

-- ---- the plan

read_stage : (s : Stage) (q : PlainProblem) → FitsStage s q → IsRead s
read_stage Presets q h = absurd h
read_stage Changeless q h = tt
read_stage LeanBig q h = tt
read_stage Draw q h = tt
read_stage LeanSmall q h = tt
read_stage Wide q h = absurd h

open_left : (left : List PlainStep) (x : PlainStep) (rest : List PlainStep) → left ≡ x ∷ rest → IsRead x.stage → IsOpenAt left
open_left left x rest e h = subst IsOpenAt (sym e) h

-- it went on, and came to this
abbrev gone_as : (told_jobs : Type 0) (k : Chain) (r : PlainRequest) (now : List ℕ) (o : Option KeptJob) (st : PlanState) (a b : Answer) → a ≡ b → HasContinued told_jobs (plan_of k r) now o r.tries st a → HasContinued told_jobs (plan_of k r) now o r.tries st b
gone_as told_jobs k r now o st a b e g = record {
  saved = g.saved;
  log = g.log;
  bytes = g.bytes;
  loaded = g.loaded;
  can = g.can;
  stands = g.stands;
  comes_to = sym e ∙ g.comes_to;
  accepted = λ settled. g.accepted (subst IsSettled (sym e) settled);
}

-- one that is unfinished stands at a search that a report can name
pub is_open_on : (k : Chain) (r : PlainRequest) (run : Run) → IsRunOn k r run → run.resumed.outcome ≡ answers.Unfinished → IsOpenAt run.plan.stand.left
is_open_on k r run h is =
    let g = gone_as ⊥ k r run.digest h.job run.plan run.resumed.outcome answers.Unfinished is h.resumed.gone in
    let u : IsUsedUpOn (plan_of k r) g.saved.tries r.tries run.plan = claims_open ⊥ (plan_of k r) run.digest h.job r.tries run.plan g in
    let x = u.used_up.step in
    let step : IsStep x = step_on ⊥ (plan_of k r) run.digest h.job r.tries run.plan h.steps answers.Unfinished g x u.used_up.rest u.used_up.left in
    open_left run.plan.stand.left x u.used_up.rest u.used_up.left (read_stage x.stage x.problem step.stage)

pub fits_on : (k : Chain) (r : PlainRequest) (run : Run) (f : PlainFunded) → IsRunOn k r run → run.resumed.outcome ≡ answers.Funded f → IsSelection r f
fits_on k r run f h is = subst (HasSelection r) is h.fits

pub pays_on : (k : Chain) (r : PlainRequest) (run : Run) (f : PlainFunded) → IsRunOn k r run → run.resumed.outcome ≡ answers.Funded f → IsPayment (plan_of k r) f
pays_on k r run f h is = subst (ArePayments (plan_of k r)) is h.pays

-- the book has the transactions that made the coins of a payment
pub coins_on : (k : Chain) (r : PlainRequest) (run : Run) (f : PlainFunded) → IsChain k → book_fault k.book ≡ None → IsRunOn k r run → run.resumed.outcome ≡ answers.Funded f → All (HasMaker k.book) f.coins
coins_on k r run f held sound h is = spent_made k r held sound f.coins (pays_on k r run f h is).candidates

-- where the request names a payment, it replaces that
pub replaces_on : (k : Chain) (r : PlainRequest) (run : Run) (f : PlainFunded) → IsChain k → book_fault k.book ≡ None → bump_fault_in k r ≡ None → IsRunOn k r run → run.resumed.outcome ≡ answers.Funded f → ReplacesIf k.wallet k.book r f
replaces_on k r run f held sound clear h is = replaces_named k r f held sound clear h.rules (pays_on k r run f h is)

-- it pays for the Pending payments that its coins rest on
packages_on : (k : Chain) (r : PlainRequest) (run : Run) (f : PlainFunded) → IsChain k → IsRunOn k r run → run.resumed.outcome ≡ answers.Funded f → PaysForPackages k.wallet k.book r f
packages_on k r run f held h is = pays_for_packages k r f held.rules (pays_on k r run f h is)

-- what is said of a run whatever is told of the jobs
pub untold : (told_jobs : Type 0) (k : Chain) (r : PlainRequest) (now : List ℕ) (o : Option KeptJob) (st : PlanState) (x : Resumed) → HasResumed told_jobs (plan_of k r) now o r.tries st x → HasResumed ⊥ (plan_of k r) now o r.tries st x
untold told_jobs k r now o st x h = record {
  gone = record {
    saved = h.gone.saved;
    log = h.gone.log;
    bytes = h.gone.bytes;
    loaded = λ b. absurd b;
    can = h.gone.can;
    stands = h.gone.stands;
    comes_to = h.gone.comes_to;
    accepted = h.gone.accepted;
  };
  can = h.can;
  parts_are = h.parts_are;
  bytes_are = h.bytes_are;
  read = h.read;
}

-- ---- what is left of it

-- it can be kept behind the parts that were loaded
can_leave : (k : Chain) (r : PlainRequest) (run : Run) (l : Left LoadedJob) → IsRunOn k r run → run.resumed.outcome ≡ answers.Unfinished → l.plan ≡ run.plan → l.job.behind ≡ run.resumed.behind → CanBeLeft l
can_leave k r run l h is plan behind =
    let g = gone_as ⊥ k r run.digest h.job run.plan run.resumed.outcome answers.Unfinished is h.resumed.gone in
    let count : l.job.behind.parts ≡ h.resumed.gone.saved.parts = ap (λ (b : PlainBehind). b.parts) behind ∙ h.resumed.parts_are in
    let some : 1 ≤ r.tries = h.rules.request.tries.0 in
    let most = h.resumed.can.parts in
    let due = h.resumed.gone.can.due.tries in
    record {
      few = omega (arith, count, most, due);
      can =
          subst (λ (x : PlanState). CanBeKept x (l.job.behind.parts + 1)) (sym plan)
          (subst (λ (n : ℕ). CanBeKept run.plan (n + 1)) (sym count)
          (can_keep_on ⊥ (plan_of k r) run.digest h.job r.tries run.plan h.steps g some h.resumed.can));
    }

pub left_concluded : (k : Chain) (r : PlainRequest) (run : Run) (l : Left LoadedJob) → IsRunOn k r run → run.resumed.outcome ≡ answers.Unfinished → l.report.items ≡ open_report run.plan.stand.past.tries run.plan.stand.left → IsOpenReport l.report.items run.plan.stand.past.tries run.plan.stand.left
    → l.plan ≡ run.plan → l.job.digest ≡ run.digest → l.job.behind ≡ run.resumed.behind → IsStillOpen run l
left_concluded k r run l h is report told plan digest behind = record {
  is = is;
  reports = report;
  told = told;
  plan_is = plan;
  digest_is = digest;
  behind_is = behind;
  can = can_leave k r run l h is plan behind;
}

-- it can end
pub can_end : (k : Chain) (r : PlainRequest) (run : Run) → IsChain k → book_fault k.book ≡ None → IsRunOn k r run → CanEnd k r run.plan run.resumed.outcome
can_end k r run held sound h = record {
  goes_on = is_open_on k r run h;
  selects = λ f is. fits_on k r run f h is;
  makers = λ f is. coins_on k r run f held sound h is;
}

-- how it ends, by what is known of its job
pub concluded_on : (k : Chain) (r : PlainRequest) (run : Run) (job : LoadedJob) (e : Ending LoadedJob) → job.digest ≡ run.digest → job.behind ≡ run.resumed.behind → IsChain k → book_fault k.book ≡ None → bump_fault_in k r ≡ None → IsRunOn k r run
    → IsEndOf k r run.plan run.resumed.outcome job e → IsConcluded k r run e
concluded_on k r run job (endings.Unfinished left) digest behind held sound clear h x =
    left_concluded k r run left h x.0 x.1.reports x.1.told x.1.plan_is (ap (λ (j : LoadedJob). j.digest) x.1.job_is ∙ digest) (ap (λ (j : LoadedJob). j.behind) x.1.job_is ∙ behind)
concluded_on k r run job (endings.NoSelection texts) digest behind held sound clear h x = record { is = x.0; reports = x.1.reports; told = x.1.told; logs = x.1.logs }
concluded_on k r run job (endings.Funded texts) digest behind held sound clear h x = record {
  funded = x.0;
  is = x.1;
  psbt = x.2.psbt;
  shows = x.2.shows;
  replaces = replaces_on k r run x.0 held sound clear h x.1;
  packages = packages_on k r run x.0 held h x.1;
  reports = x.2.reports;
  logs = x.2.logs;
}

-- ---- how the request of the files ends

module _ (told_files told_jobs : Type 0) (files : List ℕ → List ℕ) (s : Sources) (p : Payment) (o : Option KeptJob) (w : PlainWallet) (blocks : List ChainBlock) (r : PlainRequest) (run : Run)
    (inputs : told_files → AreInputs files s p w blocks r) (rules : IsPlan (plan_of (chain_from w blocks) r)) (are : AreSteps (steps_of (plan_of (chain_from w blocks) r))) (named : told_files → run.digest ≡ digest_in files s p)
    (resumed : HasResumed told_jobs (plan_of (chain_from w blocks) r) run.digest o r.tries run.plan run.resumed) (pays : ArePayments (plan_of (chain_from w blocks) r) run.resumed.outcome) where
  abbrev went : (a : Answer) → run.resumed.outcome ≡ a → HasGone told_files told_jobs files s p o (chain_from w blocks) r run.plan a
  went a is = record { rules = rules; steps = are; digest = run.digest; named = named; gone = gone_as told_jobs (chain_from w blocks) r run.digest o run.plan run.resumed.outcome a is resumed.gone }

  pub ended_on : (e : Ending LoadedJob) → IsConcluded (chain_from w blocks) r run e → IsEnded told_files told_jobs files s p o e
  ended_on (endings.Unfinished l) c = record {
    unfinished = open_on told_files told_jobs files s p o w blocks r run.plan inputs l.report.items (went answers.Unfinished c.is) c.reports c.told;
    plan_is = c.plan_is;
    digest_is = c.digest_is;
    parts_are = ap (λ (b : PlainBehind). b.parts) c.behind_is ∙ resumed.parts_are;
    bytes_are = ap (λ (b : PlainBehind). b.bytes) c.behind_is ∙ resumed.bytes_are;
    can = c.can;
  }
  ended_on (endings.NoSelection texts) c =
      unpaid_on told_files told_jobs files s p o w blocks r run.plan inputs texts.report.items texts.log.items resumed.read.0 (went answers.NoSelection c.is) resumed.read.1 c.reports c.told c.logs
  ended_on (endings.Funded texts) c =
      paid_on told_files told_jobs files s p o w blocks r run.plan inputs c.funded texts.report.items texts.log.items resumed.read.0 (went (answers.Funded c.funded) c.is) resumed.read.1 (subst (ArePayments (plan_of (chain_from w blocks) r)) c.is pays)
      c.psbt c.shows c.replaces c.packages c.reports c.logs
