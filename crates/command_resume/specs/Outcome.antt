-- What the files and the jobs of a keeper come to.
use Rattle.std.specs.Prelude.{ℕ, ◌≡◌, List, Option}
use Rattle.block_feed.specs.Block.{ChainBlock}
use Rattle.closing_log.specs.LogText as logs
use Rattle.fund_outside.specs.Kept.{KeptJob}
use Rattle.fund_plan.specs.Resumed.{log_in}
use Rattle.fund_plan.specs.State.{PlanState}
use Rattle.fund_plan.specs.declared.outcome.Outcome.{Outcome as Answer}
use Rattle.fund_plan.specs.declared.outcome.Outcome.TheVariants as answers
use Rattle.fund_plan.specs.Steps.{steps_of}
use Rattle.fund_steps.specs.Plan.{IsPlan}
use Rattle.request_text.specs.PlainRequest.{PlainRequest}
use Rattle.search_run.specs.Step.{AreSteps}
use Rattle.wallet_text.specs.PlainWallet.{PlainWallet}
use Rattle.fund_files.specs.Chain.{chain_from}
use Rattle.fund_files.specs.declared.chain.Chain.{Chain}
use Rattle.fund_payment.specs.Report.{report_of}
use Rattle.kept_job.specs.Continued.{HasContinued}
use Rattle.kept_job.specs.Refused.{IsNotResumed, IsOfJob}
use Rattle.kept_job.specs.declared.fault.KeptFault.{KeptFault}
use Rattle.command_end.specs.Names.{Sources}
use Rattle.command_end.specs.declared.status.Status.{Status}
use Rattle.command_inputs.specs.Cause.{Cause, status_of_cause}
use Rattle.command_inputs.specs.Digest.{digest_in}
use Rattle.command_inputs.specs.Outcome.{Funded, NoSelection, Unfinished, none_report, open_report, plan_of}
use Rattle.command_inputs.specs.Outcome as payments
use Rattle.command_inputs.specs.Inputs.{AreInputs}
use Rattle.command_inputs.specs.Meant.{AreRefusedFor}
use Rattle.command_inputs.specs.Names.{Payment}
use Rattle.command_inputs.specs.Results as payment_ends
use Rattle.command_resume.specs.Words.{kept_status}

-- a cause for which the files are refused; a fault for which the job is; or what a plan comes to that goes on from it
pub data Outcome : Type 0 where
  Refused : Cause → Outcome
  NotKept : KeptFault → Outcome
  Gone : payments.Outcome → Outcome

-- what a plan comes to where it stands
abbrev pub by_answer_on : Chain → PlainRequest → PlanState → Answer → payments.Outcome
by_answer_on k r s answers.Unfinished = Unfinished (open_report s.stand.past.tries s.stand.left)
by_answer_on k r s answers.NoSelection = NoSelection (none_report s.stand.past.tries) (logs.text_of (log_in s))
by_answer_on k r s (answers.Funded f) = Funded (report_of k.book r k.wallet.change s.stand.past.tries f) (logs.text_of (log_in s))

-- the files are in order: they hold a wallet, blocks and a request that is taken, whose plan keeps its rules
pub record AreReady (files : List ℕ → List ℕ) (s : Sources) (p : Payment) : Type 0 where
  pub wallet : PlainWallet
  pub blocks : List ChainBlock
  pub asked : PlainRequest
  pub inputs : AreInputs files s p wallet blocks asked
  pub plan : IsPlan (plan_of (chain_from wallet blocks) asked)

-- the files hold a request whose plan keeps its rules, and the job has this fault for it, which is its own
pub record IsNotKept (files : List ℕ → List ℕ) (s : Sources) (p : Payment) (o : Option KeptJob) (fault : KeptFault) : Type 0 where
  pub wallet : PlainWallet
  pub blocks : List ChainBlock
  pub asked : PlainRequest
  pub inputs : AreInputs files s p wallet blocks asked
  pub plan : IsPlan (plan_of (chain_from wallet blocks) asked)
  pub steps : AreSteps (steps_of (plan_of (chain_from wallet blocks) asked))
  pub own : IsOfJob fault
  pub fault_is : IsNotResumed (plan_of (chain_from wallet blocks) asked) (digest_in files s p) o asked.tries fault

-- they do, and the plan went on from the job and came to this
pub record IsGone (files : List ℕ → List ℕ) (s : Sources) (p : Payment) (o : Option KeptJob) (due : payments.Outcome) : Type 0 where
  pub wallet : PlainWallet
  pub blocks : List ChainBlock
  pub asked : PlainRequest
  pub inputs : AreInputs files s p wallet blocks asked
  pub plan : IsPlan (plan_of (chain_from wallet blocks) asked)
  pub steps : AreSteps (steps_of (plan_of (chain_from wallet blocks) asked))
  pub state : PlanState
  pub answer : Answer
  pub gone : HasContinued (Unit {0}) (plan_of (chain_from wallet blocks) asked) (digest_in files s p) o asked.tries state answer
  pub due_is : due ≡ by_answer_on (chain_from wallet blocks) asked state answer

-- The files and the job come to this: the files are taken one by one, the wallet, the blocks, the request and its plan, and
-- then the job.
abbrev pub ComesTo : (List ℕ → List ℕ) → Sources → Payment → Option KeptJob → Outcome → Type 0
ComesTo files s p o (Refused cause) = AreRefusedFor files s p cause
ComesTo files s p o (NotKept fault) = IsNotKept files s p o fault
ComesTo files s p o (Gone due) = IsGone files s p o due

-- the status of that, where nothing fails
abbrev pub status_of : Outcome → Status
status_of (Refused cause) = status_of_cause cause
status_of (NotKept fault) = kept_status fault
status_of (Gone due) = payment_ends.status_of due
