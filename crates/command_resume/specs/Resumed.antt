-- A job that is gone on with, and how it ends. Here is what is said whatever the keeper returned, and what is said of a job
-- that an unfinished run of the same files left.
use Rattle.std.specs.Prelude.{ℕ, ◌≡◌, ◌+◌, true, List, All, Option}
use Rattle.block_feed.specs.Block.{ChainBlock}
use Rattle.closing_log.specs.LogText as logs
use Rattle.closing_log.specs.LogText.{IsLogText}
use Rattle.fund_outside.specs.Kept.{KeeperView, KeptJob, SameForOthers}
use Rattle.fund_plan.specs.Answer.{IsPayment}
use Rattle.fund_plan.specs.Resumed.{log_in}
use Rattle.fund_plan.specs.Selection.{PlainFunded}
use Rattle.fund_plan.specs.State.{PlanState}
use Rattle.fund_plan.specs.Steps.{steps_of}
use Rattle.fund_plan.specs.declared.outcome.Outcome.{Outcome as Answer}
use Rattle.fund_plan.specs.declared.outcome.Outcome.TheVariants as answers
use Rattle.fund_report.specs.ReportText.{IsReportText}
use Rattle.fund_report.specs.declared.report.Report.TheVariants as kinds
use Rattle.fund_steps.specs.Listed.{MaySpend}
use Rattle.fund_steps.specs.Plan.{IsPlan}
use Rattle.psbt_codec.specs.Psbt.{IsPsbt}
use Rattle.request_text.specs.PlainRequest.{PlainRequest}
use Rattle.search_run.specs.Step.{AreSteps}
use Rattle.wallet_text.specs.PlainWallet.{PlainWallet}
use Rattle.fund_files.specs.Chain.{chain_from, history_of}
use Rattle.fund_files.specs.declared.chain.Chain.{Chain}
use Rattle.fund_payment.specs.Report.{psbt_of, report_of}
use Rattle.fund_payment.specs.Shown.{ShowsCoins}
use Rattle.kept_job.specs.Continued.{ClaimsNoneOn, ClaimsOn, HasContinued, IsUsedUpOn}
use Rattle.kept_job.specs.Kept.{IsKeptAt, IsLonger}
use Rattle.kept_job.specs.Saving.{IsSavedBehind}
use Rattle.command_end.specs.Names.{Sources}
use Rattle.command_inputs.specs.Digest.{digest_in}
use Rattle.command_inputs.specs.Outcome.{Funded, NoSelection, Unfinished, none_report, open_text, plan_of, planned_after}
use Rattle.command_inputs.specs.Outcome as payments
use Rattle.command_inputs.specs.Inputs.{AreInputs}
use Rattle.command_inputs.specs.Names.{Payment}
use Rattle.command_inputs.specs.Packages.{PaysForPackages}
use Rattle.command_inputs.specs.Replacing.{ReplacesIf}

-- ---- what is gone on with

-- The plan of a chain and a request went on with the request's tries from what a keeper has of the job, and came to this. The
-- job is that of the files, where they are told. Exhausted, drawn and none were said after the whole log was accepted. The
-- searches and draws of the plan keep their rules.
pub record HasGone (told_files told_jobs : Type 0) (files : List ℕ → List ℕ) (s : Sources) (p : Payment) (o : Option KeptJob) (k : Chain) (r : PlainRequest) (st : PlanState) (a : Answer) : Type 0 where
  pub rules : IsPlan (plan_of k r)
  pub steps : AreSteps (steps_of (plan_of k r))
  pub digest : List ℕ
  pub named : told_files → digest ≡ digest_in files s p
  pub gone : HasContinued told_jobs (plan_of k r) digest o r.tries st a

-- Where the job was left by an unfinished run of these files after n tries, whichever runs made them, these files come to this
-- with n tries and the request's together, without a stop: to this report, byte for byte, and to this log.
abbrev pub IsUninterrupted : Type 0 → Type 0 → (List ℕ → List ℕ) → Sources → Payment → Option KeptJob → Chain → PlainRequest → payments.Outcome → Type 0
IsUninterrupted told_files told_jobs files s p o k r due =
    told_files → told_jobs → (n : ℕ) → IsKeptAt (plan_of k r) (digest_in files s p) n o → planned_after k r (n + r.tries) ≡ due

-- ---- how it ends

-- A wallet, blocks and a request with a payment, to which a run came that went on from the job. As for a payment without a
-- stop: its coins are eligible or those of a payment that is replaced, which is done by the rules of BIP 125. The transaction
-- pays each recipient and at least the fee, with the Pending payments that its coins rest on too, and a signer is shown its
-- coins. What its mark claims is so, whatever the keeper returned. The log is the whole log of the job; its bytes are a text of
-- it, which says that it is ended.
pub record IsFunded (told_files told_jobs : Type 0) (files : List ℕ → List ℕ) (s : Sources) (p : Payment) (o : Option KeptJob) (report log : List ℕ) : Type 0 where
  pub wallet : PlainWallet
  pub blocks : List ChainBlock
  pub asked : PlainRequest
  pub inputs : told_files → AreInputs files s p wallet blocks asked
  pub funded : PlainFunded
  pub state : PlanState
  pub gone : HasGone told_files told_jobs files s p o (chain_from wallet blocks) asked state (answers.Funded funded)
  pub pays : IsPayment (plan_of (chain_from wallet blocks) asked) funded
  pub eligible : All (MaySpend (plan_of (chain_from wallet blocks) asked)) funded.coins
  pub replaces : ReplacesIf wallet (history_of wallet blocks) asked funded
  pub packages : PaysForPackages wallet (history_of wallet blocks) asked funded
  pub claims : ClaimsOn (plan_of (chain_from wallet blocks) asked) gone.gone.saved.tries asked.tries state funded
  pub psbt : IsPsbt (psbt_of (history_of wallet blocks) asked wallet.change funded)
  pub shows : ShowsCoins funded.coins (psbt_of (history_of wallet blocks) asked wallet.change funded)
  pub reports : report ≡ report_of (history_of wallet blocks) asked wallet.change state.stand.past.tries funded
  pub logs : log ≡ logs.text_of (log_in state)
  pub reads : IsLogText log (log_in state)
  pub ended : (log_in state).ended ≡ true
  pub uninterrupted : IsUninterrupted told_files told_jobs files s p o (chain_from wallet blocks) asked (Funded report log)

-- A wallet, blocks and a request for which there is no selection, which the whole log of the job proves. The log's bytes are a
-- text of it, which says that it is ended.
pub record IsNotFunded (told_files told_jobs : Type 0) (files : List ℕ → List ℕ) (s : Sources) (p : Payment) (o : Option KeptJob) (report log : List ℕ) : Type 0 where
  pub wallet : PlainWallet
  pub blocks : List ChainBlock
  pub asked : PlainRequest
  pub inputs : told_files → AreInputs files s p wallet blocks asked
  pub state : PlanState
  pub gone : HasGone told_files told_jobs files s p o (chain_from wallet blocks) asked state answers.NoSelection
  pub none : ClaimsNoneOn (plan_of (chain_from wallet blocks) asked) state
  pub reports : report ≡ none_report state.stand.past.tries
  pub told : IsReportText report (kinds.NoSelection state.stand.past.tries)
  pub logs : log ≡ logs.text_of (log_in state)
  pub reads : IsLogText log (log_in state)
  pub ended : (log_in state).ended ≡ true
  pub uninterrupted : IsUninterrupted told_files told_jobs files s p o (chain_from wallet blocks) asked (NoSelection report log)

-- A wallet, blocks and a request whose tries are used up while a search is open: the least of the request's tries and of those
-- that the job had left were made, and the next step is a try.
pub record IsUnfinished (told_files told_jobs : Type 0) (files : List ℕ → List ℕ) (s : Sources) (p : Payment) (o : Option KeptJob) (report : List ℕ) : Type 0 where
  pub wallet : PlainWallet
  pub blocks : List ChainBlock
  pub asked : PlainRequest
  pub inputs : told_files → AreInputs files s p wallet blocks asked
  pub state : PlanState
  pub gone : HasGone told_files told_jobs files s p o (chain_from wallet blocks) asked state answers.Unfinished
  pub used_up : IsUsedUpOn (plan_of (chain_from wallet blocks) asked) gone.gone.saved.tries asked.tries state
  pub reports : report ≡ open_text state.stand.past.tries used_up.used_up.step
  pub told : IsReportText report (kinds.Unfinished state.stand.past.tries used_up.used_up.step.row used_up.used_up.step.stage)
  pub uninterrupted : IsUninterrupted told_files told_jobs files s p o (chain_from wallet blocks) asked (Unfinished report)

-- ---- what is kept then

-- Of the jobs this one goes on, whatever was kept: it is saved as the plan stands, the parts that were counted are as they
-- were, and one stands behind them. Where it was left by an unfinished run of these files after n tries, it is now left after n
-- tries and the request's together. Other jobs are as before.
pub record IsLeftOn (told_files told_jobs : Type 0) (files : List ℕ → List ℕ) (s : Sources) (p : Payment) (job : List ℕ) (report : List ℕ) (keeper keeper' : KeeperView) (u : IsUnfinished told_files told_jobs files s p (keeper.jobs job) report) : Type 0 where
  pub others : SameForOthers job keeper.jobs keeper'.jobs
  pub saved : IsSavedBehind u.gone.digest u.state u.gone.gone.saved.parts u.gone.gone.bytes (keeper.jobs job) (keeper'.jobs job)
  pub longer : IsLonger u.gone.gone.saved.parts (keeper.jobs job) (keeper'.jobs job)
  pub kept : told_files → (n : ℕ) → IsKeptAt (plan_of (chain_from u.wallet u.blocks) u.asked) (digest_in files s p) n (keeper.jobs job)
      → IsKeptAt (plan_of (chain_from u.wallet u.blocks) u.asked) (digest_in files s p) (n + u.asked.tries) (keeper'.jobs job)
