-- What a payment comes to and how it ends, as far as several commands say it.
use Rattle.std.specs.Prelude.{ℕ, ◌≡◌, true, List, ◌++◌, All, codes, Option, Some, None}
use Rattle.fund_shelf.specs.Causes.{ShelfView, SinkView, Rose}
use Rattle.block_feed.specs.Block.{ChainBlock}
use Rattle.closing_log.specs.LogText.{IsLogText}
use Rattle.fund_plan.specs.Answer.{IsPayment}
use Rattle.fund_plan.specs.Claims.{Claims, IsProvedNone, IsUsedUp}
use Rattle.fund_plan.specs.Outcome.{log_at, outcome_at, tries_at}
use Rattle.fund_plan.specs.Selection.{PlainFunded}
use Rattle.fund_plan.specs.Steps.{steps_of}
use Rattle.fund_plan.specs.declared.outcome.Outcome.TheVariants as answers
use Rattle.fund_steps.specs.Listed.{MaySpend}
use Rattle.fund_steps.specs.Plan.{IsPlan}
use Rattle.search_run.specs.Step.{AreSteps}
use Rattle.fund_report.specs.ReportText.{IsReportText}
use Rattle.fund_report.specs.declared.report.Report.TheVariants as kinds
use Rattle.psbt_codec.specs.Psbt.{IsPsbt}
use Rattle.request_text.specs.PlainRequest.{PlainRequest}
use Rattle.wallet_text.specs.PlainWallet.{PlainWallet}
use Rattle.fund_files.specs.Chain.{chain_from, history_of}
use Rattle.fund_files.specs.declared.refusal.File.{File}
use Rattle.fund_payment.specs.Report.{psbt_of, report_of}
use Rattle.fund_payment.specs.Shown.{ShowsCoins}
use Rattle.command_end.specs.Lines.{GotLine, fault_line}
use Rattle.command_end.specs.Names.{Sources}
use Rattle.command_end.specs.declared.status.Status.{Status}
use Rattle.command_end.specs.declared.status.Status.TheVariants as statuses
use Rattle.command_inputs.specs.Cause.{cause_of, status_of_cause}
use Rattle.command_inputs.specs.Outcome.{Outcome, Refused, Unfinished, NoSelection, Funded, outcome_of, log_text_at, none_report_at, open_text, plan_of}
use Rattle.command_inputs.specs.Inputs.{AreInputs, IsUnread, Reaches, name_of}
use Rattle.command_inputs.specs.Meant.{AreRefusedFor}
use Rattle.command_inputs.specs.Names.{Payment}
use Rattle.command_inputs.specs.Packages.{PaysForPackages}
use Rattle.command_inputs.specs.Replacing.{ReplacesIf}
use Rattle.command_inputs.specs.Words.{refusal_words}
use Rattle.command_inputs.specs.declared.refusal.Refusal.{Refusal}

-- the status of what the files come to, where nothing fails
abbrev pub status_of : Outcome → Status
status_of (Refused cause) = status_of_cause cause
status_of (Unfinished report) = statuses.Unfinished
status_of (NoSelection report log) = statuses.NoSelection
status_of (Funded report log) = statuses.Done

-- A wallet, blocks and a request with a payment: its coins are candidates or those of a payment that is replaced, the presets
-- among them, and the others are of groups of the pool of the row that it names; the transaction made of them pays each
-- recipient exactly, and at least the fee, with the Pending payments that its coins rest on too. Where the request names a
-- payment, it replaces that by the rules of BIP 125. What a signer gets is a PSBT (BIP 174, or BIP 370 in version 2) of which
-- each input shows the value and the script of its coin.
-- An exhausted payment is proved to be the best of its row and stage, by the log: without change among the choices in the
-- window of which no group can be left out. The report and the log tell of it; the log's bytes are a text of it, which says that
-- it is ended. The searches and draws of its plan keep their rules. Where the files are told, they hold this wallet, these
-- blocks and this request.
pub record IsFunded (told_files : Type 0) (files : List ℕ → List ℕ) (s : Sources) (p : Payment) (report log : List ℕ) : Type 0 where
  pub wallet : PlainWallet
  pub blocks : List ChainBlock
  pub asked : PlainRequest
  pub funded : PlainFunded
  pub inputs : told_files → AreInputs files s p wallet blocks asked
  pub plan : IsPlan (plan_of (chain_from wallet blocks) asked)
  pub steps : AreSteps (steps_of (plan_of (chain_from wallet blocks) asked))
  pub outcome : outcome_at (plan_of (chain_from wallet blocks) asked) asked.tries ≡ answers.Funded funded
  pub pays : IsPayment (plan_of (chain_from wallet blocks) asked) funded
  pub eligible : All (MaySpend (plan_of (chain_from wallet blocks) asked)) funded.coins
  pub replaces : ReplacesIf wallet (history_of wallet blocks) asked funded
  pub packages : PaysForPackages wallet (history_of wallet blocks) asked funded
  pub claims : Claims (plan_of (chain_from wallet blocks) asked) asked.tries funded
  pub psbt : IsPsbt (psbt_of (history_of wallet blocks) asked wallet.change funded)
  pub shows : ShowsCoins funded.coins (psbt_of (history_of wallet blocks) asked wallet.change funded)
  pub reports : report ≡ report_of (history_of wallet blocks) asked wallet.change (tries_at (plan_of (chain_from wallet blocks) asked) asked.tries) funded
  pub logs : log ≡ log_text_at (plan_of (chain_from wallet blocks) asked) asked.tries
  pub reads : IsLogText log (log_at (plan_of (chain_from wallet blocks) asked) asked.tries)
  pub ended : (log_at (plan_of (chain_from wallet blocks) asked) asked.tries).ended ≡ true
  pub comes_to : told_files → outcome_of files s p ≡ Funded report log

-- A wallet, blocks and a request for which there is no selection, which the log proves. The log's bytes are a text of it,
-- which says that it is ended. Where the files are told, they hold this wallet, these blocks and this request.
pub record IsNotFunded (told_files : Type 0) (files : List ℕ → List ℕ) (s : Sources) (p : Payment) (report log : List ℕ) : Type 0 where
  pub wallet : PlainWallet
  pub blocks : List ChainBlock
  pub asked : PlainRequest
  pub inputs : told_files → AreInputs files s p wallet blocks asked
  pub plan : IsPlan (plan_of (chain_from wallet blocks) asked)
  pub steps : AreSteps (steps_of (plan_of (chain_from wallet blocks) asked))
  pub outcome : outcome_at (plan_of (chain_from wallet blocks) asked) asked.tries ≡ answers.NoSelection
  pub none : IsProvedNone (plan_of (chain_from wallet blocks) asked) (log_at (plan_of (chain_from wallet blocks) asked) asked.tries)
  pub reports : report ≡ none_report_at (plan_of (chain_from wallet blocks) asked) asked.tries
  pub told : IsReportText report (kinds.NoSelection (tries_at (plan_of (chain_from wallet blocks) asked) asked.tries))
  pub logs : log ≡ log_text_at (plan_of (chain_from wallet blocks) asked) asked.tries
  pub reads : IsLogText log (log_at (plan_of (chain_from wallet blocks) asked) asked.tries)
  pub ended : (log_at (plan_of (chain_from wallet blocks) asked) asked.tries).ended ≡ true
  pub comes_to : told_files → outcome_of files s p ≡ NoSelection report log

-- A wallet, blocks and a request whose tries are used up while a search is open. Where the files are told, they hold this
-- wallet, these blocks and this request.
pub record IsUnfinished (told_files : Type 0) (files : List ℕ → List ℕ) (s : Sources) (p : Payment) (report : List ℕ) : Type 0 where
  pub wallet : PlainWallet
  pub blocks : List ChainBlock
  pub asked : PlainRequest
  pub inputs : told_files → AreInputs files s p wallet blocks asked
  pub plan : IsPlan (plan_of (chain_from wallet blocks) asked)
  pub steps : AreSteps (steps_of (plan_of (chain_from wallet blocks) asked))
  pub outcome : outcome_at (plan_of (chain_from wallet blocks) asked) asked.tries ≡ answers.Unfinished
  pub used_up : IsUsedUp (plan_of (chain_from wallet blocks) asked) asked.tries
  pub reports : report ≡ open_text (tries_at (plan_of (chain_from wallet blocks) asked) asked.tries) used_up.step
  pub told : IsReportText report (kinds.Unfinished (tries_at (plan_of (chain_from wallet blocks) asked) asked.tries) used_up.step.row used_up.step.stage)
  pub comes_to : told_files → outcome_of files s p ≡ Unfinished report

-- A refusal of this status, whose cause the files come to where they are told, with its line.
abbrev pub EndsRefused : Status → Type 0 → Type 0 → Sources → Payment → ShelfView → SinkView → SinkView → Type 0
EndsRefused status told_files told s p shelf sink sink' =
    (refusal : Refusal) × (status_of_cause (cause_of refusal) ≡ status) × (told_files → AreRefusedFor shelf.files s p (cause_of refusal)) × (told → GotLine (fault_line (refusal_words refusal)) sink sink')

-- A file wasn't read, those before it being in order, and the line names it.
abbrev pub EndsUnread : Type 0 → Type 0 → Sources → Payment → ShelfView → ShelfView → SinkView → SinkView → Type 0
EndsUnread told_files told s p shelf shelf' sink sink' =
    (file : File) × IsUnread s p file shelf shelf' × (told_files → Reaches shelf.files s file)
    × (told → GotLine (fault_line (codes "read " ++ name_of s p file)) sink sink')

-- the log is written, or none is and no file has changed
abbrev pub IsLogged : Payment → Option (List ℕ) → ShelfView → ShelfView → Type 0
IsLogged p (Some log) shelf shelf' = shelf'.files p.log ≡ log
IsLogged p None shelf shelf' = shelf'.files ≡ shelf.files

-- a log was to be written, and wasn't
abbrev pub IsLogLost : Payment → Option (List ℕ) → ShelfView → ShelfView → Type 0
IsLogLost p (Some log) shelf shelf' = Rose (shelf.writes p.log) (shelf'.writes p.log)
IsLogLost p None shelf shelf' = ⊥

-- a status before the log is written
abbrev pub IsBeforeTheLog : Status → Type 0
IsBeforeTheLog statuses.Usage = Unit {0}
IsBeforeTheLog statuses.Input = Unit {0}
IsBeforeTheLog statuses.ReadFault = Unit {0}
IsBeforeTheLog statuses.KeepFault = Unit {0}
IsBeforeTheLog statuses.Saved = Unit {0}
IsBeforeTheLog statuses.Limit = Unit {0}
IsBeforeTheLog statuses.Unfinished = Unit {0}
IsBeforeTheLog statuses.Done = ⊥
IsBeforeTheLog statuses.NoSelection = ⊥
IsBeforeTheLog statuses.WriteFault = ⊥
IsBeforeTheLog statuses.Memory = ⊥
IsBeforeTheLog statuses.CheckRefused = Unit {0}
IsBeforeTheLog statuses.Settle = Unit {0}
