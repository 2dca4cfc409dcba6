-- What is judged, and against what.
use Rattle.std.specs.Prelude.{ℕ, ◌≡◌, ◌<◌, ◌≤◌, List, length}
use Rattle.block_feed.specs.Block.{ChainBlock}
use Rattle.fund_shelf.specs.Causes.{ShelfView, Rose}
use Rattle.fund_plan.specs.Selection.{PlainFunded}
use Rattle.fund_report.specs.ReportText.{IsReportText}
use Rattle.fund_report.specs.declared.report.Report as reports
use Rattle.fund_steps.specs.Plan.{IsPlan, PlainPlan}
use Rattle.report_check.specs.Verdict.{HasLog}
use Rattle.request_text.specs.PlainRequest.{PlainRequest}
use Rattle.wallet_text.specs.PlainWallet.{PlainWallet}
use Rattle.fund_files.specs.Chain.{chain_from, history_of}
use Rattle.command_end.specs.Names.{Sources}
use Rattle.command_inputs.specs.Outcome.{plan_of}
use Rattle.command_inputs.specs.Inputs.{AreInputs}
use Rattle.command_inputs.specs.Names.{Payment}
use Rattle.command_inputs.specs.Replacing.{PaysTheBurden, ReplacesIf}
use Rattle.command_check.specs.declared.stop.CheckedFile.{CheckedFile}
use Rattle.command_check.specs.declared.stop.CheckedFile.TheVariants.{Report, Log}

-- ---- against what

-- This is the plan of a wallet, blocks and a request, and it keeps its rules. Where the files are told, they hold these.
pub record IsPlanOf (told : Type 0) (files : List ℕ → List ℕ) (s : Sources) (p : Payment) (plan : PlainPlan) : Type 0 where
  pub wallet : PlainWallet
  pub blocks : List ChainBlock
  pub asked : PlainRequest
  pub inputs : told → AreInputs files s p wallet blocks asked
  pub is : plan ≡ plan_of (chain_from wallet blocks) asked
  pub rules : IsPlan plan

-- the files hold a wallet, blocks and a request, of which this is the plan
abbrev pub HavePlan : (List ℕ → List ℕ) → Sources → Payment → PlainPlan → Type 0
HavePlan files s p plan = IsPlanOf (Unit {0}) files s p plan

-- whatever pays the plan's burden replaces the payment that the request names, if it names one
abbrev pub BurdenReplaces : PlainWallet → List ChainBlock → PlainRequest → PlainPlan → Type 0
BurdenReplaces w blocks r plan = (f : PlainFunded) → PaysTheBurden plan f → ReplacesIf w (history_of w blocks) r f

-- the plan of a wallet, blocks and a request, with that
pub record IsReplacingPlan (told : Type 0) (files : List ℕ → List ℕ) (s : Sources) (p : Payment) (plan : PlainPlan) : Type 0 where
  pub of : IsPlanOf told files s p plan
  pub replaces : BurdenReplaces of.wallet of.blocks of.asked plan

-- ---- what is judged

-- the name of a file that is judged
abbrev pub evidence_name : Payment → (report : List ℕ) → CheckedFile → List ℕ
evidence_name p report Report = report
evidence_name p report Log = p.log

-- a file that is judged has at most 67,108,864 bytes
abbrev pub IsWithin : List ℕ → Type 0
IsWithin file = length file ≤ 67108864

-- it has more
abbrev pub IsTooLong : List ℕ → Type 0
IsTooLong file = 67108864 < length file

-- the file is the text of this report
pub record HasReport (file : List ℕ) (r : reports.Report) : Type 0 where
  pub fits : IsWithin file
  pub form : IsReportText file r

-- the file is the text of a report that has a log
abbrev pub HasLoggedReport : List ℕ → Type 0
HasLoggedReport file = (r : reports.Report) × HasReport file r × HasLog r

-- The report file is the text of this report; and where the report has a log, the log file has these bytes.
pub record AreRead (report_file log_file : List ℕ) (r : reports.Report) (log : List ℕ) : Type 0 where
  pub report : HasReport report_file r
  pub within : HasLog r → IsWithin log_file
  pub log_is : HasLog r → log ≡ log_file

-- ---- the order of the files

-- a read of this file failed
abbrev pub IsUnread : Payment → (report : List ℕ) → CheckedFile → ShelfView → ShelfView → Type 0
IsUnread p report file old new = Rose (old.reads (evidence_name p report file)) (new.reads (evidence_name p report file))

-- The files before this one are in order, so that it is read: those of the payment, and before the log a report that has one.
abbrev pub IsReached : (List ℕ → List ℕ) → Sources → Payment → (report : List ℕ) → CheckedFile → Type 0
IsReached files s p report Report = (plan : PlainPlan) × HavePlan files s p plan
IsReached files s p report Log = (plan : PlainPlan) × HavePlan files s p plan × HasLoggedReport (files report)
