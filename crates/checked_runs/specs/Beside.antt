-- A report and its log beside the files of which they tell.
use Rattle.std.specs.Prelude.{ℕ, ◌≡◌, List}
use Rattle.command_end.specs.Names.{Sources}
use Rattle.command_inputs.specs.Names.{Payment}
use Rattle.command_inputs.specs.Results as payments
use Rattle.fund_files.specs.Chain.{chain_from, history_of}
use Rattle.fund_payment.specs.Report.{reported}
use Rattle.fund_plan.specs.Outcome.{tries_at}
use Rattle.fund_report.specs.PlainFunded as reports
use Rattle.command_inputs.specs.Outcome.{plan_of}

-- The wallet, the blocks and the request are as they were, and the report stands in a file of this name.
pub record StandsBeside (files files' : List ℕ → List ℕ) (s : Sources) (p : Payment) (name report : List ℕ) : Type 0 where
  pub wallet : files' s.wallet ≡ files s.wallet
  pub blocks : files' s.blocks ≡ files s.blocks
  pub request : files' p.request ≡ files p.request
  pub report_is : files' name ≡ report

-- and so does the log, in the payment's own
pub record StandWithLog (files files' : List ℕ → List ℕ) (s : Sources) (p : Payment) (name report log : List ℕ) : Type 0 where
  pub beside : StandsBeside files files' s p name report
  pub log_is : files' p.log ≡ log

-- ---- what a payment from files wrote

-- where the files are told
abbrev pub IsFunded : (List ℕ → List ℕ) → Sources → Payment → (report log : List ℕ) → Type 0
IsFunded files s p report log = payments.IsFunded (Unit {0}) files s p report log

abbrev pub IsNotFunded : (List ℕ → List ℕ) → Sources → Payment → (report log : List ℕ) → Type 0
IsNotFunded files s p report log = payments.IsNotFunded (Unit {0}) files s p report log

abbrev pub IsUnfinished : (List ℕ → List ℕ) → Sources → Payment → (report : List ℕ) → Type 0
IsUnfinished files s p report = payments.IsUnfinished (Unit {0}) files s p report

-- what is reported of a payment of these files
abbrev pub reported_of : (files : List ℕ → List ℕ) (s : Sources) (p : Payment) (report log : List ℕ) → IsFunded files s p report log → reports.PlainFunded
reported_of files s p report log k = reported (history_of k.wallet k.blocks) k.asked k.wallet.change (tries_at (plan_of (chain_from k.wallet k.blocks) k.asked) k.asked.tries) k.funded
