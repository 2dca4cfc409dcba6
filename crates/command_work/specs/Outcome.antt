-- What the run on the workload of a number and a count comes to.
use Rattle.std.specs.Prelude.{ℕ, ◌≡◌, List, [], codes, Option, Some, None}
use Rattle.fund_files.specs.Cause as files
use Rattle.fund_files.specs.Chain.{chain_from}
use Rattle.fund_files.specs.declared.chain.Chain.{Chain}
use Rattle.fund_steps.specs.Plan.{PlainPlan}
use Rattle.json_fields.specs.Repeats.{IsFirstRepeat}
use Rattle.wallet_text.specs.WalletText.{earlier_txids, repeat_from, told_index}
use Rattle.wallet_text.specs.declared.fault.Refusal.TheVariants as wallets
use Rattle.command_work.specs.Load.{earlier_of, request_of, wallet_of}
use Rattle.command_work.specs.Summary.{summary_text}
use Rattle.command_end.specs.declared.status.Status.{Status}
use Rattle.command_inputs.specs.Cause.{Cause, Files}
use Rattle.command_inputs.specs.Outcome as payments
use Rattle.command_inputs.specs.Results as payment_ends

-- ---- the run

-- the workload's wallet, with the book of its coins; no block stands behind it
abbrev pub load_of : ℕ → ℕ → Chain
load_of number count = chain_from (wallet_of number count) []

-- the plan of its request
abbrev pub load_plan : ℕ → ℕ → PlainPlan
load_plan number count = payments.plan_of (load_of number count) (request_of number count)

-- what a payment from files comes to that hold this wallet, no block, and this request
abbrev pub run_of : ℕ → ℕ → payments.Outcome
run_of number count = payments.planned (load_of number count) (request_of number count)

-- ---- what is printed of it

-- a refusal, with a line of its own; or the status of the run, and its summary
pub data Outcome : Type 0 where
  Refused : Cause → Outcome
  Summed : (status : Status) → (summary : List ℕ) → Outcome

-- a run by its summary: of its report, whatever is in the log, which isn't written
abbrev pub summed : ℕ → ℕ → payments.Outcome → Outcome
summed number count (payments.Refused cause) = Refused cause
summed number count (payments.Unfinished report) = Summed (payment_ends.status_of (payments.Unfinished report)) (summary_text number count report)
summed number count (payments.NoSelection report log) = Summed (payment_ends.status_of (payments.NoSelection report log)) (summary_text number count report)
summed number count (payments.Funded report log) = Summed (payment_ends.status_of (payments.Funded report log)) (summary_text number count report)

-- why a wallet is refused whose earlier transaction at this place has the txid of one before it
abbrev pub repeat_cause : ℕ → Cause
repeat_cause place = Files (files.BadWallet (wallets.Repeat (codes "earlier") (told_index place)))

-- by the first such place of the workload's transactions, if they have one
abbrev pub by_repeat : ℕ → ℕ → Option ℕ → Outcome
by_repeat number count (Some place) = Refused (repeat_cause place)
by_repeat number count None = summed number count (run_of number count)

-- What a number and a count come to: no wallet has two earlier transactions of one txid; otherwise it is the run.
unfoldable pub outcome_of : ℕ → ℕ → Outcome
outcome_of number count = by_repeat number count (repeat_from [] (earlier_txids (earlier_of number count)))

-- ---- what a refusal means

-- Two of the workload's transactions have one txid, which is the double SHA-256 of two different texts. The cause is of
-- the first that has the txid of one before it.
pub record IsCollision (number count : ℕ) (cause : Cause) : Type 0 where
  pub place : ℕ
  pub first : IsFirstRepeat (earlier_txids (earlier_of number count)) place
  pub cause_is : cause ≡ repeat_cause place
