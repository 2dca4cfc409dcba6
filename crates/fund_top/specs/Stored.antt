-- What is stored: files from which a payment is planned, and the workload of two numbers.
use Rattle.std.specs.Prelude.{ℕ, ◌≤◌, List}
use Rattle.block_feed.specs.Block.{ChainBlock}
use Rattle.request_text.specs.PlainRequest.{PlainRequest}
use Rattle.wallet_text.specs.PlainWallet.{PlainWallet}
use Rattle.wallet_text.specs.WalletRules.{AreDistinctEarlier}
use Rattle.fund_plan.specs.Outcome.{outcome_at, tries_at}
use Rattle.fund_plan.specs.Selection.{PlainFunded}
use Rattle.fund_plan.specs.declared.outcome.Outcome.{Outcome as Answer}
use Rattle.fund_steps.specs.Plan.{IsPlan, PlainPlan}
use Rattle.fund_files.specs.Chain.{chain_from, history_of}
use Rattle.fund_payment.specs.Report.{report_of}
use Rattle.command_end.specs.Names.{Sources}
use Rattle.command_inputs.specs.Outcome.{log_text_at, plan_of}
use Rattle.command_inputs.specs.Inputs.{AreInputs}
use Rattle.command_inputs.specs.Names.{Payment}
use Rattle.command_work.specs.Outcome.{load_of, load_plan}
use Rattle.command_work.specs.Load.{earlier_of, request_of, wallet_of}

-- a wallet, blocks and a request
pub record Stored : Type 0 where
  pub wallet : PlainWallet
  pub blocks : List ChainBlock
  pub asked : PlainRequest

-- their plan
abbrev pub plan_in : Stored → PlainPlan
plan_in k = plan_of (chain_from k.wallet k.blocks) k.asked

-- the files hold these, and the plan keeps its rules
pub record HaveStored (files : List ℕ → List ℕ) (s : Sources) (p : Payment) (k : Stored) : Type 0 where
  pub inputs : AreInputs files s p k.wallet k.blocks k.asked
  pub plan : IsPlan (plan_in k)

-- what the plan comes to with the request's tries
abbrev pub answer_in : Stored → Answer
answer_in k = outcome_at (plan_in k) k.asked.tries

-- the log of that, and the report of this payment
abbrev pub log_in : Stored → List ℕ
log_in k = log_text_at (plan_in k) k.asked.tries

abbrev pub report_in : Stored → PlainFunded → List ℕ
report_in k f = report_of (history_of k.wallet k.blocks) k.asked k.wallet.change (tries_at (plan_in k) k.asked.tries) f

-- a workload of so many coins, of which no two transactions have one txid
pub record IsLoad (number count : ℕ) : Type 0 where
  pub some : 1 ≤ count
  pub most : count ≤ 10_000
  pub distinct : AreDistinctEarlier (earlier_of number count)

-- what its plan comes to, and the report of this payment
abbrev pub load_answer : (number count : ℕ) → Answer
load_answer number count = outcome_at (load_plan number count) 100_000

abbrev pub load_report : (number count : ℕ) → PlainFunded → List ℕ
load_report number count f = report_of (load_of number count).book (request_of number count) (wallet_of number count).change (tries_at (load_plan number count) 100_000) f
