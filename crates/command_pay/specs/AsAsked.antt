-- That what is paid is what was asked for.
use Rattle.std.specs.Prelude.{ℕ, ◌≡◌, List, [], All, Ok, string_bytes}
use Rattle.amount_reports.specs.SharedText.{PlainShared}
use Rattle.amount_laws.specs.Told.{shared_told}
use Rattle.block_feed.specs.Block.{ChainBlock}
use Rattle.fund_shelf.specs.Causes.{ShelfView}
use Rattle.fund_files.specs.Chain.{chain_from, history_of}
use Rattle.fund_files.specs.Contents.{HasChain}
use Rattle.fund_payment.specs.Report.{psbt_of, reported}
use Rattle.fund_plan.specs.Answer as answers
use Rattle.fund_plan.specs.Claims.{Claims}
use Rattle.fund_plan.specs.Outcome.{tries_at}
use Rattle.fund_plan.specs.Selection.{PlainFunded}
use Rattle.fund_report.specs.PlainFunded as reports
use Rattle.fund_steps.specs.Listed.{MaySpend}
use Rattle.fund_steps.specs.Plan.{IsPlan, PlainPlan}
use Rattle.psbt_codec.specs.Psbt.{IsPsbt}
use Rattle.request_making.specs.Asked.{asked_of}
use Rattle.request_text.specs.PlainRequest.{PlainRequest}
use Rattle.wallet_text.specs.PlainWallet.{PlainWallet}
use Rattle.command_amounts.specs.Signing.{psbt_from}
use Rattle.command_inputs.specs.Outcome.{log_text_at, plan_of}
use Rattle.command_inputs.specs.Packages.{PaysForPackages}
use Rattle.command_share.specs.Asked.{IsForShare}
use Rattle.command_share.specs.Outcome.{log_text}
use Rattle.command_share.specs.Paying.{PlainPaying, shared_request}
use Rattle.command_share.specs.Results.{IsPaid as IsSharedBy}
use Rattle.command_share.specs.Rows.{PlainRun}
use Rattle.pay_words.specs.declared.asked.Asked.{Asked}
use Rattle.pay_words.specs.declared.way.Way.{Way}
use Rattle.pay_words.specs.declared.way.Way.TheVariants as ways
use Rattle.wide_plan.specs.Claims as wide
use Rattle.wide_plan.specs.LogText.{text_of}
use Rattle.wide_plan.specs.Run.{run_of}
use Rattle.command_pay.specs.declared.report.PaidReport.{PaidReport}
use Rattle.command_pay.specs.declared.report.PaidReport.TheVariants.{Whole, Shared}

-- ---- by a plan

-- what a payment of a plan claims by its mark, by the command that makes it; `share` makes none of a plan
abbrev pub ClaimsBy : Way → PlainPlan → PlainFunded → Type 0
ClaimsBy ways.Fund p f = Claims p p.request.tries f
ClaimsBy ways.Wide p f = wide.Claims p f (run_of p).sections (run_of p).tries
ClaimsBy ways.Share p f = ⊥

-- the tries that were made
abbrev pub tries_by : Way → PlainPlan → ℕ
tries_by ways.Fund p = tries_at p p.request.tries
tries_by ways.Wide p = (run_of p).tries
tries_by ways.Share p = 0

-- the text of the log
abbrev pub log_by : Way → PlainPlan → List ℕ
log_by ways.Fund p = log_text_at p p.request.tries
log_by ways.Wide p = text_of (run_of p).sections
log_by ways.Share p = []

-- The payment is one of the plan to which a wallet, blocks and a request come: it pays each recipient exactly and at least the fee,
-- from coins that may be spent, and what its mark claims is true. It pays for the Pending payments that its coins rest on, too.
-- The report is that of it, and the log is that of the plan.
pub record IsPlanned (way : Way) (w : PlainWallet) (bs : List ChainBlock) (r : PlainRequest) (f : reports.PlainFunded) (log : List ℕ) : Type 0 where
  pub funded : PlainFunded
  pub plan : IsPlan (plan_of (chain_from w bs) r)
  pub pays : answers.IsPayment (plan_of (chain_from w bs) r) funded
  pub eligible : All (MaySpend (plan_of (chain_from w bs) r)) funded.coins
  pub packages : PaysForPackages w (history_of w bs) r funded
  pub claims : ClaimsBy way (plan_of (chain_from w bs) r) funded
  pub psbt : IsPsbt (psbt_of (history_of w bs) r w.change funded)
  pub report : f ≡ reported (history_of w bs) r w.change (tries_by way (plan_of (chain_from w bs) r)) funded
  pub logs : log ≡ log_by way (plan_of (chain_from w bs) r)

-- ---- by shares

-- The payment is one whose recipients bear the fee, of a request that is for such: its coins are the lightest of the first of two rows
-- that has any. Each recipient gets what is asked for less its share, and no less than its dust threshold. The report is that of it, and
-- the log is that of the searches.
pub record IsShared (w : PlainWallet) (bs : List ChainBlock) (r : PlainRequest) (f : PlainShared) (log : List ℕ) : Type 0 where
  pub run : PlainRun
  pub paying : PlainPaying
  pub taken : IsForShare r
  pub pays : IsSharedBy (chain_from w bs) r run paying
  pub psbt : IsPsbt (psbt_from (history_of w bs) (shared_request r paying.borne) w.change paying.coins paying.change)
  pub report : f ≡ shared_told (chain_from w bs) r run.tries paying
  pub logs : log ≡ log_text run.sections

-- ---- as it was asked for

-- by what is reported, which is of a payment by `share` exactly where that was asked for
abbrev pub IsPaidSo : Way → PlainWallet → List ChainBlock → PlainRequest → PaidReport → List ℕ → Type 0
IsPaidSo way w bs r (Whole f) log = IsPlanned way w bs r f log
IsPaidSo way w bs r (Shared f) log = (way ≡ ways.Share) × IsShared w bs r f log

-- A wallet and blocks that the files hold, and exactly the request that is asked for; the payment is one to which they come.
pub record IsAsAskedBy (way : Way) (a : Asked) (files : ShelfView) (f : PaidReport) (log : List ℕ) : Type 0 where
  pub wallet : PlainWallet
  pub blocks : List ChainBlock
  pub request : PlainRequest
  pub chain : HasChain (files.files (string_bytes a.names.wallet)) (files.files (string_bytes a.names.blocks)) wallet blocks
  pub asks : asked_of a.payments.items a.coins.items a.settings ≡ Ok request
  pub paid : IsPaidSo way wallet blocks request f log

-- by the way of what is asked
abbrev pub IsAsAsked : Asked → ShelfView → PaidReport → List ℕ → Type 0
IsAsAsked a files f log = IsAsAskedBy a.way a files f log
