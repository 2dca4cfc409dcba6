-- The payment that was to be signed, and why it isn't told.
use Rattle.std.specs.Prelude.{ℕ, ◌≡◌, List, Option, Some, None, slice_get}
use Rattle.std.specs.List.{AllZip, zip}
use Rattle.closing_log.specs.Exact.{IsFirstFault}
use Rattle.coin_book.specs.Coins.{weight_for}
use Rattle.fund_base.specs.Least.{IsLeast}
use Rattle.fund_report.specs.PlainFunded.{PlainFunded}
use Rattle.fund_report.specs.ReportText.{IsReportText}
use Rattle.fund_report.specs.declared.report.Report as reports
use Rattle.fund_report.specs.declared.report.Report.TheVariants.{Funded, NoSelection, Unfinished}
use Rattle.psbt_codec.specs.Fault.{shown}
use Rattle.psbt_codec.specs.PartialTransaction.{PartialTransaction}
use Rattle.psbt_codec.specs.Text.{HasPsbtFault, IsPsbtText}
use Rattle.psbt_codec.specs.declared.psbt.Spent.{Spent}
use Rattle.settle_check.specs.declared.fault.SettleFault.{SettleFault}
use Rattle.settle_check.specs.declared.fault.SettleFault.TheVariants.{Report, NotFunded, Psbt, NoValue, Foreign}
use Rattle.tx_codec.specs.Transaction.{Transaction}
use Rattle.tx_codec.specs.declared.tx.TxIn.{TxIn}
use Rattle.tx_codec.specs.declared.tx.TxOut.{TxOut}
use Rattle.wallet_text.specs.declared.wallet.Watch.{Watch}

-- ---- one entry for each

-- the second list has what each entry of the first gives, in order
abbrev pub AreAll : {X Y : Type 0} → (X → Option Y) → List X → List Y → Type 0
AreAll gives xs ys = AllZip (λ x y. gives x ≡ Some y) xs ys

-- this is the first index at which an entry gives nothing, as a fault shows it
pub record IsFirstNone {X Y : Type 0} (gives : X → Option Y) (xs : List X) (index : ℕ) : Type 0 where
  pub place : ℕ
  pub first : IsLeast (λ k. (x : X) × (slice_get xs k ≡ Some x) × (gives x ≡ None)) place
  pub index_is : index ≡ shown place

-- ---- what is spent, and what it was declared to weigh

-- an input, and what is known of the output that it spends
abbrev pub Known : Type 0
Known = TxIn × Spent

-- the output of the whole transaction at the index that the input spends, where one stands beside the input (BIP 174, type
-- 00); else the output that stands there alone (type 01)
abbrev pub output_by : TxIn → Option Transaction → Option TxOut → Option TxOut
output_by i None paid = paid
output_by i (Some whole) paid = slice_get whole.outputs i.prev.index

abbrev pub output_of : Known → Option TxOut
output_of k = output_by k.0 k.1.whole k.1.paid

-- what an input that spends an output is declared to weigh, where its script is listed
abbrev pub weight_of : List Watch → TxOut → Option ℕ
weight_of scripts o = weight_for scripts o.script

-- the inputs of a PSBT
abbrev pub known_of : PartialTransaction → List Known
known_of p = zip p.tx.inputs p.spent

-- ---- the payment

-- the bytes are the report of a payment with this PSBT
abbrev pub HasPayment : List ℕ → PartialTransaction → Type 0
HasPayment report p = (f : PlainFunded) × IsReportText report (Funded f) × IsPsbtText f.text p

-- and these are the outputs that it spends, and what its inputs are declared to weigh where these scripts are listed
pub record IsPayment (report : List ℕ) (scripts : List Watch) (p : PartialTransaction) (spent : List TxOut) (declared : List ℕ) : Type 0 where
  pub psbt : HasPayment report p
  pub spends : AreAll output_of (known_of p) spent
  pub weighs : AreAll (weight_of scripts) spent declared

-- ---- why it isn't told

-- a report of no payment
abbrev pub IsUnfunded : reports.Report → Type 0
IsUnfunded (Funded f) = ⊥
IsUnfunded (NoSelection tries) = Unit {0}
IsUnfunded (Unfinished tries row stage) = Unit {0}

-- The bytes leave the reports at this place; or are the report of no payment; or its PSBT has this fault first; or the output
-- that this input spends isn't told; or, all being told, this input's script isn't listed.
abbrev pub IsPaymentFault : List ℕ → List Watch → SettleFault → Type 0
IsPaymentFault report scripts (Report place) = IsFirstFault IsReportText report place
IsPaymentFault report scripts NotFunded = (r : reports.Report) × IsReportText report r × IsUnfunded r
IsPaymentFault report scripts (Psbt fault) = (f : PlainFunded) × IsReportText report (Funded f) × HasPsbtFault f.text fault
IsPaymentFault report scripts (NoValue index) = (p : PartialTransaction) × HasPayment report p × IsFirstNone output_of (known_of p) index
IsPaymentFault report scripts (Foreign index) =
    (p : PartialTransaction) × (spent : List TxOut) × HasPayment report p × AreAll output_of (known_of p) spent × IsFirstNone (weight_of scripts) spent index
IsPaymentFault report scripts fault = ⊥
