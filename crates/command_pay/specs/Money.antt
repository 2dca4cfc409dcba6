-- What a payment is in words of money.
use Rattle.std.specs.Prelude.{ℕ, ◌≡◌, ◌+◌, List, ◌++◌, All, Contains, map, sum_by, String, string_bytes, Option, Some, Ok}
use Rattle.std.specs.List.{AllZip}
use Rattle.std.specs.declared.alloc.Global.{Global}
use Rattle.amount_reports.specs.SharedText.{PlainShared}
use Rattle.fee_rates.specs.Output.{dust_of}
use Rattle.fee_sharing.specs.RowShares.{amount_of}
use Rattle.fee_sharing.specs.Shares.{AreLeft}
use Rattle.tx_codec.specs.declared.tx.TxIn.{TxIn}
use Rattle.tx_codec.specs.declared.tx.TxOut.{TxOut}
use Rattle.segwit_addr.specs.Reading.{decode_of}
use Rattle.psbt_codec.specs.PartialTransaction.{PartialTransaction}
use Rattle.psbt_codec.specs.Psbt.{IsPsbt}
use Rattle.psbt_codec.specs.Text.{psbt_text}
use Rattle.json_fields.specs.Fields.{coin_in}
use Rattle.fund_plan.specs.Pays.{change_outputs}
use Rattle.fund_report.specs.declared.report.InLine.{InLine}
use Rattle.request_making.specs.declared.payment.Payee.{Payee}
use Rattle.request_making.specs.declared.payment.Payee.TheVariants as payees
use Rattle.request_making.specs.declared.payment.Payment.{Payment}
use Rattle.wallet_text.specs.declared.wallet.Watch.{Watch}
use Rattle.pay_words.specs.declared.asked.Asked.{Asked}
use Rattle.command_pay.specs.Paid.{change_in, coins_in, fee_in, psbt_in}
use Rattle.command_pay.specs.declared.report.PaidReport.{PaidReport}
use Rattle.command_pay.specs.declared.report.PaidReport.TheVariants.{Whole, Shared}

-- the script of who is paid: that of the address, or the one that is given
abbrev pub IsScriptOf : Payee → List ℕ → Type 0
IsScriptOf (payees.Address text) script = decode_of (string_bytes text) ≡ Ok script
IsScriptOf (payees.Script given) script = script ≡ given

-- an output is a payment that is asked for: the amount, to whom
pub record IsPaidBy (p : Payment) (o : TxOut) : Type 0 where
  pub amount : o.value ≡ p.amount
  pub script : IsScriptOf p.to o.script

-- an output goes to whom a payment is asked for
abbrev pub GoesTo : Payment → TxOut → Type 0
GoesTo p o = IsScriptOf p.to o.script

-- The outputs go to those that are asked for, in order, and each recipient gets what is reported: what is asked for less its share of
-- what they bear together, and no less than the dust threshold of its script (Bitcoin Core, `GetDustThreshold`). The shares add up to
-- what is borne exactly. That and what the coins are worth beyond what is asked for are the fee and the change. With a change the
-- recipients bear the whole fee.
pub record AreShares (payments : List Payment) (f : PlainShared) (outputs : List TxOut) : Type 0 where
  pub borne : ℕ
  pub to : AllZip GoesTo payments outputs
  pub amounts : map (λ (o : TxOut). o.value) outputs ≡ f.amounts
  pub left : AreLeft borne (map (λ (p : Payment). p.amount) payments) (map (λ (o : TxOut). dust_of o.script) outputs) f.amounts
  pub money : sum_by (λ (p : Payment). p.amount) payments + amount_of f.change + f.fee ≡ sum_by (λ (c : InLine). c.value) f.coins + borne
  pub whole : (n : ℕ) → f.change ≡ Some n → f.fee ≡ borne

-- Outputs are the payments that are asked for, one each, in order: of the amounts that are asked for, or of these less the shares of
-- what the recipients bear.
abbrev pub ArePaid : List Payment → PaidReport → List TxOut → Type 0
ArePaid payments (Whole f) outputs = AllZip IsPaidBy payments outputs
ArePaid payments (Shared f) outputs = AreShares payments f outputs

-- the coin that a word spells is spent by one of the inputs
abbrev pub IsSpentBy : List TxIn → String Global → Type 0
IsSpentBy inputs word = (input : TxIn) × Contains inputs input × (coin_in (string_bytes word) ≡ Some input.prev)

-- Where the money of a payment goes. Its PSBT is of version 0 (BIP 174). It is that of a transaction of which the first outputs
-- are the payments that are asked for, one each, in order. The only other output is the change, where there is any, to this
-- script. Its inputs spend the coins that are reported, and each coin that is listed. What these coins are worth goes to the
-- outputs and the fee, in satoshi.
pub record IsMoneyOf (a : Asked) (change : Watch) (f : PaidReport) : Type 0 where
  pub psbt : PartialTransaction
  pub paid : List TxOut
  pub is : IsPsbt psbt
  pub text : psbt_in f ≡ psbt_text 0 psbt
  pub payments : ArePaid a.payments.items f paid
  pub outputs : psbt.tx.outputs ≡ paid ++ change_outputs change (change_in f)
  pub spends : map (λ (i : TxIn). i.prev) psbt.tx.inputs ≡ map (λ (c : InLine). c.coin) (coins_in f)
  pub listed : All (IsSpentBy psbt.tx.inputs) a.coins.items
  pub money : sum_by (λ (c : InLine). c.value) (coins_in f) ≡ sum_by (λ (o : TxOut). o.value) psbt.tx.outputs + fee_in f
