-- That what is swept is what was asked for.
use Rattle.std.specs.Prelude.{ℕ, ◌≡◌, ◌+◌, List, [], ◌∷◌, map, sum_by, None, Ok, string_bytes}
use Rattle.block_feed.specs.Block.{ChainBlock}
use Rattle.coin_candidates.specs.declared.candidate.Candidate.{Candidate}
use Rattle.amount_reports.specs.SweptText.{PlainSwept}
use Rattle.fund_shelf.specs.Causes.{ShelfView}
use Rattle.fund_files.specs.Chain.{chain_from, history_of}
use Rattle.fund_files.specs.Contents.{HasChain}
use Rattle.fund_report.specs.declared.report.InLine.{InLine}
use Rattle.fund_steps.specs.Amounts.{AreWithin}
use Rattle.psbt_codec.specs.PartialTransaction.{PartialTransaction}
use Rattle.psbt_codec.specs.Psbt.{IsPsbt}
use Rattle.psbt_codec.specs.Text.{psbt_text}
use Rattle.request_making.specs.Asked.{asked_of}
use Rattle.request_making.specs.declared.payment.Payment.{Payment}
use Rattle.request_text.specs.PlainRequest.{PlainRequest}
use Rattle.tx_codec.specs.declared.tx.TxIn.{TxIn}
use Rattle.tx_codec.specs.declared.tx.TxOut.{TxOut}
use Rattle.wallet_text.specs.PlainWallet.{PlainWallet}
use Rattle.amount_laws.specs.Told.{swept_told}
use Rattle.command_amounts.specs.Signing.{psbt_from}
use Rattle.command_pay.specs.Money.{IsScriptOf}
use Rattle.command_sweep.specs.Asked.{IsForSweep}
use Rattle.command_sweep.specs.Outcome.{swept_request}
use Rattle.command_sweep.specs.Results.{SweepsAll}
use Rattle.pay_words.specs.declared.asked.Asked.{Asked}

-- A wallet and blocks that the files hold, and exactly the request that is asked for, which a sweep takes. The payment is that of all
-- coins that the last row of the ladder takes, each within its bounds. The recipient gets what they are worth less the fees of
-- their inputs, their prices and the fee of the base. The report is that of it.
pub record IsAsAsked (a : Asked) (files : ShelfView) (r : PlainSwept) : Type 0 where
  pub wallet : PlainWallet
  pub blocks : List ChainBlock
  pub request : PlainRequest
  pub coins : List Candidate
  pub amount : ℕ
  pub chain : HasChain (files.files (string_bytes a.names.wallet)) (files.files (string_bytes a.names.blocks)) wallet blocks
  pub asks : asked_of a.payments.items a.coins.items a.settings ≡ Ok request
  pub taken : IsForSweep request
  pub sweeps : SweepsAll (chain_from wallet blocks) request coins amount
  pub fit : AreWithin coins
  pub psbt : IsPsbt (psbt_from (history_of wallet blocks) (swept_request request amount) wallet.change coins None)
  pub report : r ≡ swept_told (chain_from wallet blocks) request coins amount

-- Where the money of such a payment goes. Its PSBT is of version 0 (BIP 174). It is that of a transaction with one output, to the
-- one recipient that is asked for, of the amount that is reported. Its inputs spend the coins that are reported. What these are
-- worth is the amount and the fee, in satoshi.
pub record IsMoneyOf (a : Asked) (r : PlainSwept) : Type 0 where
  pub psbt : PartialTransaction
  pub asked : Payment
  pub output : TxOut
  pub is : IsPsbt psbt
  pub text : r.psbt ≡ psbt_text 0 psbt
  pub one : a.payments.items ≡ asked ∷ []
  pub outputs : psbt.tx.outputs ≡ output ∷ []
  pub amount : output.value ≡ r.amount
  pub script : IsScriptOf asked.to output.script
  pub spends : map (λ (i : TxIn). i.prev) psbt.tx.inputs ≡ map (λ (c : InLine). c.coin) r.coins
  pub money : sum_by (λ (c : InLine). c.value) r.coins ≡ r.amount + r.fee
