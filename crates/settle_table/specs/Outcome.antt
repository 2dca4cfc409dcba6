-- What the files come to, where their transaction settles the payment of their report.
use Rattle.std.specs.Prelude.{ℕ, ◌≡◌, ◌+◌, List, sum, sum_by}
use Rattle.fee_rates.specs.Fee.{vsize_of}
use Rattle.psbt_codec.specs.PartialTransaction.{PartialTransaction}
use Rattle.request_text.specs.PlainRequest.{PlainRequest}
use Rattle.settle_check.specs.Settled.{Settles, true_weight_of, worth_of}
use Rattle.settle_check.specs.declared.judging.Settled.{Settled}
use Rattle.tx_codec.specs.Transaction.{Transaction}
use Rattle.tx_codec.specs.Txid.{txid_of}
use Rattle.tx_codec.specs.Weight.{weight_of}
use Rattle.tx_codec.specs.declared.tx.TxOut.{TxOut}
use Rattle.wallet_text.specs.PlainWallet.{PlainWallet}
use Rattle.command_settle.specs.Files.{AreFiles}
use Rattle.command_settle.specs.Names.{Names}
use Rattle.command_settle.specs.Payment.{IsPayment}
use Rattle.settle_table.specs.Forms.{Holds}
use Rattle.settle_table.specs.Weighed.{weighed_in}
use Rattle.settle_table.specs.declared.inputs.WeighedInput.{WeighedInput}

-- A transaction settles a payment at a rate, and these are its figures and its inputs.
pub record IsSettledBy (tx : Transaction) (spent : List TxOut) (declared : List ℕ) (signed : Transaction) (rate : ℕ) (s : Settled) (inputs : List WeighedInput) : Type 0 where
  pub settles : Settles tx spent declared signed rate
  pub txid : s.txid ≡ txid_of signed
  pub weight : s.weight ≡ weight_of signed
  pub vsize : s.vsize ≡ vsize_of (weight_of signed)
  pub fee : s.fee + worth_of signed.outputs ≡ worth_of spent
  pub spare : s.spare + sum_by (true_weight_of signed.segwit) signed.inputs ≡ sum declared
  pub inputs_are : inputs ≡ weighed_in signed declared

-- The transaction of this file settles the payment of this report, for this wallet and this request.
pub record IsSettledIn (w : PlainWallet) (r : PlainRequest) (report tx : List ℕ) (s : Settled) (inputs : List WeighedInput) : Type 0 where
  pub signed : Transaction
  pub psbt : PartialTransaction
  pub spent : List TxOut
  pub declared : List ℕ
  pub holds : Holds tx signed
  pub payment : IsPayment report w.scripts psbt spent declared
  pub settled : IsSettledBy psbt.tx spent declared signed r.rate s inputs

-- The files hold a wallet and a request, and so it is of the other two.
pub record IsSettlement (files : List ℕ → List ℕ) (n : Names) (s : Settled) (inputs : List WeighedInput) : Type 0 where
  pub wallet : PlainWallet
  pub request : PlainRequest
  pub held : AreFiles files n wallet request (files n.report) (files n.tx)
  pub settled : IsSettledIn wallet request (files n.report) (files n.tx) s inputs
