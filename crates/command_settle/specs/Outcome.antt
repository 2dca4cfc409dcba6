-- What the files come to.
use Rattle.std.specs.Prelude.{ℕ, ◌≡◌, ◌⊎◌, List, Ok, Err}
use Rattle.psbt_codec.specs.PartialTransaction.{PartialTransaction}
use Rattle.settle_check.specs.Broken.{IsSettleFault}
use Rattle.settle_check.specs.Settled.{Settles}
use Rattle.settle_check.specs.declared.fault.SettleFault.{SettleFault}
use Rattle.tx_codec.specs.Transaction.{Transaction}
use Rattle.tx_codec.specs.declared.tx.TxOut.{TxOut}
use Rattle.command_end.specs.Lines.{status_of_file}
use Rattle.command_end.specs.declared.status.Status.{Status}
use Rattle.command_end.specs.declared.status.Status.TheVariants as statuses
use Rattle.command_settle.specs.Files.{Cause, File, Judged, LongReport, LongTx, NotHex, NotTx, Unsettled, judged_of}
use Rattle.command_settle.specs.Names.{Names}
use Rattle.command_settle.specs.Payment.{IsPayment, IsPaymentFault}
use Rattle.command_settle.specs.Words.{settled_text}

-- a cause for which the files are refused; or the payment is settled, and this is printed
pub data Outcome : Type 0 where
  Refused : Cause → Outcome
  Settled : List ℕ → Outcome

-- ---- a broken rule

-- the report is of a payment, and this is the first part of what settles it that is broken
pub record IsOtherFault (report : List ℕ) (j : Judged) (fault : SettleFault) : Type 0 where
  pub psbt : PartialTransaction
  pub spent : List TxOut
  pub declared : List ℕ
  pub payment : IsPayment report j.wallet.scripts psbt spent declared
  pub first : IsSettleFault psbt.tx spent declared j.signed j.request.rate fault

-- this is the first rule that is broken: of the payment, or else of what settles it
abbrev pub IsUnsettled : List ℕ → Judged → SettleFault → Type 0
IsUnsettled report j fault = IsPaymentFault report j.wallet.scripts fault ⊎ IsOtherFault report j fault

-- a cause that is a broken rule, which is so
abbrev pub BreaksBy : (SettleFault → Type 0) → Cause → Type 0
BreaksBy broken cause = (fault : SettleFault) × (cause ≡ Unsettled fault) × broken fault

-- ---- none is broken

-- a transaction settles a payment at a rate, and this is printed of it
pub record IsSettledBy (tx : Transaction) (spent : List TxOut) (declared : List ℕ) (signed : Transaction) (rate : ℕ) (text : List ℕ) : Type 0 where
  pub settles : Settles tx spent declared signed rate
  pub prints : text ≡ settled_text signed spent declared

-- The signed transaction settles the payment of the report at the rate of the request.
pub record IsSettledIn (report : List ℕ) (j : Judged) (text : List ℕ) : Type 0 where
  pub psbt : PartialTransaction
  pub spent : List TxOut
  pub declared : List ℕ
  pub payment : IsPayment report j.wallet.scripts psbt spent declared
  pub settled : IsSettledBy psbt.tx spent declared j.signed j.request.rate text

-- The files are in order, and so it is for them.
pub record IsSettled (files : List ℕ → List ℕ) (n : Names) (text : List ℕ) : Type 0 where
  pub judged : Judged
  pub held : judged_of files n ≡ Ok judged
  pub settled : IsSettledIn (files n.report) judged text

-- ---- all of it

-- The files come to this. They are refused one by one, and for the transaction before the report is judged; then a rule is
-- broken; or else the payment is settled.
abbrev pub ComesTo : (List ℕ → List ℕ) → Names → Outcome → Type 0
ComesTo files n (Refused cause) = (judged_of files n ≡ Err cause) ⊎ ((j : Judged) × (judged_of files n ≡ Ok j) × BreaksBy (IsUnsettled (files n.report) j) cause)
ComesTo files n (Settled text) = IsSettled files n text

-- the payment is settled
abbrev pub IsASettlement : Outcome → Type 0
IsASettlement (Refused cause) = ⊥
IsASettlement (Settled text) = Unit {0}

-- the status of a cause
abbrev pub status_of_cause : Cause → Status
status_of_cause (File cause) = status_of_file cause
status_of_cause LongReport = statuses.Limit
status_of_cause LongTx = statuses.Limit
status_of_cause NotHex = statuses.Input
status_of_cause (NotTx fault) = statuses.Input
status_of_cause (Unsettled fault) = statuses.Settle

-- the status of an outcome, where nothing fails
abbrev pub status_of : Outcome → Status
status_of (Refused cause) = status_of_cause cause
status_of (Settled text) = statuses.Done
