-- When a signed transaction is the payment that was to be signed, and pays as was asked. Whether its signatures are valid
-- plays no part in it.
use Rattle.std.specs.Prelude.{ℕ, ◌≡◌, ◌+◌, ◌-◌, ◌*◌, ◌^◌, ◌≤◌, Bool, List, [], length, map, min, sum_by, slice_get, All, Some, if◌then◌else◌}
use Rattle.fund_base.specs.CompactSize.{prefixed}
use Rattle.fee_rates.specs.Fee.{fee_of, vsize_of}
use Rattle.tx_codec.specs.declared.tx.TxIn.{TxIn}
use Rattle.tx_codec.specs.declared.tx.TxOut.{TxOut}
use Rattle.tx_codec.specs.Transaction.{Transaction}
use Rattle.tx_codec.specs.TransactionText.{stack_text}
use Rattle.tx_codec.specs.Weight.{weight_of}

-- ---- the payment

-- an input without what signs it
abbrev pub bare_input : TxIn → TxIn
bare_input i = record i { script = []; witness = [] }

-- Both have one version and one lock time, inputs that spend the same outpoints with the same sequences, and the same
-- outputs, all in one order.
pub record IsSamePayment (tx signed : Transaction) : Type 0 where
  pub version : signed.version ≡ tx.version
  pub locktime : signed.locktime ≡ tx.locktime
  pub inputs : map bare_input signed.inputs ≡ map bare_input tx.inputs
  pub outputs : signed.outputs ≡ tx.outputs

-- ---- what signs it

-- an input has neither a script nor a witness
abbrev pub IsUnsigned : TxIn → Type 0
IsUnsigned i = (i.script ≡ []) × (i.witness ≡ [])

-- each input has one of them
abbrev pub AreSigned : List TxIn → Type 0
AreSigned inputs = All (λ (i : TxIn). IsUnsigned i → ⊥) inputs

-- ---- what it weighs

-- What an input weighs, in weight units: four times its bytes without its witness, of which the outpoint and the sequence
-- take 40, and, in the segregated form, the bytes of its witness with their number (BIP 141, 'Transaction size
-- calculations'). A greater number than fits 64 bits counts as the greatest that does.
unfoldable pub true_weight_of : (segwit : Bool) → TxIn → ℕ
true_weight_of segwit i = min (4 * (40 + length (prefixed i.script)) + (if segwit then length (stack_text i) else 0)) (2 ^ 64 - 1)

-- no input weighs more than was declared at its index
abbrev pub AreWithin : List ℕ → Transaction → Type 0
AreWithin declared signed = (k most : ℕ) (i : TxIn) → slice_get declared k ≡ Some most → slice_get signed.inputs k ≡ Some i → true_weight_of signed.segwit i ≤ most

-- ---- what it pays

-- what outputs are worth together, in satoshi
abbrev pub worth_of : List TxOut → ℕ
worth_of outputs = sum_by (λ (o : TxOut). o.value) outputs

-- the fee that a transaction needs at a rate, in satoshi
abbrev pub needed_of : ℕ → Transaction → ℕ
needed_of rate t = fee_of rate (vsize_of (weight_of t))

-- ---- all of it

-- The signed transaction settles the payment. It spends these outputs, one for each input; the weights were declared so.
pub record Settles (tx : Transaction) (spent : List TxOut) (declared : List ℕ) (signed : Transaction) (rate : ℕ) : Type 0 where
  pub same : IsSamePayment tx signed
  pub all_signed : AreSigned signed.inputs
  pub within : AreWithin declared signed
  pub weight : weight_of signed ≤ 400_000
  pub pays : worth_of signed.outputs + needed_of rate signed ≤ worth_of spent
