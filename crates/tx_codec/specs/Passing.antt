-- Passing over the parts of a transaction, of which nothing is kept.
use Rattle.std.specs.Prelude.{ℕ, ◌≡◌, ◌≢◌, ◌+◌, ◌-◌, ◌≤◌, ◌++◌, ◌==◌, ◌⊎◌, Bool, false, not, List, [], length, take, drop, Result, Ok, Err, if◌then◌else◌}
use Rattle.fund_base.specs.CompactSize.{counted}
use Rattle.fund_base.specs.Cursor.{At}
use Rattle.fund_base.specs.Parsing.{many_from}
use Rattle.tx_codec.specs.declared.fault.TxFault.{TxFault}
use Rattle.tx_codec.specs.declared.fault.TxFault.TheVariants.{Memory}
use Rattle.tx_codec.specs.declared.tx.TxIn.{TxIn}
use Rattle.tx_codec.specs.declared.tx.TxOut.{TxOut}
use Rattle.tx_codec.specs.Reading.{are_empty, inputs_at, outputs_at, stack_at, stacks_at, tx_at}
use Rattle.tx_codec.specs.Transaction.{Transaction}
use Rattle.tx_codec.specs.TransactionText.{IsTransaction, bare_text, input_text, output_text, text_of}

-- so many items stand there, and what follows them
pub record HoldsMany {X : Type 0} (item : List X → At → Result (X × At) TxFault) (count : ℕ) (old new : At) : Type 0 where
  pub items : List X
  pub read : many_from item count [] old ≡ Ok (items, new)
  pub long : length items ≡ count

-- The call passed over so many items, or it has the fault of reading them.
abbrev pub PassesMany : {X A : Type 0} → (List X → At → Result (X × At) TxFault) → ℕ → At → At → Result A TxFault → Type 0
PassesMany item count old new (Ok done) = HoldsMany item count old new
PassesMany item count old new (Err e) = e ≢ Memory → many_from item count [] old ≡ Err e

-- a list that stands there, and what follows it
pub record HoldsList {X : Type 0} (read : Result (List X × At) TxFault) (count : ℕ) (new : At) : Type 0 where
  pub items : List X
  pub is : read ≡ Ok (items, new)
  pub long : length items ≡ count

-- The call passed over a list and tells its length, or it has the fault of reading it.
abbrev pub PassesList : {X : Type 0} → Result (List X × At) TxFault → At → Result ℕ TxFault → Type 0
PassesList read new (Ok count) = HoldsList read count new
PassesList read new (Err e) = e ≢ Memory → read ≡ Err e

-- a witness that stands there, and whether it holds something
pub record HoldsStack (old new : At) (some : Bool) : Type 0 where
  pub stack : List (List ℕ)
  pub is : stack_at old ≡ Ok (stack, new)
  pub empty : (length stack == 0) ≡ not some

abbrev pub PassesStack : At → At → Result Bool TxFault → Type 0
PassesStack old new (Ok some) = HoldsStack old new some
PassesStack old new (Err e) = e ≢ Memory → stack_at old ≡ Err e

-- the witnesses of inputs that stand there, and whether one holds something
pub record HoldsStacks (inputs : List TxIn) (old new : At) (some : Bool) : Type 0 where
  pub with_stacks : List TxIn
  pub is : stacks_at inputs old ≡ Ok (with_stacks, new)
  pub empty : are_empty with_stacks ≡ not some

abbrev pub PassesStacks : List TxIn → At → At → Result Bool TxFault → Type 0
PassesStacks inputs old new (Ok some) = HoldsStacks inputs old new some
PassesStacks inputs old new (Err e) = e ≢ Memory → stacks_at inputs old ≡ Err e

-- Inputs and outputs that stand there, so many inputs, and how many bytes they take.
pub record HoldsBody (old new : At) (count len : ℕ) : Type 0 where
  pub inputs : List TxIn
  pub outputs : List TxOut
  pub between : At
  pub inputs_is : inputs_at old ≡ Ok (inputs, between)
  pub outputs_is : outputs_at between ≡ Ok (outputs, new)
  pub long : length inputs ≡ count
  pub text_len : length (counted input_text inputs ++ counted output_text outputs) ≡ len

-- inputs that stand there, before outputs that have this fault
pub record FailsOutputs (old : At) (e : TxFault) : Type 0 where
  pub inputs : List TxIn
  pub between : At
  pub inputs_is : inputs_at old ≡ Ok (inputs, between)
  pub outputs_fail : outputs_at between ≡ Err e

-- reading both has this fault
abbrev pub FailsBody : At → TxFault → Type 0
FailsBody old e = (inputs_at old ≡ Err e) ⊎ FailsOutputs old e

-- The call passed over inputs and outputs and tells the number of the inputs and the bytes of both, or it has the fault of
-- reading them.
abbrev pub PassesBody : At → At → Result (ℕ × ℕ) TxFault → Type 0
PassesBody old new (Ok body) = HoldsBody old new body.0 body.1
PassesBody old new (Err e) = e ≢ Memory → FailsBody old e

-- a transaction that is read there, its form, and how many bytes its inputs and outputs take
pub record HoldsTx (read : Result (Transaction × At) TxFault) (new : At) (segwit : Bool) (len : ℕ) : Type 0 where
  pub tx : Transaction
  pub is : read ≡ Ok (tx, new)
  pub form : tx.segwit ≡ segwit
  pub text_len : length (counted input_text tx.inputs ++ counted output_text tx.outputs) ≡ len

-- The call passed over a transaction of this form and tells how many bytes its inputs and outputs take, or it has the fault
-- of reading it.
abbrev pub PassesForm : Bool → Result (Transaction × At) TxFault → At → Result ℕ TxFault → Type 0
PassesForm segwit read new (Ok len) = HoldsTx read new segwit len
PassesForm segwit read new (Err e) = e ≢ Memory → read ≡ Err e

-- The call passed over a transaction and tells its form too.
abbrev pub PassesTx : Result (Transaction × At) TxFault → At → Result (Bool × ℕ) TxFault → Type 0
PassesTx read new (Ok shape) = HoldsTx read new shape.0 shape.1
PassesTx read new (Err e) = e ≢ Memory → read ≡ Err e

-- the transaction that was read, and one of nothing where none was
abbrev pub in_front : Result (Transaction × At) TxFault → Transaction
in_front (Ok read) = read.0
in_front (Err e) = record { version = 0; inputs = []; outputs = []; locktime = 0; segwit = false }

-- the transaction that stands at the front of bytes
unfoldable pub viewed : List ℕ → Transaction
viewed bytes = in_front (tx_at (record { rest = bytes; place = 0 }))

-- where the inputs begin, behind the version and, in the segregated form, marker and flag
abbrev pub start_of : Bool → ℕ
start_of segwit = if segwit then 6 else 4

-- bytes that are a transaction's text, in this form, in which so many bytes are inputs and outputs
pub record IsViewed (bytes : List ℕ) (segwit : Bool) (len : ℕ) : Type 0 where
  pub whole : IsTransaction (viewed bytes)
  pub text : bytes ≡ text_of (viewed bytes)
  pub bare : bare_text (viewed bytes) ≡ take 4 bytes ++ (take len (drop (start_of segwit) bytes) ++ drop (length bytes - 4) bytes)
  pub room : start_of segwit + len + 4 ≤ length bytes
  pub form : (viewed bytes).segwit ≡ segwit
