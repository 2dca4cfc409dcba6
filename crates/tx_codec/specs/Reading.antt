-- Reading a transaction from left to right, with the first fault in reading order.
use Rattle.std.specs.Prelude.{ℕ, ◌≡◌, ◌≢◌, ◌+◌, ◌==◌, Bool, true, false, List, [], ◌∷◌, length, slice_index, sum_by, min, nat_lt, Result, Ok, Err, IsOk, IsOkAnd, MatchResult, if◌then◌else◌}
use Rattle.std.specs.Int.{w32, w64}
use Rattle.std.specs.List.{list_all}
use Rattle.fund_base.specs.declared.cursor.CutFault.{CutFault}
use Rattle.fund_base.specs.Cursor.{At, after, take_at, number_at, compact_at}
use Rattle.fund_base.specs.Parsing.{◌>>=◌, cut_as, string_at, counted_at, many_from}
use Rattle.tx_codec.specs.declared.fault.TxFault.{TxFault}
use Rattle.tx_codec.specs.declared.fault.TxFault.TheVariants.{ValueRange, NoInputs, NoOutputs, BadFlag, EmptyWitness, Memory}
use Rattle.tx_codec.specs.declared.tx.TxIn.{TxIn}
use Rattle.tx_codec.specs.declared.tx.TxOut.{TxOut}
use Rattle.tx_codec.specs.Fault.{cut_fault}
use Rattle.tx_codec.specs.Transaction.{Transaction}

abbrev pub cut : {A : Type 0} → Result A CutFault → Result A TxFault
cut read = cut_as cut_fault read

-- an input, whose witness stands elsewhere
unfoldable pub input_at : At → Result (TxIn × At) TxFault
input_at at = do
  txid ← cut (take_at 32 at)
  index ← cut (number_at w32 txid.1)
  script ← cut (string_at index.1)
  sequence ← cut (number_at w32 script.1)
  Ok (record { prev = record { txid = txid.0; index = index.0 }; script = script.0; sequence = sequence.0; witness = [] }, sequence.1)

-- The output of this index, after others of this sum. Its value is tested before its script is read;
-- an index that doesn't fit the fault counts as the greatest that does.
unfoldable pub output_at : ℕ → ℕ → At → Result (TxOut × At) TxFault
output_at index sum at = do
  value ← cut (number_at w64 at)
  if nat_lt 2_100_000_000_000_000 (sum + value.0) then Err (ValueRange (min index 4_294_967_295)) else do
    script ← cut (string_at value.1)
    Ok (record { value = value.0; script = script.0 }, script.1)

-- an output after those before it
abbrev pub output_in : List TxOut → At → Result (TxOut × At) TxFault
output_in before at = output_at (length before) (sum_by (λ (o : TxOut). o.value) before) at

-- a count that isn't 0, and so many items
unfoldable pub some_at : {X : Type 0} → TxFault → (List X → At → Result (X × At) TxFault) → At → Result (List X × At) TxFault
some_at none item at = do
  n ← cut (compact_at at)
  if n.0 == 0 then Err none else many_from item n.0 [] n.1

abbrev pub inputs_at : At → Result (List TxIn × At) TxFault
inputs_at at = some_at NoInputs (λ _. input_at) at

abbrev pub outputs_at : At → Result (List TxOut × At) TxFault
outputs_at at = some_at NoOutputs output_in at

-- one byte string of a witness
abbrev pub item_at : At → Result (List ℕ × At) TxFault
item_at at = cut (string_at at)

-- a witness
abbrev pub stack_at : At → Result (List (List ℕ) × At) TxFault
stack_at at = counted_at cut_fault item_at at

-- the witness of each input
unfoldable pub stacks_at : List TxIn → At → Result (List TxIn × At) TxFault
stacks_at [] at = Ok ([], at)
stacks_at (i ∷ inputs) at = do
  stack ← stack_at at
  others ← stacks_at inputs stack.1
  Ok (record i { witness = stack.0 } ∷ others.0, others.1)

-- no witness holds anything
abbrev pub are_empty : List TxIn → Bool
are_empty inputs = list_all (λ (i : TxIn). length i.witness == 0) inputs

-- after the version, the legacy form
unfoldable pub legacy_at : ℕ → At → Result (Transaction × At) TxFault
legacy_at version at = do
  inputs ← inputs_at at
  outputs ← outputs_at inputs.1
  locktime ← cut (number_at w32 outputs.1)
  Ok (record { version = version; inputs = inputs.0; outputs = outputs.0; locktime = locktime.0; segwit = false }, locktime.1)

-- the segregated form, after marker and flag
unfoldable pub witnessed_at : ℕ → At → Result (Transaction × At) TxFault
witnessed_at version at = do
  inputs ← inputs_at at
  outputs ← outputs_at inputs.1
  stacks ← stacks_at inputs.0 outputs.1
  if are_empty stacks.0 then Err EmptyWitness else do
    locktime ← cut (number_at w32 stacks.1)
    Ok (record { version = version; inputs = stacks.0; outputs = outputs.0; locktime = locktime.0; segwit = true }, locktime.1)

-- the segregated form, after the marker
unfoldable pub segregated_at : ℕ → At → Result (Transaction × At) TxFault
segregated_at version at = do
  flag ← cut (take_at 1 at)
  if slice_index flag.0 0 == 1 then witnessed_at version flag.1 else Err BadFlag

-- a marker 00 stands where the legacy form has the number of inputs
abbrev pub is_marked : List ℕ → Bool
is_marked [] = false
is_marked (b ∷ rest) = b == 0

-- a number of inputs that isn't 0 stands there, and the first of them, whole
abbrev pub HasInput : At → Type 0
HasInput at = IsOkAnd (compact_at at) (λ n. (n.0 ≢ 0) × IsOk (input_at n.1))

-- an input stands there, after the marker: the flag is 01
abbrev pub BeginsSegregated : At → Type 0
BeginsSegregated at = IsOkAnd (take_at 1 at) (λ flag. (slice_index flag.0 0 ≡ 1) × HasInput flag.1)

-- An input stands after the version, in one form or the other.
pub record BeginsInputs (at : At) : Type 0 where
  pub legacy : is_marked at.rest ≡ false → HasInput at
  pub segregated : is_marked at.rest ≡ true → BeginsSegregated (after 1 at)

-- a transaction
unfoldable pub tx_at : At → Result (Transaction × At) TxFault
tx_at at = do
  version ← cut (number_at w32 at)
  if is_marked version.1.rest then segregated_at version.0 (after 1 version.1) else legacy_at version.0 version.1

-- a transaction in the legacy form, where no marker is looked for
unfoldable pub legacy_tx_at : At → Result (Transaction × At) TxFault
legacy_tx_at at = do
  version ← cut (number_at w32 at)
  legacy_at version.0 version.1

-- What was read is this transaction, and the cursor stands after it, unless memory ran out.
abbrev pub IsRead : Transaction → List ℕ → At → Result Transaction TxFault → Type 0
IsRead tx rest new result = MatchResult result (λ t. (t ≡ tx) × (new.rest ≡ rest)) (λ e. e ≡ Memory)
