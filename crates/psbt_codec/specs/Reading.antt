-- Reading a PSBT from left to right, with the first fault in reading order (BIP 174 and BIP 370, 'Specification').
use Rattle.std.specs.Prelude.{ℕ, zero, suc, ◌+◌, ◌==◌, Bool, true, false, not, ◌&&◌, ◌||◌, List, [], ◌∷◌, ◌++◌, length, map, sum_by, take, bytes_eq, nat_lt, Option, Some, None, option_map, option_and_then, is_some, Result, Ok, Err, ⊤, if◌then◌else◌}
use Rattle.std.specs.Result.{result_ok}
use Rattle.std.specs.Int.{w32, w64}
use Rattle.std.specs.List.{find, list_any, list_all}
use Rattle.fund_base.specs.declared.cursor.CutFault.{CutFault}
use Rattle.fund_base.specs.declared.cursor.CutFault.TheVariants as cuts
use Rattle.fund_base.specs.Cursor.{At, after, take_at, number_at, compact_at}
use Rattle.fund_base.specs.Parsing.{◌>>=◌, fault_as, string_at, whole_of, many_from}
use Rattle.tx_codec.specs.declared.fault.TxFault.TheVariants as txs
use Rattle.tx_codec.specs.declared.tx.TxIn.{TxIn}
use Rattle.tx_codec.specs.declared.tx.TxOut.{TxOut}
use Rattle.tx_codec.specs.Reading.{tx_at, legacy_tx_at, output_at}
use Rattle.tx_codec.specs.Transaction.{Transaction}
use Rattle.tx_codec.specs.Txid.{txid_of}
use Rattle.psbt_codec.specs.declared.fault.PsbtFault.{PsbtFault}
use Rattle.psbt_codec.specs.declared.fault.PsbtFault.TheVariants.{Magic, Truncated, RepeatKey, NoUnsigned, Unsigned, NotBare, Field, Version, WrongParent, Trailing, Mixed, Lacking, RequiredLock}
use Rattle.psbt_codec.specs.declared.counts.Counts.{Counts}
use Rattle.psbt_codec.specs.declared.pairs.Part.{Part}
use Rattle.psbt_codec.specs.declared.pairs.Part.TheVariants.{Global, Input, Output, InputFields, OutputFields}
use Rattle.psbt_codec.specs.declared.psbt.Spent.{Spent}
use Rattle.psbt_codec.specs.declared.psbt.Versioned.{Versioned}
use Rattle.psbt_codec.specs.Fault.{cut_fault, type_fault, unsigned_fault, shown}
use Rattle.psbt_codec.specs.PartialTransaction.{PartialTransaction}
use Rattle.psbt_codec.specs.Psbt.{Pair, magic, pair_text}

abbrev pub cut : {A : Type 0} → Result A CutFault → Result A PsbtFault
cut read = fault_as cut_fault read

-- the bytes from the first on
abbrev pub start : List ℕ → At
start bytes = record { rest = bytes; place = 0 }

-- ---- values

-- the transaction that the bytes are, all of them
abbrev pub tx_in : List ℕ → Option Transaction
tx_in bytes = result_ok (whole_of txs.Trailing (tx_at (start bytes)))

-- the output that the bytes are, all of them, of at most 21,000,000 bitcoin
unfoldable pub paid_in : List ℕ → Option TxOut
paid_in bytes = result_ok (whole_of txs.Trailing (output_at 0 0 (start bytes)))

-- what bytes are, all of them, where they are something
abbrev pub all_of : {X : Type 0} → Result (X × At) CutFault → Option X
all_of read = result_ok (whole_of cuts.Truncated read)

-- the number that the bytes are: of four, of eight, or in CompactSize
unfoldable pub number32_in : List ℕ → Option ℕ
number32_in bytes = all_of (number_at w32 (start bytes))

unfoldable pub number64_in : List ℕ → Option ℕ
number64_in bytes = all_of (number_at w64 (start bytes))

unfoldable pub count_in : List ℕ → Option ℕ
count_in bytes = all_of (compact_at (start bytes))

-- the txid that the bytes are
unfoldable pub txid_in : List ℕ → Option (List ℕ)
txid_in bytes = all_of (take_at 32 (start bytes))

-- ---- a pair

-- the types that have a meaning in a map of this part; of the global map those whose key shows at once that it is wrong
abbrev pub has_meaning : Part → ℕ → Bool
has_meaning Global kind = kind == 0 || kind == 251
has_meaning Input kind = kind == 0 || kind == 1
has_meaning Output kind = false
has_meaning InputFields kind = (kind == 0 || kind == 1) || (kind == 14 || (kind == 15 || kind == 16))
has_meaning OutputFields kind = kind == 3 || kind == 4

-- the type that a key begins with; one that has a meaning is the whole key
unfoldable pub kind_in : Part → ℕ → ℕ → List ℕ → Result ℕ PsbtFault
kind_in part pair_place key_place key = do
  kind ← fault_as (type_fault pair_place key_place) (compact_at (start key))
  if has_meaning part kind.0 && not (length kind.1.rest == 0) then Err (Field pair_place) else Ok kind.0

-- a value that a test finds right, or a fault
abbrev pub unless : Bool → PsbtFault → Result ⊤ PsbtFault
unless right fault = if right then Ok tt else Err fault

-- a value of an input: a whole transaction under type 00, a whole output under type 01
abbrev pub spent_fits : ℕ → List ℕ → Bool
spent_fits kind value = if kind == 0 then is_some (tx_in value) else if kind == 1 then is_some (paid_in value) else true

-- a value of an input in version 2: besides these a txid under type 0E, and numbers under types 0F and 10
abbrev pub input_field_fits : ℕ → List ℕ → Bool
input_field_fits kind value =
    if kind == 14 then is_some (txid_in value)
    else if kind == 15 || kind == 16 then is_some (number32_in value)
    else true

-- a value of a map of this part is of the form that its type asks for
abbrev pub form_fits : Part → ℕ → List ℕ → Bool
form_fits Global kind value = if kind == 251 then is_some (number32_in value) else true
form_fits Input kind value = spent_fits kind value
form_fits Output kind value = true
form_fits InputFields kind value = spent_fits kind value && input_field_fits kind value
form_fits OutputFields kind value = if kind == 3 then is_some (number64_in value) else true

unfoldable pub value_fits : Part → ℕ → ℕ → List ℕ → Result ⊤ PsbtFault
value_fits part place kind value = unless (form_fits part kind value) (Field place)

-- some pair has this key
abbrev pub has_key : List ℕ → List Pair → Bool
has_key key pairs = list_any (λ (p : Pair). bytes_eq p.key key) pairs

-- the pair of a key of so many bytes, after others of its map
unfoldable pub keyed_at : Part → List Pair → ℕ → ℕ → At → Result (Pair × At) PsbtFault
keyed_at part before place len at = do
  key ← cut (take_at len at)
  if has_key key.0 before then Err (RepeatKey place) else do
    kind ← kind_in part place at.place key.0
    value ← cut (string_at key.1)
    fits ← value_fits part place kind value.0
    Ok (record { key = key.0; value = value.0 }, value.1)

abbrev pub some_pair : Pair × At → Result (Option Pair × At) PsbtFault
some_pair read = Ok (Some read.0, read.1)

-- the next pair after others of its map, or none where the map ends
unfoldable pub pair_at : Part → List Pair → At → Result (Option Pair × At) PsbtFault
pair_at part before at = do
  len ← cut (compact_at at)
  if len.0 == 0 then Ok (None, len.1) else (keyed_at part before at.place len.0 len.1 >>= some_pair)

-- ---- a map

-- what was read ends the map, or is a pair after which reading goes on
abbrev pub ends_or : {X : Type 0} → List Pair → (List Pair → At → Result X PsbtFault) → (List Pair → At → X) → Option Pair × At → Result X PsbtFault
ends_or before go_on end (None, at) = Ok (end before at)
ends_or before go_on end (Some pair, at) = go_on (before ++ pair ∷ []) at

-- the rest of a map, of fewer than so many pairs
unfoldable pub pairs_within : ℕ → Part → List Pair → At → Result (List Pair × At) PsbtFault
pairs_within zero part before at = Err (Truncated at.place)
pairs_within (suc n) part before at = pair_at part before at >>= ends_or before (λ pairs next. pairs_within n part pairs next) (λ pairs next. (pairs, next))

-- a map; it has fewer pairs than bytes are left
abbrev pub map_at : Part → At → Result (List Pair × At) PsbtFault
map_at part at = pairs_within (length at.rest) part [] at

-- the value of the pair of this type, whose key is one byte
abbrev pub value_of : ℕ → List Pair → Option (List ℕ)
value_of kind pairs = option_map (λ (p : Pair). p.value) (find (λ (p : Pair). bytes_eq p.key (kind ∷ [])) pairs)

-- ---- the maps of version 0

abbrev pub are_bare : List TxIn → Bool
are_bare inputs = list_all (λ (i : TxIn). length i.script == 0) inputs

-- the unsigned transaction that the bytes are
unfoldable pub unsigned_in : List ℕ → Result Transaction PsbtFault
unsigned_in bytes = do
  tx ← fault_as unsigned_fault (whole_of txs.Trailing (legacy_tx_at (start bytes)))
  if are_bare tx.inputs then Ok tx else Err NotBare

abbrev pub unsigned_of : Option (List ℕ) → Result Transaction PsbtFault
unsigned_of None = Err NoUnsigned
unsigned_of (Some bytes) = unsigned_in bytes

-- the input spends an output of this transaction
abbrev pub is_parent : TxIn → Transaction → Bool
is_parent input whole = bytes_eq (txid_of whole) input.prev.txid && nat_lt input.prev.index (length whole.outputs)

-- what an input's pairs say of the output that it spends
abbrev pub spent_in : List Pair → Spent
spent_in pairs = record { whole = option_and_then tx_in (value_of 0 pairs); paid = option_and_then paid_in (value_of 1 pairs) }

abbrev pub fits_input : TxIn → Option Transaction → Bool
fits_input input None = true
fits_input input (Some whole) = is_parent input whole

-- the map of the input of this index
unfoldable pub input_at : ℕ → TxIn → At → Result (Spent × At) PsbtFault
input_at index input at = do
  pairs ← map_at Input at
  if fits_input input (spent_in pairs.0).whole then Ok (spent_in pairs.0, pairs.1) else Err (WrongParent (shown index))

-- One part for each of a list, one after the other, with what was read before.
unfoldable pub each_at : {S X : Type 0} → (S → X → At → Result (S × At) PsbtFault) → S → List X → At → Result (S × At) PsbtFault
each_at part before [] at = Ok (before, at)
each_at part before (x ∷ xs) at = do
  read ← part before x at
  each_at part read.0 xs read.1

-- the map of the next input
unfoldable pub next_input_at : List Spent → TxIn → At → Result (List Spent × At) PsbtFault
next_input_at before input at = do
  spent ← input_at (length before) input at
  Ok (before ++ spent.0 ∷ [], spent.1)

-- the map of an output, of which nothing is kept
unfoldable pub next_output_at : ⊤ → TxOut → At → Result (⊤ × At) PsbtFault
next_output_at before output at = do
  pairs ← map_at Output at
  Ok (tt, pairs.1)

-- what stands behind the pairs of the global map
unfoldable pub whole_at : List Pair → At → Result (PartialTransaction × At) PsbtFault
whole_at pairs at = do
  tx ← unsigned_of (value_of 0 pairs)
  spent ← each_at next_input_at [] tx.inputs at
  outputs ← each_at next_output_at tt tx.outputs spent.1
  Ok (record { tx = tx; spent = spent.0 }, outputs.1)

-- ---- the global map of version 2

-- a key begins with this type, which takes one byte
abbrev pub begins : ℕ → List ℕ → Bool
begins kind [] = false
begins kind (first ∷ rest) = first == kind

-- a value is of the form that this type asks for in the global map; no value is right under type 00
abbrev pub field_fits : ℕ → List ℕ → Bool
field_fits kind value =
    if kind == 0 then false
    else if kind == 2 || kind == 3 then is_some (number32_in value)
    else is_some (count_in value)

-- a pair of this type that isn't as the type asks, by its value or by key data
abbrev pub is_wrong : ℕ → Pair → Bool
is_wrong kind p = begins kind p.key && not (length p.key == 1 && field_fits kind p.value)

-- the fault of such a pair at this place
abbrev pub wrong_fault : ℕ → ℕ → PsbtFault
wrong_fault kind place = if kind == 0 then Mixed place else Field place

-- the first such pair among those from this place on
unfoldable pub right_from : ℕ → ℕ → List Pair → Result ⊤ PsbtFault
right_from kind place [] = Ok tt
right_from kind place (p ∷ pairs) =
    if is_wrong kind p then Err (wrong_fault kind place)
    else right_from kind (place + length (pair_text p)) pairs

-- what a required type tells
abbrev pub needed : {X : Type 0} → ℕ → Option X → Result X PsbtFault
needed kind None = Err (Lacking kind)
needed kind (Some x) = Ok x

-- what a type tells that may be missing
abbrev pub told_or : {X : Type 0} → X → Option X → X
told_or without None = without
told_or without (Some x) = x

-- each pair of the types that have a meaning is right, type by type in rising order
unfoldable pub forms_at : ℕ → List Pair → Result ⊤ PsbtFault
forms_at place pairs = do
  unmixed ← right_from 0 place pairs
  version ← right_from 2 place pairs
  locktime ← right_from 3 place pairs
  inputs ← right_from 4 place pairs
  right_from 5 place pairs

-- what the pairs of the global map tell, which begins at this place
unfoldable pub counts_at : ℕ → List Pair → Result Counts PsbtFault
counts_at place pairs = do
  forms ← forms_at place pairs
  version ← needed 2 (option_and_then number32_in (value_of 2 pairs))
  inputs ← needed 4 (option_and_then count_in (value_of 4 pairs))
  outputs ← needed 5 (option_and_then count_in (value_of 5 pairs))
  if inputs == 0 then Err (Unsigned txs.NoInputs) else
      if outputs == 0 then Err (Unsigned txs.NoOutputs) else
      Ok (record { version = version; locktime = told_or 0 (option_and_then number32_in (value_of 3 pairs)); inputs = inputs; outputs = outputs })

-- ---- the other maps of version 2

-- some pair asks for a lock time
abbrev pub has_lock : List Pair → Bool
has_lock pairs = list_any (λ (p : Pair). begins 17 p.key || begins 18 p.key) pairs

-- the sequence that the pairs tell: FFFFFFFF where there is none
abbrev pub sequence_in : List Pair → ℕ
sequence_in pairs = told_or 4_294_967_295 (option_and_then number32_in (value_of 16 pairs))

-- an unsigned input
abbrev pub unsigned_input : List ℕ → ℕ → ℕ → TxIn
unsigned_input txid index sequence = record { prev = record { txid = txid; index = index }; script = []; sequence = sequence; witness = [] }

-- the input that the pairs tell, at this index
unfoldable pub input_in : ℕ → List Pair → Result TxIn PsbtFault
input_in number pairs = do
  txid ← needed 14 (option_and_then txid_in (value_of 14 pairs))
  index ← needed 15 (option_and_then number32_in (value_of 15 pairs))
  if has_lock pairs then Err (RequiredLock (shown number)) else Ok (unsigned_input txid index (sequence_in pairs))

-- the map of the input of this index
unfoldable pub input_fields_at : ℕ → At → Result ((TxIn × Spent) × At) PsbtFault
input_fields_at number at = do
  pairs ← map_at InputFields at
  input ← input_in number pairs.0
  if fits_input input (spent_in pairs.0).whole then Ok ((input, spent_in pairs.0), pairs.1) else Err (WrongParent (shown number))

-- the map of the input behind these
abbrev pub next_input_fields : List (TxIn × Spent) → At → Result ((TxIn × Spent) × At) PsbtFault
next_input_fields before at = input_fields_at (length before) at

-- the output that the pairs tell, at this index and behind others of this sum
unfoldable pub output_in : ℕ → ℕ → List Pair → Result TxOut PsbtFault
output_in number sum pairs = do
  value ← needed 3 (option_and_then number64_in (value_of 3 pairs))
  script ← needed 4 (value_of 4 pairs)
  if nat_lt 2_100_000_000_000_000 (sum + value) then Err (Unsigned (txs.ValueRange (shown number))) else Ok (record { value = value; script = script })

-- the map of an output of this index, behind others of this sum
unfoldable pub output_fields_at : ℕ → ℕ → At → Result (TxOut × At) PsbtFault
output_fields_at number sum at = do
  pairs ← map_at OutputFields at
  output ← output_in number sum pairs.0
  Ok (output, pairs.1)

-- the map of the output behind these
abbrev pub next_output_fields : List TxOut → At → Result (TxOut × At) PsbtFault
next_output_fields before at = output_fields_at (length before) (sum_by (λ (o : TxOut). o.value) before) at

-- the payment of these inputs and outputs
abbrev pub payment_of : Counts → List (TxIn × Spent) → List TxOut → PartialTransaction
payment_of counts inputs outputs = record {
  tx = record { version = counts.version; inputs = map (λ (k : TxIn × Spent). k.0) inputs; outputs = outputs; locktime = counts.locktime; segwit = false };
  spent = map (λ (k : TxIn × Spent). k.1) inputs;
}

-- what stands behind the pairs of the global map, which begins at this place
unfoldable pub fields_at : ℕ → List Pair → At → Result (PartialTransaction × At) PsbtFault
fields_at place pairs at = do
  counts ← counts_at place pairs
  inputs ← many_from next_input_fields counts.inputs [] at
  outputs ← many_from next_output_fields counts.outputs [] inputs.1
  Ok (payment_of counts inputs.0 outputs.0, outputs.1)

-- ---- the whole

-- the magic
abbrev pub magic_at : At → Result (⊤ × At) PsbtFault
magic_at at = if bytes_eq (take 5 at.rest) magic then Ok (tt, after 5 at) else Err Magic

-- the version that the pairs of the global map tell: 0 where none tells one
abbrev pub version_of : List Pair → ℕ
version_of pairs = told_or 0 (option_and_then number32_in (value_of 251 pairs))

-- a PSBT of this version
abbrev pub of_version : ℕ → PartialTransaction → Versioned
of_version version p = record { version = version; psbt = p }

abbrev pub in_version : ℕ → PartialTransaction × At → Result (Versioned × At) PsbtFault
in_version version read = Ok (of_version version read.0, read.1)

-- the maps behind the global one, which begins at this place and has these pairs
unfoldable pub behind_global : ℕ → List Pair → At → Result (Versioned × At) PsbtFault
behind_global place pairs at =
    if version_of pairs == 0 then whole_at pairs at >>= in_version 0
    else if version_of pairs == 2 then fields_at place pairs at >>= in_version 2
    else Err (Version (version_of pairs))

-- the maps
unfoldable pub maps_at : At → Result (Versioned × At) PsbtFault
maps_at at = do
  pairs ← map_at Global at
  behind_global at.place pairs.0 pairs.1

unfoldable pub psbt_at : At → Result (Versioned × At) PsbtFault
psbt_at at = do
  first ← magic_at at
  maps_at first.1

-- the PSBT that the bytes are, all of them, and its version, or the first fault in reading order
abbrev pub versioned_of : List ℕ → Result Versioned PsbtFault
versioned_of bytes = whole_of Trailing (psbt_at (start bytes))

-- what was read without its version
abbrev pub unversioned : Result Versioned PsbtFault → Result PartialTransaction PsbtFault
unversioned (Ok read) = Ok read.psbt
unversioned (Err e) = Err e

-- the PSBT that the bytes are, all of them, or the first fault in reading order
abbrev pub read_of : List ℕ → Result PartialTransaction PsbtFault
read_of bytes = unversioned (versioned_of bytes)
