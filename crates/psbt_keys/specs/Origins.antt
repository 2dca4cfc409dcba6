-- The pairs of a PSBT's maps that tell a signer of keys and scripts: BIP 174, 'Specification', and for taproot BIP 371,
-- 'Specification'. The type of each is one byte.
use Rattle.std.specs.Prelude.{ℕ, List, [], ◌∷◌, ◌++◌, map, slice_get, bytes_eq, Option, Some, None, option_map}
use Rattle.std.specs.Int.{w32, to_le_bytes}
use Rattle.std.specs.List.{find, flat_map, zip}
use Rattle.tx_codec.specs.declared.tx.TxIn.{TxIn}
use Rattle.tx_codec.specs.declared.tx.TxOut.{TxOut}
use Rattle.tx_codec.specs.Transaction.{Transaction}
use Rattle.psbt_codec.specs.declared.psbt.Spent.{Spent}
use Rattle.psbt_codec.specs.Psbt.{Pair}
use Rattle.keys_text.specs.PlainKeys.{PlainEntry, PlainKeyPath, PlainKeys, PlainScriptKeys}
use Rattle.psbt_keys.specs.declared.due.PairTypes.{PairTypes}
use Rattle.psbt_keys.specs.Pairs.{pair_of_type}

-- ---- the pair of a key or a script

-- How a key is derived: the fingerprint of the master key, and the index of each step in four bytes, the low byte first (BIP
-- 174, `PSBT_IN_BIP32_DERIVATION`).
abbrev pub origin_text : PlainKeyPath → List ℕ
origin_text k = k.fingerprint ++ flat_map (to_le_bytes w32) k.path

-- the pair of a key, whose value is how it is derived, behind these bytes
abbrev pub path_pair : List ℕ → ℕ → PlainKeyPath → Pair
path_pair before kind k = pair_of_type kind k.key (before ++ origin_text k)

-- the pair of bytes that are known, or none
abbrev pub known_pair : ℕ → Option (List ℕ) → List Pair
known_pair kind None = []
known_pair kind (Some bytes) = pair_of_type kind [] bytes ∷ []

-- The pairs of the keys. Where there is an internal key the script pays to taproot, and the key is that one: before how it is
-- derived stands the number of leaves that it is in (BIP 371, `PSBT_IN_TAP_BIP32_DERIVATION`), which is 0.
abbrev pub key_pairs : PairTypes → Option (List ℕ) → List PlainKeyPath → List Pair
key_pairs types None keys = map (path_pair [] types.key) keys
key_pairs types (Some internal) keys = map (path_pair (0 ∷ []) types.taproot) keys

-- ---- the pairs of a script

-- in an input's map: types 04, 05 and 06 of BIP 174, and 17 and 16 of BIP 371
abbrev pub types_of_input : PairTypes
types_of_input = record { redeem = 4; witness = 5; internal = 23; key = 6; taproot = 22 }

-- in an output's map: types 00, 01 and 02 of BIP 174, and 05 and 07 of BIP 371
abbrev pub types_of_output : PairTypes
types_of_output = record { redeem = 0; witness = 1; internal = 5; key = 2; taproot = 7 }

-- the redeem script, the witness script, the internal key, and the keys
abbrev pub script_pairs : PairTypes → PlainScriptKeys → List Pair
script_pairs types s =
    known_pair types.redeem s.redeem
    ++ (known_pair types.witness s.witness ++ (known_pair types.internal s.internal ++ key_pairs types s.internal s.keys))

abbrev pub entry_pairs : PairTypes → Option PlainEntry → List Pair
entry_pairs types None = []
entry_pairs types (Some e) = script_pairs types e.known

-- the entry of a script
abbrev pub entry_of : List PlainEntry → List ℕ → Option PlainEntry
entry_of entries script = find (λ (e : PlainEntry). bytes_eq e.script script) entries

-- what is due in the map of a script: the pairs of its entry, and nothing where it has none or isn't known
abbrev pub due_for : PairTypes → List PlainEntry → Option (List ℕ) → List Pair
due_for types entries None = []
due_for types entries (Some script) = entry_pairs types (entry_of entries script)

-- ---- the pairs of a PSBT

-- the output of this index of a whole transaction, and where that isn't known the one that is told by itself
abbrev pub spent_output : ℕ → Option Transaction → Option TxOut → Option TxOut
spent_output index (Some whole) paid = slice_get whole.outputs index
spent_output index None paid = paid

-- The script of the output that an input spends. The whole transaction goes first, since the input tells its txid.
abbrev pub spent_script : TxIn × Spent → Option (List ℕ)
spent_script k = option_map (λ (o : TxOut). o.script) (spent_output k.0.prev.index k.1.whole k.1.paid)

-- what is due in the global map: type 01 of BIP 174 for each extended public key
abbrev pub global_due : PlainKeys → List Pair
global_due k = map (path_pair [] 1) k.xpubs

-- what is due in each input's map
abbrev pub input_dues : PlainKeys → List TxIn → List Spent → List (List Pair)
input_dues k inputs spent = map (λ (s : TxIn × Spent). due_for types_of_input k.scripts (spent_script s)) (zip inputs spent)

-- what is due in each output's map
abbrev pub output_dues : PlainKeys → List TxOut → List (List Pair)
output_dues k outputs = map (λ (o : TxOut). due_for types_of_output k.scripts (Some o.script)) outputs
