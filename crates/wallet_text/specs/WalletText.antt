-- The wallet file: the wallet that it is, or its first fault.
use Rattle.std.specs.Prelude.{ℕ, suc, ◌&&◌, ◌||◌, Bool, false, List, [], ◌∷◌, ◌++◌, length, map, min, codes, nat_lt, nat_le, not, if◌then◌else◌, Option, Some, None, Result, Ok, Err, ⊤}
use Rattle.std.specs.List.{list_any}
use Rattle.serde_json.specs.Data.{Data}
use Rattle.serde_json.specs.Find.{get}
use Rattle.fund_base.specs.Parsing.{◌>>=◌, fault_as, whole_of}
use Rattle.fund_base.specs.declared.outpoint.OutPoint.{OutPoint}
use Rattle.json_fields.specs.Fields.{value_of, object_at, member_at, optional, number_at, hex_at, hash_at, coin_at, entries_at, each_from, is_among, refuse}
use Rattle.json_fields.specs.declared.fault.FieldFault.{FieldFault}
use Rattle.tx_codec.specs.Reading.{tx_at}
use Rattle.tx_codec.specs.Transaction.{Transaction}
use Rattle.tx_codec.specs.Txid.{txid_of}
use Rattle.tx_codec.specs.declared.fault.TxFault.TheVariants.{Trailing}
use Rattle.tx_codec.specs.declared.tx.TxIn.{TxIn}
use Rattle.wallet_text.specs.PlainWallet.{Earlier, PlainWallet}
use Rattle.wallet_text.specs.declared.fault.Refusal.{Refusal}
use Rattle.wallet_text.specs.declared.fault.Refusal.TheVariants.{Field, Script, Weight, Tx, Repeat, ParentLater}
use Rattle.wallet_text.specs.declared.wallet.Watch.{Watch}

-- a fault of the form
abbrev pub field : {A : Type 0} → Result A FieldFault → Result A Refusal
field read = fault_as Field read

-- a place in a list as a fault tells it
abbrev pub told_index : ℕ → ℕ
told_index i = min i 4294967295

-- ---- scripts and change

abbrev pub watch_names : List (List ℕ)
watch_names = codes "script" ∷ codes "weight" ∷ []

-- an object of a script and a weight
unfoldable pub watch_at : List ℕ → Data → Result Watch FieldFault
watch_at whole d = do
  object ← object_at whole watch_names watch_names d
  s ← member_at (codes "script") d
  script ← hex_at (codes "script") s
  w ← member_at (codes "weight") d
  weight ← number_at (codes "weight") 18446744073709551615 w
  Ok (record { script = script; weight = weight })

-- 1 to 10,000 bytes
abbrev pub has_script_length : List ℕ → Bool
has_script_length script = nat_lt 0 (length script) && nat_le (length script) 10000

-- The rules of an entry at this place, which may be listed before it.
unfoldable pub judged : Bool → ℕ → Watch → Result Watch Refusal
judged listed index w =
    if listed || not (has_script_length w.script) then Err (Script (told_index index))
    else if nat_lt w.weight 165 || nat_lt 400000 w.weight then Err (Weight (told_index index))
    else Ok w

-- the scripts of entries
abbrev pub scripts_of : List Watch → List (List ℕ)
scripts_of ws = map (λ (w : Watch). w.script) ws

-- an entry of scripts at this place, where these scripts stand before it
unfoldable pub script_in : ℕ → List (List ℕ) → Data → Result Watch Refusal
script_in index before d = do
  w ← field (watch_at (codes "scripts") d)
  judged (is_among before w.script) index w

-- an entry of scripts after others
abbrev pub script_behind : List Watch → Data → Result Watch Refusal
script_behind before d = script_in (length before) (scripts_of before) d

-- the change entry, whose place is the number of scripts
unfoldable pub change_at : ℕ → Data → Result Watch Refusal
change_at count d = do
  w ← field (watch_at (codes "change") d)
  judged false count w

-- ---- transactions

-- the transaction that the bytes are, at this place of a list
unfoldable pub tx_in : List ℕ → ℕ → List ℕ → Result Transaction Refusal
tx_in list index bytes = fault_as (Tx list (told_index index)) (whole_of Trailing (tx_at (record { rest = bytes; place = 0 })))

abbrev pub earlier_names : List (List ℕ)
earlier_names = codes "tx" ∷ codes "height" ∷ []

-- an object of a transaction's bytes and a height
unfoldable pub earlier_at : ℕ → Data → Result (List ℕ × ℕ) FieldFault
earlier_at most d = do
  object ← object_at (codes "earlier") earlier_names earlier_names d
  x ← member_at (codes "tx") d
  bytes ← hex_at (codes "tx") x
  h ← member_at (codes "height") d
  height ← number_at (codes "height") most h
  Ok (bytes, height)

-- an earlier entry at this place, its height at most that of the wallet
unfoldable pub earlier_in : ℕ → ℕ → Data → Result Earlier Refusal
earlier_in most index d = do
  e ← field (earlier_at most d)
  tx ← tx_in (codes "earlier") index e.0
  Ok (record { tx = tx; height = e.1 })

-- an earlier entry after others
abbrev pub earlier_behind : ℕ → List Earlier → Data → Result Earlier Refusal
earlier_behind most before d = earlier_in most (length before) d

-- a pending transaction at this place
unfoldable pub pending_in : ℕ → Data → Result Transaction Refusal
pending_in index d = do
  bytes ← field (hex_at (codes "pending") d)
  tx_in (codes "pending") index bytes

-- a pending transaction after others
abbrev pub pending_behind : List Transaction → Data → Result Transaction Refusal
pending_behind before d = pending_in (length before) d

-- ---- lists

unfoldable pub scripts_at : Data → Result (List Watch) Refusal
scripts_at d = do
  entries ← field (entries_at (codes "scripts") d)
  each_from script_behind [] entries

unfoldable pub earlier_list_at : ℕ → Data → Result (List Earlier) Refusal
earlier_list_at most d = do
  entries ← field (entries_at (codes "earlier") d)
  each_from (earlier_behind most) [] entries

unfoldable pub pending_list_at : Data → Result (List Transaction) Refusal
pending_list_at d = do
  entries ← field (entries_at (codes "pending") d)
  each_from pending_behind [] entries

unfoldable pub abandoned_list_at : Data → Result (List (List ℕ)) FieldFault
abandoned_list_at d = do
  entries ← entries_at (codes "abandoned") d
  each_from (λ _. hash_at (codes "abandoned")) [] entries

unfoldable pub locked_list_at : Data → Result (List OutPoint) FieldFault
locked_list_at d = do
  entries ← entries_at (codes "locked") d
  each_from (λ _. coin_at (codes "locked")) [] entries

-- ---- the rules over whole lists

abbrev pub txids_of : List Transaction → List (List ℕ)
txids_of ts = map txid_of ts

abbrev pub earlier_txids : List Earlier → List (List ℕ)
earlier_txids es = map (λ (e : Earlier). txid_of e.tx) es

-- the first place whose txid stood before it
unfoldable pub repeat_from : List (List ℕ) → List (List ℕ) → Option ℕ
repeat_from before [] = None
repeat_from before (x ∷ xs) = if is_among before x then Some (length before) else repeat_from (before ++ x ∷ []) xs

-- some input spends an output of a transaction of these txids
abbrev pub spends_one_of : List (List ℕ) → Transaction → Bool
spends_one_of txids t = list_any (λ (i : TxIn). is_among txids i.prev.txid) t.inputs

-- of transactions from a place on, the first that spends an output of itself or of one after it
unfoldable pub later_from : ℕ → List Transaction → Option ℕ
later_from index [] = None
later_from index (t ∷ ts) = if spends_one_of (txids_of (t ∷ ts)) t then Some index else later_from (suc index) ts

-- the rules over whole lists, in order
unfoldable pub lists_at : List Earlier → List Transaction → Result ⊤ Refusal
lists_at earlier pending = do
  a ← refuse (λ i. Repeat (codes "earlier") (told_index i)) (repeat_from [] (earlier_txids earlier))
  b ← refuse (λ i. Repeat (codes "pending") (told_index i)) (repeat_from [] (txids_of pending))
  refuse (λ i. ParentLater (told_index i)) (later_from 0 pending)

-- ---- the whole

abbrev pub required_names : List (List ℕ)
required_names = codes "height" ∷ codes "hash" ∷ codes "scripts" ∷ codes "change" ∷ []

abbrev pub known_names : List (List ℕ)
known_names = codes "height" ∷ codes "hash" ∷ codes "scripts" ∷ codes "change" ∷ codes "earlier" ∷ codes "pending" ∷ codes "abandoned" ∷ codes "locked" ∷ []

-- The wallet that a JSON value is: its members in order, then the rules over whole lists.
unfoldable pub wallet_at : Data → Result PlainWallet Refusal
wallet_at d = do
  object ← field (object_at (codes "root") known_names required_names d)
  g ← field (member_at (codes "height") d)
  height ← field (number_at (codes "height") 100000000 g)
  h ← field (member_at (codes "hash") d)
  hash ← field (hash_at (codes "hash") h)
  s ← field (member_at (codes "scripts") d)
  scripts ← scripts_at s
  c ← field (member_at (codes "change") d)
  change ← change_at (length scripts) c
  earlier ← optional [] (earlier_list_at height) (get (codes "earlier") d)
  pending ← optional [] pending_list_at (get (codes "pending") d)
  abandoned ← field (optional [] abandoned_list_at (get (codes "abandoned") d))
  locked ← field (optional [] locked_list_at (get (codes "locked") d))
  lists ← lists_at earlier pending
  Ok (record { height = height; hash = hash; scripts = scripts; change = change; earlier = earlier; pending = pending; abandoned = abandoned; locked = locked })

-- the wallet that the bytes of a file are
unfoldable pub wallet_of : List ℕ → Result PlainWallet Refusal
wallet_of bytes = do
  d ← field (value_of bytes)
  wallet_at d
