-- What is true of every wallet.
use Rattle.std.specs.Prelude.{ℕ, ◌≡◌, ◌≢◌, ◌≤◌, ◌<◌, List, ◌∷◌, ◌++◌, length, map, slice_index_or, All, AllPairs, Contains}
use Rattle.fund_base.specs.Cursor.{IsBytes}
use Rattle.json_fields.specs.Fields.{IsHash, IsPoint}
use Rattle.tx_codec.specs.Transaction.{Transaction}
use Rattle.tx_codec.specs.TransactionText.{IsTransaction}
use Rattle.tx_codec.specs.Txid.{txid_of}
use Rattle.tx_codec.specs.declared.tx.TxIn.{TxIn}
use Rattle.wallet_text.specs.PlainWallet.{Earlier, PlainWallet}
use Rattle.wallet_text.specs.declared.wallet.Watch.{Watch}

-- a script of 1 to 10,000 bytes, and a weight that an input can have
pub record IsWatch (w : Watch) : Type 0 where
  pub some : 0 < length w.script
  pub most : length w.script ≤ 10_000
  pub bytes : IsBytes w.script
  pub least_weight : 165 ≤ w.weight
  pub most_weight : w.weight ≤ 400_000

-- no input of the one spends an output of the other
abbrev pub SpendsNone : Transaction → Transaction → Type 0
SpendsNone t other = All (λ (i : TxIn). i.prev.txid ≢ txid_of other) t.inputs

-- No transaction spends an output of itself or of one after it: each parent stands before its children.
abbrev pub ParentsComeFirst : List Transaction → Type 0
ParentsComeFirst ts = (i j : ℕ) (d : Transaction) → i ≤ j → j < length ts → SpendsNone (slice_index_or ts i d) (slice_index_or ts j d)

-- no two scripts are the same
abbrev pub AreDistinctScripts : List Watch → Type 0
AreDistinctScripts ws = AllPairs (λ (v w : Watch). v.script ≢ w.script) ws

-- no two transactions have the same txid
abbrev pub AreDistinct : List Transaction → Type 0
AreDistinct ts = AllPairs (λ s t. txid_of s ≢ txid_of t) ts

-- no two earlier ones have
abbrev pub AreDistinctEarlier : List Earlier → Type 0
AreDistinctEarlier es = AllPairs (λ (d e : Earlier). txid_of d.tx ≢ txid_of e.tx) es

-- an earlier transaction has a text, and a height that is at most that of the wallet
pub record IsEarlier (most : ℕ) (e : Earlier) : Type 0 where
  pub tx : IsTransaction e.tx
  pub height : e.height ≤ most

pub record IsWallet (w : PlainWallet) : Type 0 where
  pub height : w.height ≤ 100_000_000
  pub hash : IsHash w.hash
  pub scripts : All IsWatch w.scripts
  pub scripts_distinct : AreDistinctScripts w.scripts
  pub change : IsWatch w.change
  pub earlier : All (IsEarlier w.height) w.earlier
  pub earlier_distinct : AreDistinctEarlier w.earlier
  pub pending : All IsTransaction w.pending
  pub pending_distinct : AreDistinct w.pending
  pub parents : ParentsComeFirst w.pending
  pub abandoned : All IsHash w.abandoned
  pub locked : All IsPoint w.locked

-- some input of the transaction spends an output of one of these
abbrev pub SpendsOneOf : List Transaction → Transaction → Type 0
SpendsOneOf ts t = (i : TxIn) × Contains t.inputs i × Contains (map txid_of ts) i.prev.txid

-- the first place whose transaction spends an output of itself or of one after it
pub record IsFirstLater (ts : List Transaction) (place : ℕ) : Type 0 where
  pub front : List Transaction
  pub tx : Transaction
  pub back : List Transaction
  pub parts : ts ≡ front ++ tx ∷ back
  pub place_is : place ≡ length front
  pub spends : SpendsOneOf (tx ∷ back) tx
  pub before : (i j : ℕ) (d : Transaction) → i < length front → i ≤ j → j < length ts → SpendsNone (slice_index_or ts i d) (slice_index_or ts j d)
