-- Why a payment has its state: what its inputs, the chain and the pending list come to.
use Rattle.std.specs.Prelude.{ℕ, ◌≡◌, ◌≢◌, ◌<◌, ◌≤◌, List, length, take, All, Contains, slice_get, Some}
use Rattle.std.specs.List.{Any}
use Rattle.fund_base.specs.declared.outpoint.OutPoint.{OutPoint}
use Rattle.tx_codec.specs.Transaction.{Transaction}
use Rattle.tx_codec.specs.Txid.{txid_of}
use Rattle.tx_codec.specs.declared.tx.TxIn.{TxIn}
use Rattle.coin_book.specs.History.{Confirmed}
use Rattle.coin_book.specs.Spends.{IsSpendOf}
use Rattle.coin_book.specs.declared.coin.Spend.{Spend}
use Rattle.payment_states.specs.PendingView.{PendingView, tx_at}
use Rattle.payment_states.specs.declared.state.State.{State}
use Rattle.payment_states.specs.declared.state.State.TheVariants as state

-- some input of the transaction spends the outpoint
abbrev pub Spends : OutPoint → Transaction → Type 0
Spends o t = Any (λ (x : TxIn). x.prev ≡ o) t.inputs

-- both spend some outpoint
abbrev pub SpendAlike : Transaction → Transaction → Type 0
SpendAlike a b = (o : OutPoint) × Spends o a × Spends o b

-- no transaction of this txid is confirmed
abbrev pub IsUnconfirmed : List Confirmed → List ℕ → Type 0
IsUnconfirmed chain txid = All (λ (c : Confirmed). txid_of c.tx ≢ txid) chain

-- one is, and the first such in chain order stands at this height
pub record IsConfirmedAt (chain : List Confirmed) (txid : List ℕ) (height : ℕ) : Type 0 where
  pub place : ℕ
  pub by : Confirmed
  pub stands : slice_get chain place ≡ Some by
  pub txid_is : txid_of by.tx ≡ txid
  pub height_is : by.height ≡ height
  pub first : IsUnconfirmed (take place chain) txid

-- The transaction at place p of the pending list is a parent of the one at place i, some input of which spends an
-- output of it. One that is confirmed is no parent.
pub record IsParent (w : PendingView) (i p : ℕ) : Type 0 where
  pub stands : p < length w.pending
  pub unconfirmed : IsUnconfirmed w.chain (txid_of (tx_at w p))
  pub spends : Any (λ (x : TxIn). x.prev.txid ≡ txid_of (tx_at w p)) (tx_at w i).inputs

-- The one at place j is the one at place i, or an ancestor: it is reached by going from child to parent. No way goes
-- through one that is confirmed, since that is no parent.
pub data IsKin (w : PendingView) : ℕ → ℕ → Type 0 where
  itself : {i : ℕ} → IsKin w i i
  above : {i p j : ℕ} → IsParent w i p → IsKin w p j → IsKin w i j

-- a confirmed transaction, as s tells it, spends an outpoint that the one at place i or an ancestor spends
abbrev pub Conflicts : PendingView → ℕ → Spend → Type 0
Conflicts w i s = (j : ℕ) × (o : OutPoint) × IsKin w i j × Spends o (tx_at w j) × IsSpendOf w.chain o s

-- none does
abbrev pub HasNoConflict : PendingView → ℕ → Type 0
HasNoConflict w i = (s : Spend) → Conflicts w i s → ⊥

-- the first that does in chain order has this txid
abbrev pub IsConflictedBy : PendingView → ℕ → List ℕ → Type 0
IsConflictedBy w i by = (s : Spend) × Conflicts w i s × ((t : Spend) → Conflicts w i t → s.place ≤ t.place) × (s.txid ≡ by)

-- it or an ancestor is listed as abandoned
abbrev pub IsAbandoned : PendingView → ℕ → Type 0
IsAbandoned w i = (j : ℕ) × IsKin w i j × Contains w.abandoned (txid_of (tx_at w j))

-- it is neither confirmed nor conflicted nor abandoned
pub record IsAlive (w : PendingView) (i : ℕ) : Type 0 where
  pub unconfirmed : IsUnconfirmed w.chain (txid_of (tx_at w i))
  pub unconflicted : HasNoConflict w i
  pub kept : IsAbandoned w i → ⊥

-- the one at place k of the pending list stands later than the one at place j, spends an outpoint that this one spends,
-- and is alive
pub record Replaces (w : PendingView) (j k : ℕ) : Type 0 where
  pub stands : k < length w.pending
  pub later : j < k
  pub alike : SpendAlike (tx_at w j) (tx_at w k)
  pub alive : IsAlive w k

-- neither it nor an ancestor is replaced
abbrev pub HasNoReplacer : PendingView → ℕ → Type 0
HasNoReplacer w i = (j k : ℕ) → IsKin w i j → Replaces w j k → ⊥

-- Of it and its ancestors the one at place j is the first in list order that is replaced, and the first that replaces
-- this one has the txid.
pub record IsReplacedBy (w : PendingView) (i : ℕ) (by : List ℕ) : Type 0 where
  pub j : ℕ
  pub k : ℕ
  pub kin : IsKin w i j
  pub replaces : Replaces w j k
  pub first : (a b : ℕ) → IsKin w i a → Replaces w a b → j ≤ a
  pub nearest : (b : ℕ) → Replaces w j b → k ≤ b
  pub txid_is : txid_of (tx_at w k) ≡ by

-- what has to be so where the payment at place i has this state
abbrev pub HasCause : PendingView → ℕ → State → Type 0
HasCause w i (state.Confirmed height) = IsConfirmedAt w.chain (txid_of (tx_at w i)) height
HasCause w i (state.Conflicted by) = IsUnconfirmed w.chain (txid_of (tx_at w i)) × IsConflictedBy w i by
HasCause w i state.Abandoned = IsUnconfirmed w.chain (txid_of (tx_at w i)) × HasNoConflict w i × IsAbandoned w i
HasCause w i (state.Replaced by) = IsAlive w i × IsReplacedBy w i by
HasCause w i state.Pending = IsAlive w i × HasNoReplacer w i
