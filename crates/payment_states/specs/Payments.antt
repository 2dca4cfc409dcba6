-- The states of pending transactions, from the whole lists.
use Rattle.std.specs.Prelude.{ℕ, ◌&&◌, not, Bool, true, false, List, map, length, find, slice_index_or, slice_get, nat_lt, bytes_eq, is_some, is_none, Option, Some, None, option_map, option_and_then}
use Rattle.std.specs.List.{list_any}
use Rattle.tx_codec.specs.Transaction.{Transaction}
use Rattle.tx_codec.specs.Txid.{txid_of}
use Rattle.tx_codec.specs.declared.tx.TxIn.{TxIn}
use Rattle.wallet_text.specs.PlainWallet.{PlainWallet}
use Rattle.coin_book.specs.History.{Confirmed, History}
use Rattle.coin_book.specs.Spends.{height_of, spend_at}
use Rattle.payment_states.specs.Graph.{below}
use Rattle.payment_states.specs.PendingView.{PendingView, view_of, tx_at, no_tx, kin_of, shares, is_listed}
use Rattle.payment_states.specs.declared.state.Payment.{Payment}
use Rattle.payment_states.specs.declared.state.State.{State}
use Rattle.payment_states.specs.declared.state.State.TheVariants as state

-- the confirmed transaction at this place of the chain spends an outpoint that t spends
abbrev pub conflicts_at : List Confirmed → Transaction → ℕ → Bool
conflicts_at chain t place = list_any (λ (i : TxIn). is_some (spend_at chain i.prev place)) t.inputs

-- the place in chain order of the first confirmed transaction that spends an outpoint which it or an ancestor spends
unfoldable pub conflict : PendingView → ℕ → Option ℕ
conflict w i = find (λ place. list_any (λ j. conflicts_at w.chain (tx_at w j) place) (kin_of w i)) (below (length w.chain))

-- it or an ancestor is listed as abandoned
unfoldable pub is_abandoned : PendingView → ℕ → Bool
is_abandoned w i = list_any (λ j. is_listed w.abandoned (txid_of (tx_at w j))) (kin_of w i)

-- it is neither confirmed nor conflicted nor abandoned
unfoldable pub is_alive : PendingView → ℕ → Bool
is_alive w i = is_none (height_of w.chain (txid_of (tx_at w i))) && (is_none (conflict w i) && not (is_abandoned w i))

-- the place of the first later transaction of the pending list that spends an outpoint of the one at place j and is
-- alive
unfoldable pub replacer : PendingView → ℕ → Option ℕ
replacer w j = find (λ k. nat_lt j k && (shares (tx_at w j) (tx_at w k) && is_alive w k)) (below (length w.pending))

-- of it and its ancestors the first in list order that has a replacer counts
unfoldable pub replaced : PendingView → ℕ → Option ℕ
replaced w i = option_and_then (replacer w) (find (λ j. is_some (replacer w j)) (kin_of w i))

-- the txid of the pending transaction at a place
abbrev pub txid_at : List Transaction → ℕ → List ℕ
txid_at txs place = txid_of (slice_index_or txs place no_tx)

-- the txid of the confirmed transaction at a place
abbrev pub txid_in : List Confirmed → ℕ → Option (List ℕ)
txid_in chain place = option_map (λ (c : Confirmed). txid_of c.tx) (slice_get chain place)

-- the first state that applies
abbrev pub first_of : Option ℕ → Option (List ℕ) → Bool → Option (List ℕ) → State
first_of (Some height) conflicted abandoned replaced = state.Confirmed height
first_of None (Some by) abandoned replaced = state.Conflicted by
first_of None None true replaced = state.Abandoned
first_of None None false (Some by) = state.Replaced by
first_of None None false None = state.Pending

-- the state of the pending transaction at a place
unfoldable pub state_at : PendingView → ℕ → State
state_at w i = first_of
    (height_of w.chain (txid_of (tx_at w i)))
    (option_and_then (txid_in w.chain) (conflict w i))
    (is_abandoned w i)
    (option_map (txid_at w.pending) (replaced w i))

-- its txid and its state
abbrev pub payment_at : PendingView → ℕ → Payment
payment_at w i = record { txid = txid_of (tx_at w i); state = state_at w i }

-- the transactions of the pending list in order, each with its state
abbrev pub payments_in : PendingView → List Payment
payments_in w = map (payment_at w) (below (length w.pending))

-- those of a wallet and its book
unfoldable pub payments_of : PlainWallet → History → List Payment
payments_of w h = payments_in (view_of w h)

-- the state of the first payment of this txid
abbrev pub state_of : List Payment → List ℕ → Option State
state_of payments txid = option_map (λ (p : Payment). p.state) (find (λ (p : Payment). bytes_eq txid p.txid) payments)
