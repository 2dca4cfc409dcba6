-- Pending transactions beside the chain, and how they descend from one another.
use Rattle.std.specs.Prelude.{ℕ, Bool, false, List, [], map, position, slice_index_or, bytes_eq, is_some, Option, None, if◌then◌else◌}
use Rattle.std.specs.List.{filter_map, list_any}
use Rattle.tx_codec.specs.Transaction.{Transaction}
use Rattle.tx_codec.specs.Txid.{txid_of}
use Rattle.tx_codec.specs.declared.tx.TxIn.{TxIn}
use Rattle.wallet_text.specs.PlainWallet.{PlainWallet}
use Rattle.coin_book.specs.History.{Confirmed, History}
use Rattle.coin_book.specs.Spends.{has_input, height_of}
use Rattle.payment_states.specs.Graph.{kin}

-- the confirmed transactions in chain order, the pending ones in list order, and the abandoned txids
pub record PendingView : Type 0 where
  pub chain : List Confirmed
  pub pending : List Transaction
  pub abandoned : List (List ℕ)

-- the view of a wallet and its book
abbrev pub view_of : PlainWallet → History → PendingView
view_of w h = record { chain = h.confirmed; pending = w.pending; abandoned = w.abandoned }

abbrev pub no_tx : Transaction
no_tx = record { version = 0; inputs = []; outputs = []; locktime = 0; segwit = false }

-- the pending transaction at a place
abbrev pub tx_at : PendingView → ℕ → Transaction
tx_at w i = slice_index_or w.pending i no_tx

-- the place in the pending list of the transaction of this txid
abbrev pub place_in : List Transaction → List ℕ → Option ℕ
place_in pending txid = position (λ (t : Transaction). bytes_eq txid (txid_of t)) pending

-- the same, unless a transaction of this txid is confirmed
unfoldable pub open_place : List Confirmed → List Transaction → List ℕ → Option ℕ
open_place chain pending txid = if is_some (height_of chain txid) then None else place_in pending txid

-- The parents of a transaction, by their places: those of the pending list whose outputs it spends and that aren't
-- confirmed. So no way through parents passes a confirmed transaction.
abbrev pub parents : List Confirmed → List Transaction → Transaction → List ℕ
parents chain pending t = filter_map (λ (i : TxIn). open_place chain pending i.prev.txid) t.inputs

-- the parents at each place of the pending list
abbrev pub graph : PendingView → List (List ℕ)
graph w = map (parents w.chain w.pending) w.pending

-- it and its ancestors, by their places
abbrev pub kin_of : PendingView → ℕ → List ℕ
kin_of w i = kin (graph w) i

-- b spends an outpoint that a spends
abbrev pub shares : Transaction → Transaction → Bool
shares a b = list_any (λ (i : TxIn). has_input i.prev b.inputs) a.inputs

-- the txid is among these
abbrev pub is_listed : List (List ℕ) → List ℕ → Bool
is_listed txids txid = list_any (λ x. bytes_eq x txid) txids
