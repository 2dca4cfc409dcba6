-- What of a chain is kept.
use Rattle.std.specs.Prelude.{ℕ, ◌≡◌, true, Bool, List, [], bytes_eq, Option, None, if◌then◌else◌}
use Rattle.std.specs.List.{list_any}
use Rattle.std.specs.Option.{option_map_or}
use Rattle.fund_base.specs.Outpoints.{same_outpoint}
use Rattle.fund_base.specs.declared.outpoint.OutPoint.{OutPoint}
use Rattle.tx_codec.specs.Transaction.{Transaction}
use Rattle.tx_codec.specs.Txid.{txid_of}
use Rattle.coin_book.specs.History.{Confirmed, History}
use Rattle.coin_book.specs.Spends.{has_input, height_of, spends_of}
use Rattle.coin_book.specs.declared.coin.Spend.{Spend}

-- The outpoints whose spends are kept, and the txids whose heights are. Where there is no list, all are.
pub record PlainWatched : Type 0 where
  pub points : Option (List OutPoint)
  pub txids : Option (List (List ℕ))

-- all of them
abbrev pub everything : PlainWatched
everything = record { points = None; txids = None }

-- what spends the outpoint is kept
unfoldable pub watches : PlainWatched → OutPoint → Bool
watches w o = option_map_or (λ (os : List OutPoint). list_any (same_outpoint o) os) w.points true

-- the height of the txid is kept
unfoldable pub watches_txid : PlainWatched → List ℕ → Bool
watches_txid w txid = option_map_or (λ (ts : List (List ℕ)). list_any (bytes_eq txid) ts) w.txids true

-- what is kept of the spends of an outpoint
unfoldable pub kept_spends : PlainWatched → List Confirmed → OutPoint → List Spend
kept_spends w chain o = if watches w o then spends_of chain o else []

-- what is kept of the height of a txid
unfoldable pub kept_height : PlainWatched → List Confirmed → List ℕ → Option ℕ
kept_height w chain txid = if watches_txid w txid then height_of chain txid else None

-- the transaction's txid is watched, and so is each outpoint that it spends
pub record IsWatched (w : PlainWatched) (t : Transaction) : Type 0 where
  pub txid : watches_txid w (txid_of t) ≡ true
  pub inputs : (o : OutPoint) → has_input o t.inputs ≡ true → watches w o ≡ true

-- a history, and what of its chain is kept
pub record WatchedHistory : Type 0 where
  pub history : History
  pub watched : PlainWatched
