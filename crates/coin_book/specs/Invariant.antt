-- How a book holds a history.
use Rattle.std.specs.Prelude.{ℕ, ◌≡◌, ◌||◌, All, Bool, true, is_some, List, [], ◌++◌, length, map, flat_map, bytes_eq, Option, None, Vec, if◌then◌else◌}
use Rattle.std.specs.declared.alloc.Global.{Global}
use Rattle.std.specs.declared.snapshot.Snapshot.{Snapshot}
use Rattle.std.specs.Map.{keys_of, lookup}
use Rattle.std.specs.Option.{option_map, option_or}
use Rattle.fund_base.specs.declared.outpoint.OutPoint.{OutPoint}
use Rattle.tx_codec.specs.Transaction.{Transaction}
use Rattle.tx_codec.specs.Txid.{txid_of}
use Rattle.block_feed.specs.Block.{ChainBlock}
use Rattle.wallet_text.specs.PlainWallet.{PlainWallet}
use Rattle.coin_book.specs.Coins.{Made, made_by, made_in, pending_made, weight_for}
use Rattle.coin_book.specs.Faults.{fault_of, points}
use Rattle.coin_book.specs.History.{Confirmed, History, confirmed_before, confirmed_in}
use Rattle.coin_book.specs.Places.{spends_in}
use Rattle.coin_book.specs.Watched.{IsWatched, PlainWatched, kept_height, kept_spends}
use Rattle.coin_book.specs.declared.coin.Coin.{Coin}
use Rattle.coin_book.specs.declared.held.Held.{Held}
use Rattle.coin_book.specs.declared.ledger.Ledger.{Ledger}

-- the weight for a script among these entries
abbrev pub weigher : List (Vec ℕ Global × ℕ) → List ℕ → Option ℕ
weigher entries script = lookup (λ (k : Vec ℕ Global). bytes_eq script k.items) entries

-- what is held tells a coin and its transaction
abbrev pub held_made : Held → Made
held_made held = record { coin = held.coin; maker = held.maker.value }

-- an entry tells what it holds
abbrev pub made_at : OutPoint × Held → Made
made_at e = held_made e.1

-- the coin alone, where there is one
abbrev pub coin_made : Option Made → Option Coin
coin_made made = option_map (λ (m : Made). m.coin) made

-- Entries hold these coins, each under its outpoint.
pub record HoldsCoins (made : List Made) (entries : List (OutPoint × Held)) : Type 0 where
  pub made_is : map made_at entries ≡ made
  pub keys_are : keys_of entries ≡ points made

-- What a ledger holds of the confirmed transactions that stand after others, where so much of them is kept.
pub record HoldsChain (w : PlainWatched) (weigh : List ℕ → Option ℕ) (before behind : List Confirmed) (l : Ledger) : Type 0 where
  pub coins : HoldsCoins (flat_map (made_by weigh) behind) l.coins.entries
  pub spends : (o : OutPoint) → kept_spends w (before ++ behind) o ≡ kept_spends w before o ++ spends_in l.spends o
  pub heights : (txid : List ℕ) → kept_height w (before ++ behind) txid ≡ option_or (kept_height w before txid) (lookup (bytes_eq txid) l.heights.entries)
  pub apart : (txid : List ℕ) → is_some (kept_height w before txid) ≡ true → lookup (bytes_eq txid) l.heights.entries ≡ None

-- a transaction of this txid stands in one of two ledgers
abbrev pub is_known : Ledger → Ledger → List ℕ → Bool
is_known base l txid = is_some (lookup (bytes_eq txid) base.heights.entries) || is_some (lookup (bytes_eq txid) l.heights.entries)

-- the coins of a transaction that waits, where its txid has no height among these
abbrev pub made_waiting : (List ℕ → Option ℕ) → List (List ℕ × ℕ) → Transaction → List Made
made_waiting weigh heights t = if is_some (lookup (bytes_eq (txid_of t)) heights) then [] else made_in weigh None t

-- the outpoints of the coins of confirmed transactions
abbrev pub points_in : (List ℕ → Option ℕ) → List Confirmed → List OutPoint
points_in weigh chain = points (flat_map (made_by weigh) chain)

-- the history that a wallet, blocks and pending transactions tell
abbrev pub history_of : PlainWallet → List (Snapshot ChainBlock) → List (Snapshot Transaction) → History
history_of w blocks waiting = record {
  scripts = w.scripts;
  confirmed = map confirmed_before w.earlier ++ flat_map (λ (s : Snapshot ChainBlock). confirmed_in s.value) blocks;
  pending = map (λ (s : Snapshot Transaction). s.value) waiting;
}

-- the history has no fault, and what the book holds is determined by it and by what is kept
pub record IsLedger (h : History) (w : PlainWatched) (weights : List (Vec ℕ Global × ℕ)) (ledger : Ledger) (pending : List (OutPoint × Held)) (txids : List (List ℕ)) (count : ℕ) : Type 0 where
  pub weights_are : weigher weights ≡ weight_for h.scripts
  pub chain : HoldsChain w (weight_for h.scripts) [] h.confirmed ledger
  pub waiting : HoldsCoins (pending_made h) pending
  pub watched : All (IsWatched w) h.pending
  pub txids_are : txids ≡ map txid_of h.pending
  pub count_is : count ≡ length h.confirmed
  pub sound : fault_of h ≡ None
