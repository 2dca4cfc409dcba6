-- What a wallet asks its book of the chain.
use Rattle.std.specs.Prelude.{ℕ, ◌≡◌, ◌⊎◌, false, true, List, All, Contains}
use Rattle.std.specs.List.{Any}
use Rattle.fund_base.specs.declared.outpoint.OutPoint.{OutPoint}
use Rattle.tx_codec.specs.Transaction.{Transaction}
use Rattle.tx_codec.specs.Txid.{txid_of}
use Rattle.coin_book.specs.Coins.{coins_of}
use Rattle.coin_book.specs.History.{History}
use Rattle.coin_book.specs.Spends.{has_input}
use Rattle.coin_book.specs.Watched.{IsWatched, WatchedHistory, watches, watches_txid}
use Rattle.coin_book.specs.declared.coin.Coin.{Coin}

-- a coin stands at the outpoint
abbrev pub HasCoin : History → OutPoint → Type 0
HasCoin h o = (c : Coin) × Contains (coins_of h) c × (c.coin ≡ o)

-- a pending transaction spends the outpoint
abbrev pub IsClaimed : History → OutPoint → Type 0
IsClaimed h o = (t : Transaction) × Contains h.pending t × (has_input o t.inputs ≡ true)

-- It may be asked which confirmed transactions spend the outpoint.
abbrev pub IsAsked : History → OutPoint → Type 0
IsAsked h o = HasCoin h o ⊎ IsClaimed h o

-- It may be asked at which height the txid stands: a pending transaction has it.
abbrev pub IsAskedTxid : History → List ℕ → Type 0
IsAskedTxid h txid = (t : Transaction) × Contains h.pending t × (txid_of t ≡ txid)

-- these are among the pending transactions
abbrev pub AreWaiting : History → List Transaction → Type 0
AreWaiting h ts = All (Contains h.pending) ts

-- an outpoint at which a coin stands isn't watched
abbrev pub HasUnwatchedCoin : WatchedHistory → Type 0
HasUnwatchedCoin v = Any (λ (c : Coin). watches v.watched c.coin ≡ false) (coins_of v.history)

-- all is watched that a wallet has: the outpoints at which its coins stand, and of each pending transaction the txid and
-- the outpoints that it spends
abbrev pub WatchesWallet : WatchedHistory → Type 0
WatchesWallet v = All (λ (c : Coin). watches v.watched c.coin ≡ true) (coins_of v.history) × All (IsWatched v.watched) v.history.pending

-- All that may be asked is kept.
pub record Suffices (v : WatchedHistory) : Type 0 where
  pub spends : (o : OutPoint) → IsAsked v.history o → watches v.watched o ≡ true
  pub heights : (txid : List ℕ) → IsAskedTxid v.history txid → watches_txid v.watched txid ≡ true
