-- When a coin may be spent.
use Rattle.std.specs.Prelude.{ℕ, ◌≡◌, ◌≢◌, ◌+◌, ◌<◌, ◌≤◌, ◌⊎◌, length, Contains, true, Some, None}
use Rattle.tx_codec.specs.Txid.{txid_of}
use Rattle.wallet_text.specs.PlainWallet.{PlainWallet}
use Rattle.coin_book.specs.History.{History}
use Rattle.coin_book.specs.Spends.{IsSpendOf}
use Rattle.coin_book.specs.declared.coin.Coin.{Coin}
use Rattle.coin_book.specs.declared.coin.Spend.{Spend}
use Rattle.payment_states.specs.Causes.{HasCause, Spends}
use Rattle.payment_states.specs.PendingView.{tx_at, view_of}
use Rattle.payment_states.specs.declared.state.State.TheVariants as state

-- the one at this place of the pending list is Pending
abbrev pub WaitsAt : PlainWallet → History → ℕ → Type 0
WaitsAt w h i = (i < length w.pending) × HasCause (view_of w h) i state.Pending

-- The coin's transaction is confirmed or Pending, no confirmed or Pending one spends the coin, it isn't locked, and if
-- its transaction is a coinbase, that is confirmed and at least 101 deep.
pub record MayBeSpent (w : PlainWallet) (h : History) (tip : ℕ) (c : Coin) : Type 0 where
  pub counts : (c.height ≢ None) ⊎ ((i : ℕ) × WaitsAt w h i × (txid_of (tx_at (view_of w h) i) ≡ c.coin.txid))
  pub unspent : (s : Spend) → IsSpendOf h.confirmed c.coin s → ⊥
  pub unclaimed : (i : ℕ) → WaitsAt w h i → Spends c.coin (tx_at (view_of w h) i) → ⊥
  pub unlocked : Contains w.locked c.coin → ⊥
  pub deep : c.coinbase ≡ true → (height : ℕ) × (c.height ≡ Some height) × (101 + height ≤ tip + 1)
