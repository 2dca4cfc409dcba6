-- The prices of coins, and what they are for.
use Rattle.std.specs.Prelude.{ℕ, ◌≡◌, ◌<◌, length}
use Rattle.std.specs.Option.{option_map_or}
use Rattle.coin_candidates.specs.declared.candidate.Candidate.{Candidate}
use Rattle.fund_base.specs.declared.outpoint.OutPoint.{OutPoint}
use Rattle.tx_codec.specs.Txid.{txid_of}
use Rattle.wallet_text.specs.PlainWallet.{PlainWallet}
use Rattle.coin_book.specs.History.{History}
use Rattle.payment_states.specs.Candidates.{price_at}
use Rattle.payment_states.specs.Causes.{HasCause, IsKin, IsUnconfirmed}
use Rattle.payment_states.specs.PendingView.{open_place, tx_at, view_of}
use Rattle.payment_states.specs.declared.state.State.TheVariants as state

-- The price of a coin at this outpoint, in satoshi: that of the place in the pending list of the transaction of its txid; 0
-- where no transaction there has it, or one that is confirmed.
abbrev pub price_of : PlainWallet → History → (rate : ℕ) → OutPoint → ℕ
price_of w h rate o = option_map_or (price_at w h rate) (open_place h.confirmed w.pending o.txid) 0

-- the coin has the price of its outpoint
abbrev pub IsPriced : PlainWallet → History → (rate : ℕ) → Candidate → Type 0
IsPriced w h rate c = c.price ≡ price_of w h rate c.coin

-- A coin at this outpoint rests on the transaction at place j of the pending list: this one is Pending, and is that of the
-- coin's txid, or an ancestor of it. A coin of which the transaction is confirmed rests on none.
pub record RestsOn (w : PlainWallet) (h : History) (o : OutPoint) (j : ℕ) : Type 0 where
  pub place : ℕ
  pub stands : place < length w.pending
  pub txid_is : txid_of (tx_at (view_of w h) place) ≡ o.txid
  pub unconfirmed : IsUnconfirmed h.confirmed o.txid
  pub kin : IsKin (view_of w h) place j
  pub waits : HasCause (view_of w h) j state.Pending
