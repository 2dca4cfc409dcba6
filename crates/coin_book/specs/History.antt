-- What a book is made from.
use Rattle.std.specs.Prelude.{ℕ, List, [], ◌∷◌, ◌++◌, map}
use Rattle.tx_codec.specs.Transaction.{Transaction}
use Rattle.block_feed.specs.Block.{ChainBlock}
use Rattle.wallet_text.specs.PlainWallet.{Earlier, PlainWallet}
use Rattle.wallet_text.specs.declared.wallet.Watch.{Watch}

-- a transaction of the chain, and the height at which it stands
pub record Confirmed : Type 0 where
  pub tx : Transaction
  pub height : ℕ

-- The listed scripts, the confirmed transactions in chain order (the wallet's earlier ones, then block by
-- block), and the pending ones in the order in which they were added.
pub record History : Type 0 where
  pub scripts : List Watch
  pub confirmed : List Confirmed
  pub pending : List Transaction

-- a transaction at a height
abbrev pub confirmed_at : ℕ → Transaction → Confirmed
confirmed_at height t = record { tx = t; height = height }

-- the transactions of a block
abbrev pub confirmed_in : ChainBlock → List Confirmed
confirmed_in block = map (confirmed_at block.height) block.txs

-- an earlier transaction
abbrev pub confirmed_before : Earlier → Confirmed
confirmed_before e = record { tx = e.tx; height = e.height }

-- the wallet's earlier transactions alone
abbrev pub start_of : PlainWallet → History
start_of w = record { scripts = w.scripts; confirmed = map confirmed_before w.earlier; pending = [] }

-- a block more
abbrev pub with_block : History → ChainBlock → History
with_block h block = record { scripts = h.scripts; confirmed = h.confirmed ++ confirmed_in block; pending = h.pending }

-- a pending transaction more
abbrev pub with_pending : History → Transaction → History
with_pending h t = record { scripts = h.scripts; confirmed = h.confirmed; pending = h.pending ++ t ∷ [] }
