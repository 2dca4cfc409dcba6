-- Which book belongs to a wallet.
use Rattle.std.specs.Prelude.{◌≡◌, List, ◌++◌, map, flat_map, All}
use Rattle.tx_codec.specs.TransactionText.{IsTransaction}
use Rattle.block_feed.specs.Block.{ChainBlock}
use Rattle.wallet_text.specs.PlainWallet.{PlainWallet}
use Rattle.coin_book.specs.History.{History, confirmed_before, confirmed_in}

-- The history was made from this wallet and some blocks, and the wallet's pending transactions were added to it, in
-- order.
pub record IsBookOf (w : PlainWallet) (h : History) : Type 0 where
  pub blocks : List ChainBlock
  pub texts : All (λ (b : ChainBlock). All IsTransaction b.txs) blocks
  pub scripts : h.scripts ≡ w.scripts
  pub confirmed : h.confirmed ≡ map confirmed_before w.earlier ++ flat_map confirmed_in blocks
  pub pending : h.pending ≡ w.pending
