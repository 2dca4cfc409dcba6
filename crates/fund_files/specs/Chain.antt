-- A wallet and the blocks behind it: its book, and where its chain ends.
use Rattle.std.specs.Prelude.{◌≡◌, ◌<◌, List, [], ◌∷◌, ◌++◌, map, flat_map, All}
use Rattle.tx_codec.specs.TransactionText.{IsTransaction}
use Rattle.block_feed.specs.Block.{ChainBlock}
use Rattle.coin_book.specs.History.{Confirmed, History, confirmed_before, confirmed_in}
use Rattle.wallet_text.specs.PlainWallet.{PlainWallet}
use Rattle.wallet_text.specs.WalletRules.{IsWallet}
use Rattle.fund_files.specs.declared.chain.Chain.{Chain}
use Rattle.fund_files.specs.declared.chain.Tip.{Tip}

-- what the book of the confirmed transactions is made from: the wallet's earlier ones, then those of the blocks
abbrev pub confirmed_history : PlainWallet → List ChainBlock → History
confirmed_history w blocks = record { scripts = w.scripts; confirmed = map confirmed_before w.earlier ++ flat_map confirmed_in blocks; pending = [] }

-- what the book is made from: these, and the wallet's pending transactions
abbrev pub history_of : PlainWallet → List ChainBlock → History
history_of w blocks = record { scripts = w.scripts; confirmed = map confirmed_before w.earlier ++ flat_map confirmed_in blocks; pending = w.pending }

-- the height and the hash of the last block, and these where there is none
abbrev pub tip_behind : Tip → List ChainBlock → Tip
tip_behind tip [] = tip
tip_behind tip (block ∷ blocks) = tip_behind (record { height = block.height; hash = block.hash }) blocks

-- the tip of a wallet's chain
abbrev pub tip_of : PlainWallet → List ChainBlock → Tip
tip_of w blocks = tip_behind (record { height = w.height; hash = w.hash }) blocks

-- the wallet, its book and its tip
abbrev pub chain_from : PlainWallet → List ChainBlock → Chain
chain_from w blocks = record { wallet = w; book = history_of w blocks; tip = tip_of w blocks }

-- the blocks have texts
abbrev pub HaveTexts : List ChainBlock → Type 0
HaveTexts blocks = All (λ (b : ChainBlock). All IsTransaction b.txs) blocks

-- a wallet that keeps its rules, and some blocks, whose transactions have texts and of which none stands too high
pub record IsChain (k : Chain) : Type 0 where
  pub blocks : List ChainBlock
  pub is : k ≡ chain_from k.wallet blocks
  pub rules : IsWallet k.wallet
  pub texts : HaveTexts blocks
  pub height : k.tip.height < 4294967295

-- the transactions of a history have texts
pub record HasTexts (h : History) : Type 0 where
  pub confirmed : All (λ (c : Confirmed). IsTransaction c.tx) h.confirmed
  pub pending : All IsTransaction h.pending
