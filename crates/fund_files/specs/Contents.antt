-- What a file holds, each by its bytes.
use Rattle.std.specs.Prelude.{ℕ, ◌≡◌, ◌≤◌, List, length, Some, None, Ok, Err}
use Rattle.block_feed.specs.Block.{ChainBlock}
use Rattle.block_feed.specs.BlockFile.{IsBlockFile}
use Rattle.block_feed.specs.Blocks.{blocks_of}
use Rattle.block_feed.specs.declared.fault.FeedFault.{FeedFault}
use Rattle.coin_book.specs.Faults.{fault_of}
use Rattle.coin_book.specs.declared.fault.BookFault.{BookFault}
use Rattle.request_text.specs.PlainRequest.{PlainRequest}
use Rattle.request_text.specs.RequestText.{request_of}
use Rattle.wallet_text.specs.PlainWallet.{PlainWallet}
use Rattle.wallet_text.specs.WalletText.{wallet_of}
use Rattle.fund_files.specs.Chain.{history_of}

-- the wallet file holds this wallet
pub record HasWallet (file : List ℕ) (w : PlainWallet) : Type 0 where
  pub fits : length file ≤ 16777216
  pub form : wallet_of file ≡ Ok w

-- the block file holds these blocks behind that of the wallet, and a book holds the coins of both
pub record HasBlocks (file : List ℕ) (w : PlainWallet) (blocks : List ChainBlock) : Type 0 where
  pub fits : length file ≤ 1073741824
  pub form : IsBlockFile w.hash w.height blocks file
  pub sound : fault_of (history_of w blocks) ≡ None

-- both
pub record HasChain (wallet_file block_file : List ℕ) (w : PlainWallet) (bs : List ChainBlock) : Type 0 where
  pub wallet : HasWallet wallet_file w
  pub blocks : HasBlocks block_file w bs

-- the request file holds this request
pub record HasRequest (file : List ℕ) (r : PlainRequest) : Type 0 where
  pub fits : length file ≤ 1048576
  pub form : request_of file ≡ Ok r

-- the wallet file is in order, and the block file has this fault first, behind the wallet's block
pub record HasFault (wallet_file block_file : List ℕ) (fault : FeedFault) : Type 0 where
  pub wallet : PlainWallet
  pub holds : HasWallet wallet_file wallet
  pub first : blocks_of block_file wallet.hash wallet.height ≡ Err fault

-- both files are in order, and this is what keeps their coins from a book
pub record HasNoBook (wallet_file block_file : List ℕ) (fault : BookFault) : Type 0 where
  pub wallet : PlainWallet
  pub blocks : List ChainBlock
  pub holds : HasWallet wallet_file wallet
  pub fits : length block_file ≤ 1073741824
  pub form : IsBlockFile wallet.hash wallet.height blocks block_file
  pub broken : fault_of (history_of wallet blocks) ≡ Some fault
