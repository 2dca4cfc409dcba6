-- What was read of the wallet file and of the block file, joined.
use Rattle.std.specs.Prelude.{ℕ, ◌≡◌, List, None}
use Rattle.block_feed.specs.Block.{ChainBlock}
use Rattle.coin_book.specs.Faults.{fault_of}
use Rattle.coin_book.specs.History.{History}
use Rattle.wallet_text.specs.PlainWallet.{PlainWallet}
use Rattle.fund_files.specs.Booked.{AreRead}
use Rattle.fund_files.specs.Chain.{IsChain, history_of}
use Rattle.fund_files.specs.Contents.{HasChain}
use Rattle.fund_files.specs.declared.chain.Chain.{Chain}
use Rattle.fund_files.specs.declared.chain.Tip.{Tip}

-- a wallet, its book and its tip; where the files are told, they are those of the wallet file and of the block file
pub record IsChainOf (told : Type 0) (wallet_file block_file : List ℕ) (k : Chain) : Type 0 where
  pub held : IsChain k
  pub chain : told → HasChain wallet_file block_file k.wallet held.blocks

-- the book and the tip of a wallet and of blocks behind it, of which the file is made where it is told
pub record IsBookAfter (told : Type 0) (file : List ℕ) (w : PlainWallet) (h : History) (tip : Tip) : Type 0 where
  pub blocks : List ChainBlock
  pub read : AreRead told file w tip blocks
  pub book_is : h ≡ history_of w blocks
  pub sound : fault_of (history_of w blocks) ≡ None
