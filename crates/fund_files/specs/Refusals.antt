-- What the refusal of a file means by itself.
use Rattle.std.specs.Prelude.{ℕ, ◌≡◌, ◌≢◌, ◌<◌, ◌≤◌, List, length, Err}
use Rattle.block_feed.specs.declared.fault.FeedFault.TheVariants as feeds
use Rattle.coin_book.specs.declared.fault.BookFault.TheVariants as books
use Rattle.request_text.specs.RequestText.{request_of}
use Rattle.wallet_text.specs.WalletText.{wallet_of}
use Rattle.fund_files.specs.declared.refusal.File.TheVariants.{Wallet, Blocks, Request}
use Rattle.fund_files.specs.Cause.{FileCause, TooLong, BadWallet, BadBlocks, RepeatCoin, ManyCoins, BadRequest}
use Rattle.fund_files.specs.Contents.{HasFault, HasNoBook}
use Rattle.fund_files.specs.Outcome.{asked_of, chain_of}

-- Of the wallet file or the block file: it is longer than its limit; the fault is the first that the wallet file has; or,
-- the wallet file being in order, the first that the block file has; or, both being in order, what they make is no book.
-- None of these is about a request.
abbrev pub IsChainMeant : (wallet blocks : List ℕ) → FileCause → Type 0
IsChainMeant wallet blocks (TooLong Wallet) = 16777216 < length wallet
IsChainMeant wallet blocks (TooLong Blocks) = HasFault wallet blocks feeds.Limit × (1073741824 < length blocks)
IsChainMeant wallet blocks (TooLong Request) = ⊥
IsChainMeant wallet blocks (BadWallet fault) = (length wallet ≤ 16777216) × (wallet_of wallet ≡ Err fault)
IsChainMeant wallet blocks (BadBlocks fault) = HasFault wallet blocks fault × (fault ≢ feeds.Limit)
IsChainMeant wallet blocks (RepeatCoin coin) = HasNoBook wallet blocks (books.RepeatCoin coin)
IsChainMeant wallet blocks ManyCoins = HasNoBook wallet blocks books.Full
IsChainMeant wallet blocks (BadRequest fault) = ⊥

-- Of the request file: it is longer than its limit, or the fault is its first. None of these is about another file.
abbrev pub IsAskedMeant : List ℕ → FileCause → Type 0
IsAskedMeant file (TooLong Wallet) = ⊥
IsAskedMeant file (TooLong Blocks) = ⊥
IsAskedMeant file (TooLong Request) = 1048576 < length file
IsAskedMeant file (BadWallet fault) = ⊥
IsAskedMeant file (BadBlocks fault) = ⊥
IsAskedMeant file (RepeatCoin coin) = ⊥
IsAskedMeant file ManyCoins = ⊥
IsAskedMeant file (BadRequest fault) = (length file ≤ 1048576) × (request_of file ≡ Err fault)

-- The two files come to a refusal of this cause, and it means what it says.
pub record IsChainCause (wallet blocks : List ℕ) (cause : FileCause) : Type 0 where
  pub due : chain_of wallet blocks ≡ Err cause
  pub meant : IsChainMeant wallet blocks cause

-- The request file does.
pub record IsRequestCause (file : List ℕ) (cause : FileCause) : Type 0 where
  pub due : asked_of file ≡ Err cause
  pub meant : IsAskedMeant file cause
