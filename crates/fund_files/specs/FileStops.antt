-- Why the reading of files stops.
use Rattle.std.specs.Prelude.{ℕ, ◌≡◌, ◌<◌, ◌≤◌, ◌⊎◌, Bool, true, false, List, length, Some, Err}
use Rattle.block_feed.specs.Block.{ChainBlock}
use Rattle.block_feed.specs.BlockFile.{IsBlockFile}
use Rattle.block_feed.specs.Blocks.{blocks_of}
use Rattle.block_feed.specs.declared.fault.FeedFault.{FeedFault}
use Rattle.block_feed.specs.declared.fault.FeedFault.TheVariants as feeds
use Rattle.coin_book.specs.Faults.{fault_of}
use Rattle.coin_book.specs.declared.fault.BookFault.{BookFault}
use Rattle.fund_shelf.specs.Causes.{ShelfView, Rose}
use Rattle.fund_shelf.specs.declared.pieces.ReadError.{ReadError}
use Rattle.fund_shelf.specs.declared.pieces.ReadError.TheVariants as reads
use Rattle.request_text.specs.RequestText.{request_of}
use Rattle.request_text.specs.declared.fault.Refusal as requests
use Rattle.wallet_text.specs.PlainWallet.{PlainWallet}
use Rattle.wallet_text.specs.WalletText.{wallet_of}
use Rattle.wallet_text.specs.declared.fault.Refusal as wallets
use Rattle.fund_files.specs.Cause.{FileCause, TooLong, BadWallet, BadRequest, cause_of}
use Rattle.fund_files.specs.Chain.{history_of}
use Rattle.fund_files.specs.Contents.{HasWallet}
use Rattle.fund_files.specs.Outcome.{book_cause, feed_cause}
use Rattle.fund_files.specs.Refusals.{IsChainCause, IsRequestCause}
use Rattle.fund_files.specs.declared.refusal.File.{File}
use Rattle.fund_files.specs.declared.refusal.File.TheVariants.{Wallet, Blocks, Request}
use Rattle.fund_files.specs.declared.refusal.FileRefusal.TheVariants as refusals
use Rattle.fund_files.specs.declared.stop.Stop.{Stop}
use Rattle.fund_files.specs.declared.stop.Stop.TheVariants as stops

-- ---- one file

-- the stop of a file that wasn't read whole
abbrev pub read_stop_of : File → ReadError → Stop
read_stop_of file reads.Failed = stops.Read file
read_stop_of file reads.TooLong = stops.Refused (refusals.TooLong file)
read_stop_of file reads.Memory = stops.Memory

-- The stop is of the wallet file: it wasn't read, or it is refused.
abbrev pub is_of_wallet : Stop → Bool
is_of_wallet (stops.Read Wallet) = true
is_of_wallet (stops.Refused (refusals.TooLong Wallet)) = true
is_of_wallet (stops.Refused (refusals.BadWallet fault)) = true
is_of_wallet stop = false

-- a read of this file failed, or the file is refused for a cause
abbrev pub StopsAt : File → Type 0 → (FileCause → Type 0) → Stop → Type 0
StopsAt file failed refused (stops.Read other) = (other ≡ file) × failed
StopsAt file failed refused (stops.Refused refusal) = refused (cause_of refusal)
StopsAt file failed refused stops.Memory = Unit {0}

-- why a wallet file is refused: for its length, or else for its first fault
abbrev pub IsWalletCause : List ℕ → FileCause → Type 0
IsWalletCause bytes cause =
    ((cause ≡ TooLong Wallet) × (16777216 < length bytes))
    ⊎ ((length bytes ≤ 16777216) × (fault : wallets.Refusal) × (wallet_of bytes ≡ Err fault) × (cause ≡ BadWallet fault))

-- why a request file is refused: for its length, or else for its first fault
abbrev pub IsAskedFault : List ℕ → FileCause → Type 0
IsAskedFault bytes cause =
    ((cause ≡ TooLong Request) × (1048576 < length bytes))
    ⊎ ((length bytes ≤ 1048576) × (fault : requests.Refusal) × (request_of bytes ≡ Err fault) × (cause ≡ BadRequest fault))

-- why a block file is refused: for its first fault, or else because no book holds what it and the wallet make
abbrev pub IsBlocksCause : PlainWallet → List ℕ → FileCause → Type 0
IsBlocksCause w file cause =
    ((fault : FeedFault) × (blocks_of file w.hash w.height ≡ Err fault) × (cause ≡ feed_cause fault))
    ⊎ ((blocks : List ChainBlock) × (fault : BookFault) × IsBlockFile w.hash w.height blocks file × (length file ≤ 1073741824) × (fault_of (history_of w blocks) ≡ Some fault) × (cause ≡ book_cause fault))

-- A read of the block file failed, or it is refused for a cause. It is no stop of the wallet file.
pub record IsBlocksStop (told : Type 0) (w : PlainWallet) (file : List ℕ) (stop : Stop) : Type 0 where
  pub at : StopsAt Blocks (Unit {0}) (λ cause. told → IsBlocksCause w file cause) stop
  pub own : is_of_wallet stop ≡ false

-- the stop of a block file with this fault
abbrev pub stop_of : FeedFault → Stop
stop_of feeds.Read = stops.Read Blocks
stop_of feeds.Memory = stops.Memory
stop_of feeds.Limit = stops.Refused (refusals.TooLong Blocks)
stop_of fault = stops.Refused (refusals.BadBlocks fault)

-- ---- the files

-- a read of the wallet file of this name failed, or of the block file of that name
abbrev pub IsUnread : (wallet blocks : List ℕ) → File → ShelfView → ShelfView → Type 0
IsUnread wallet blocks Wallet old new = Rose (old.reads wallet) (new.reads wallet)
IsUnread wallet blocks Blocks old new = Rose (old.reads blocks) (new.reads blocks)
IsUnread wallet blocks Request old new = ⊥

-- The file before this one is in order, so that it is read. A request isn't one of the two.
abbrev pub IsReached : (wallet : List ℕ) → File → Type 0
IsReached wallet Wallet = Unit {0}
IsReached wallet Blocks = (w : PlainWallet) × HasWallet wallet w
IsReached wallet Request = ⊥

-- A read of one of the two files failed, the one before it being in order; or they are refused for a cause.
abbrev pub StopsChain : Type 0 → (wallet blocks : List ℕ) → ShelfView → ShelfView → Stop → Type 0
StopsChain told wallet blocks old new (stops.Read file) = IsUnread wallet blocks file old new × (told → IsReached (old.files wallet) file)
StopsChain told wallet blocks old new (stops.Refused refusal) = told → IsChainCause (old.files wallet) (old.files blocks) (cause_of refusal)
StopsChain told wallet blocks old new stops.Memory = Unit {0}

-- A read of the request file of this name failed, or it is refused for a cause.
abbrev pub StopsAsked : Type 0 → (name : List ℕ) → ShelfView → ShelfView → Stop → Type 0
StopsAsked told name old new stop = StopsAt Request (Rose (old.reads name) (new.reads name)) (λ cause. told → IsRequestCause (old.files name) cause) stop
