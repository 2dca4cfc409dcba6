-- What a wallet file and a block file come to, and what a request file comes to.
use Rattle.std.specs.Prelude.{ℕ, List, length, nat_lt, if◌then◌else◌, Option, Some, None, Result, Ok, Err}
use Rattle.block_feed.specs.Block.{ChainBlock}
use Rattle.block_feed.specs.Blocks.{blocks_of}
use Rattle.block_feed.specs.declared.fault.FeedFault.{FeedFault}
use Rattle.block_feed.specs.declared.fault.FeedFault.TheVariants as feeds
use Rattle.coin_book.specs.Faults.{fault_of}
use Rattle.coin_book.specs.declared.fault.BookFault.{BookFault}
use Rattle.coin_book.specs.declared.fault.BookFault.TheVariants as books
use Rattle.request_text.specs.PlainRequest.{PlainRequest}
use Rattle.request_text.specs.RequestText.{request_of}
use Rattle.request_text.specs.declared.fault.Refusal as requests
use Rattle.wallet_text.specs.PlainWallet.{PlainWallet}
use Rattle.wallet_text.specs.WalletText.{wallet_of}
use Rattle.wallet_text.specs.declared.fault.Refusal as wallets
use Rattle.fund_files.specs.declared.chain.Chain.{Chain}
use Rattle.fund_files.specs.declared.refusal.File.TheVariants.{Wallet, Blocks, Request}
use Rattle.fund_files.specs.Cause.{FileCause, TooLong, BadWallet, BadBlocks, RepeatCoin, ManyCoins, BadRequest}
use Rattle.fund_files.specs.Chain.{chain_from, history_of}

-- ---- the wallet and its chain

-- why a block file with this fault is refused
abbrev pub feed_cause : FeedFault → FileCause
feed_cause feeds.Limit = TooLong Blocks
feed_cause fault = BadBlocks fault

-- why a history with this fault is refused
abbrev pub book_cause : BookFault → FileCause
book_cause (books.RepeatCoin coin) = RepeatCoin coin
book_cause books.Full = ManyCoins
book_cause books.Memory = ManyCoins

-- by the fault of the book
abbrev pub by_book : Chain → Option BookFault → Result Chain FileCause
by_book k None = Ok k
by_book k (Some fault) = Err (book_cause fault)

-- by the blocks that were read
abbrev pub by_blocks : PlainWallet → Result (List ChainBlock) FeedFault → Result Chain FileCause
by_blocks w (Err fault) = Err (feed_cause fault)
by_blocks w (Ok blocks) = by_book (chain_from w blocks) (fault_of (history_of w blocks))

-- by the wallet that was read
abbrev pub by_wallet : Result PlainWallet wallets.Refusal → (blocks : List ℕ) → Result Chain FileCause
by_wallet (Err fault) blocks = Err (BadWallet fault)
by_wallet (Ok w) blocks = by_blocks w (blocks_of blocks w.hash w.height)

-- The two files are taken one by one: the wallet, the blocks, and then the coins that both make. Each file is refused
-- for its length before its form.
unfoldable pub chain_of : (wallet blocks : List ℕ) → Result Chain FileCause
chain_of wallet blocks = if nat_lt 16777216 (length wallet) then Err (TooLong Wallet) else by_wallet (wallet_of wallet) blocks

-- ---- the request

-- by the request that was read
abbrev pub by_form : Result PlainRequest requests.Refusal → Result PlainRequest FileCause
by_form (Err fault) = Err (BadRequest fault)
by_form (Ok r) = Ok r

-- The request file is refused for its length before its form.
unfoldable pub asked_of : List ℕ → Result PlainRequest FileCause
asked_of file = if nat_lt 1048576 (length file) then Err (TooLong Request) else by_form (request_of file)
