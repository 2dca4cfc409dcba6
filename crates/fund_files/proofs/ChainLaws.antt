-- What files come to, by what was found in them one by one.
use Rattle.std.proofs.Common.{◌≡◌, ◌∙◌, ◌<◌, ◌≤◌, ℕ, nat_lt, List, length, Option, Result, Ok, Err, inl, inr, refl, sym, ap}
use Rattle.std.specs.Prelude.{◌≢◌}
use Rattle.std.proofs.lemmas.Bool.{lt-ltb, le-ltb, cond-true, cond-false}
use Rattle.block_feed.specs.Block.{ChainBlock}
use Rattle.block_feed.specs.Blocks.{blocks_of}
use Rattle.block_feed.specs.declared.fault.FeedFault.{FeedFault}
use Rattle.block_feed.specs.declared.fault.FeedFault.TheVariants as feeds
use Rattle.block_feed.proofs.FileLaws.{blocks_only}
use Rattle.coin_book.specs.declared.fault.BookFault.{BookFault}
use Rattle.coin_book.specs.declared.fault.BookFault.TheVariants as books
use Rattle.request_text.specs.PlainRequest.{PlainRequest}
use Rattle.request_text.specs.RequestText.{request_of}
use Rattle.request_text.specs.declared.fault.Refusal as requests
use Rattle.wallet_text.specs.PlainWallet.{PlainWallet}
use Rattle.wallet_text.specs.WalletText.{wallet_of}
use Rattle.wallet_text.specs.declared.fault.Refusal as wallets
use Rattle.fund_files.specs.declared.refusal.File.TheVariants.{Wallet, Blocks, Request}
use Rattle.fund_files.specs.Cause.{FileCause, TooLong, BadWallet, BadBlocks, RepeatCoin, ManyCoins, BadRequest}
use Rattle.fund_files.specs.Chain.{chain_from}
use Rattle.fund_files.specs.Contents.{HasChain, HasRequest, HasWallet}
use Rattle.fund_files.specs.FileStops.{IsBlocksCause, IsWalletCause}
use Rattle.fund_files.specs.Outcome.{asked_of, by_blocks, by_book, by_form, by_wallet, chain_of, feed_cause}
use Rattle.fund_files.specs.Refusals.{IsAskedMeant, IsChainMeant}

-- ---- the chain

pub wallet_refused : (wallet blocks : List ℕ) (cause : FileCause) → IsWalletCause wallet cause → chain_of wallet blocks ≡ Err cause
unfolding chain_of
wallet_refused wallet blocks cause (inl h) = rw (lt-ltb 16777216 (length wallet) h.1) (ap (λ (x : FileCause). Err x) (sym h.0))
wallet_refused wallet blocks cause (inr h) =
    cond-false (nat_lt 16777216 (length wallet)) (Err (TooLong Wallet)) (by_wallet (wallet_of wallet) blocks) (le-ltb 16777216 (length wallet) h.0)
    ∙ ap (λ (r : Result PlainWallet wallets.Refusal). by_wallet r blocks) h.2
    ∙ ap (λ (x : FileCause). Err x) (sym h.3)

wallet_read : (wallet blocks : List ℕ) (w : PlainWallet) → HasWallet wallet w → chain_of wallet blocks ≡ by_blocks w (blocks_of blocks w.hash w.height)
unfolding chain_of
wallet_read wallet blocks w h = rw (le-ltb 16777216 (length wallet) h.fits, h.form) refl

pub blocks_refused : (wallet blocks : List ℕ) (w : PlainWallet) (cause : FileCause) → HasWallet wallet w → IsBlocksCause w blocks cause → chain_of wallet blocks ≡ Err cause
blocks_refused wallet blocks w cause h (inl b) =
    wallet_read wallet blocks w h
    ∙ ap (λ (r : Result (List ChainBlock) FeedFault). by_blocks w r) b.1
    ∙ ap (λ (x : FileCause). Err x) (sym b.2)
blocks_refused wallet blocks w cause h (inr b) =
    wallet_read wallet blocks w h
    ∙ ap (λ (r : Result (List ChainBlock) FeedFault). by_blocks w r) (blocks_only blocks w.hash w.height b.0 b.2 b.3)
    ∙ ap (λ (o : Option BookFault). by_book (chain_from w b.0) o) b.4
    ∙ ap (λ (x : FileCause). Err x) (sym b.5)

pub chain_held : (wallet blocks : List ℕ) (w : PlainWallet) (bs : List ChainBlock) → HasChain wallet blocks w bs → chain_of wallet blocks ≡ Ok (chain_from w bs)
chain_held wallet blocks w bs h =
    wallet_read wallet blocks w h.wallet
    ∙ ap (λ (r : Result (List ChainBlock) FeedFault). by_blocks w r) (blocks_only blocks w.hash w.height bs h.blocks.form h.blocks.fits)
    ∙ ap (λ (o : Option BookFault). by_book (chain_from w bs) o) h.blocks.sound

-- another fault than that of the limit is told as one of the blocks
bad_is : (fault : FeedFault) → fault ≢ feeds.Limit → BadBlocks fault ≡ feed_cause fault
bad_is (feeds.Magic place) h = refl
bad_is (feeds.Length place) h = refl
bad_is (feeds.Tx height fault) h = refl
bad_is (feeds.Merkle height) h = refl
bad_is (feeds.Mutated height) h = refl
bad_is (feeds.NotLinked kept found) h = refl
bad_is (feeds.Trailing height) h = refl
bad_is (feeds.Empty height) h = refl
bad_is feeds.Read h = refl
bad_is feeds.Limit h = absurd (h refl)
bad_is feeds.Memory h = refl

-- a cause that the files mean is the one that they come to
pub chain_due : (wallet blocks : List ℕ) (cause : FileCause) → IsChainMeant wallet blocks cause → chain_of wallet blocks ≡ Err cause
chain_due wallet blocks (TooLong Wallet) h = wallet_refused wallet blocks (TooLong Wallet) (inl (refl, h))
chain_due wallet blocks (TooLong Blocks) h = blocks_refused wallet blocks h.0.wallet (TooLong Blocks) h.0.holds (inl (feeds.Limit, h.0.first, refl))
chain_due wallet blocks (TooLong Request) h = absurd h
chain_due wallet blocks (BadWallet fault) h = wallet_refused wallet blocks (BadWallet fault) (inr (h.0, fault, h.1, refl))
chain_due wallet blocks (BadBlocks fault) h = blocks_refused wallet blocks h.0.wallet (BadBlocks fault) h.0.holds (inl (fault, h.0.first, bad_is fault h.1))
chain_due wallet blocks (RepeatCoin coin) h = blocks_refused wallet blocks h.wallet (RepeatCoin coin) h.holds (inr (h.blocks, books.RepeatCoin coin, h.form, h.fits, h.broken, refl))
chain_due wallet blocks ManyCoins h = blocks_refused wallet blocks h.wallet ManyCoins h.holds (inr (h.blocks, books.Full, h.form, h.fits, h.broken, refl))
chain_due wallet blocks (BadRequest fault) h = absurd h

-- ---- the request

pub request_long : (file : List ℕ) → 1048576 < length file → asked_of file ≡ Err (TooLong Request)
unfolding asked_of
request_long file long = cond-true (nat_lt 1048576 (length file)) (Err (TooLong Request)) (by_form (request_of file)) (lt-ltb 1048576 (length file) long)

pub request_by : (file : List ℕ) (r : Result PlainRequest requests.Refusal) → length file ≤ 1048576 → request_of file ≡ r → asked_of file ≡ by_form r
unfolding asked_of
request_by file r fits is =
    cond-false (nat_lt 1048576 (length file)) (Err (TooLong Request)) (by_form (request_of file)) (le-ltb 1048576 (length file) fits)
    ∙ ap by_form is

pub asked_due : (file : List ℕ) (cause : FileCause) → IsAskedMeant file cause → asked_of file ≡ Err cause
asked_due file (TooLong Wallet) h = absurd h
asked_due file (TooLong Blocks) h = absurd h
asked_due file (TooLong Request) h = request_long file h
asked_due file (BadWallet fault) h = absurd h
asked_due file (BadBlocks fault) h = absurd h
asked_due file (RepeatCoin coin) h = absurd h
asked_due file ManyCoins h = absurd h
asked_due file (BadRequest fault) h = request_by file (Err fault) h.0 h.1

pub asked_held : (file : List ℕ) (r : PlainRequest) → HasRequest file r → asked_of file ≡ Ok r
asked_held file r h = request_by file (Ok r) h.fits h.form
