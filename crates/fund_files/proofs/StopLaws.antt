-- A stop at one file is a stop of the reading of all.
use Rattle.std.proofs.Common.{◌≡◌, ℕ, List, Err, Ok, Result, inl, inr, sym, ap, subst, arith}
use Rattle.std.specs.Prelude.{IfErr, IsErrOf}
use Rattle.fund_shelf.specs.Causes.{ReadsOne, ShelfView, OnlyReads, Rose}
use Rattle.fund_shelf.proofs.FrameLaws.{fault_in, frame_as}
use Rattle.fund_shelf.proofs.Outside.{rose_earlier}
use Rattle.block_feed.specs.Blocks.{blocks_of}
use Rattle.block_feed.specs.declared.fault.FeedFault.{FeedFault}
use Rattle.block_feed.specs.declared.fault.FeedFault.TheVariants as faults
use Rattle.block_feed.proofs.Limits.{blocks_limit}
use Rattle.coin_book.specs.declared.fault.BookFault.{BookFault}
use Rattle.coin_book.specs.declared.fault.BookFault.TheVariants as books
use Rattle.coin_book.proofs.ToldSteps.{never_memory}
use Rattle.wallet_text.specs.PlainWallet.{PlainWallet}
use Rattle.fund_files.specs.declared.refusal.File.{File}
use Rattle.fund_files.specs.declared.refusal.File.TheVariants.{Wallet, Blocks, Request}
use Rattle.fund_files.specs.declared.stop.Stop.{Stop}
use Rattle.fund_files.specs.declared.stop.Stop.TheVariants as stops
use Rattle.fund_files.specs.Cause.{FileCause, cause_of}
use Rattle.fund_files.specs.Chain.{history_of}
use Rattle.fund_files.specs.Contents.{HasFault, HasNoBook, HasWallet}
use Rattle.fund_files.specs.FileStops.{IsAskedFault, IsBlocksCause, IsBlocksStop, IsReached, IsUnread, IsWalletCause, StopsAsked, StopsAt, StopsChain}
use Rattle.fund_files.specs.Outcome.{book_cause, feed_cause}
use Rattle.fund_files.specs.Refusals.{IsChainMeant, IsRequestCause}
use Rattle.fund_files.proofs.ChainLaws.{blocks_refused, request_by, request_long, wallet_refused}

-- ---- what a cause means

wallet_meant : (wallet blocks : List ℕ) (cause : FileCause) → IsWalletCause wallet cause → IsChainMeant wallet blocks cause
wallet_meant wallet blocks cause (inl h) = subst (λ (x : FileCause). IsChainMeant wallet blocks x) (sym h.0) h.1
wallet_meant wallet blocks cause (inr h) = subst (λ (x : FileCause). IsChainMeant wallet blocks x) (sym h.3) (h.0, h.2)

-- the block file behind this wallet has this fault first
has_fault : (wallet blocks : List ℕ) (w : PlainWallet) (fault : FeedFault) → HasWallet wallet w → blocks_of blocks w.hash w.height ≡ Err fault → HasFault wallet blocks fault
has_fault wallet blocks w fault has first = record { wallet = w; holds = has; first = first }

-- a fault of the blocks means what its name says
fault_meant : (wallet blocks : List ℕ) (w : PlainWallet) (fault : FeedFault) → HasWallet wallet w → blocks_of blocks w.hash w.height ≡ Err fault → IsChainMeant wallet blocks (feed_cause fault)
fault_meant wallet blocks w (faults.Magic place) has first = (has_fault wallet blocks w (faults.Magic place) has first, λ e. absurd cc)
fault_meant wallet blocks w (faults.Length place) has first = (has_fault wallet blocks w (faults.Length place) has first, λ e. absurd cc)
fault_meant wallet blocks w (faults.Tx height fault) has first = (has_fault wallet blocks w (faults.Tx height fault) has first, λ e. absurd cc)
fault_meant wallet blocks w (faults.Merkle height) has first = (has_fault wallet blocks w (faults.Merkle height) has first, λ e. absurd cc)
fault_meant wallet blocks w (faults.Mutated height) has first = (has_fault wallet blocks w (faults.Mutated height) has first, λ e. absurd cc)
fault_meant wallet blocks w (faults.NotLinked kept found) has first = (has_fault wallet blocks w (faults.NotLinked kept found) has first, λ e. absurd cc)
fault_meant wallet blocks w (faults.Trailing height) has first = (has_fault wallet blocks w (faults.Trailing height) has first, λ e. absurd cc)
fault_meant wallet blocks w (faults.Empty height) has first = (has_fault wallet blocks w (faults.Empty height) has first, λ e. absurd cc)
fault_meant wallet blocks w faults.Read has first = (has_fault wallet blocks w faults.Read has first, λ e. absurd cc)
fault_meant wallet blocks w faults.Limit has first = (has_fault wallet blocks w faults.Limit has first, blocks_limit blocks w.hash w.height first)
fault_meant wallet blocks w faults.Memory has first = (has_fault wallet blocks w faults.Memory has first, λ e. absurd cc)

-- so does one of the book
book_meant : (wallet blocks : List ℕ) (fault : BookFault) → HasNoBook wallet blocks fault → IsChainMeant wallet blocks (book_cause fault)
book_meant wallet blocks (books.RepeatCoin coin) h = h
book_meant wallet blocks books.Full h = h
book_meant wallet blocks books.Memory h = absurd (never_memory (history_of h.wallet h.blocks) h.broken)

blocks_meant : (wallet blocks : List ℕ) (w : PlainWallet) (cause : FileCause) → HasWallet wallet w → IsBlocksCause w blocks cause → IsChainMeant wallet blocks cause
blocks_meant wallet blocks w cause has (inl h) = subst (λ (x : FileCause). IsChainMeant wallet blocks x) (sym h.2) (fault_meant wallet blocks w h.0 has h.1)
blocks_meant wallet blocks w cause has (inr h) =
    subst (λ (x : FileCause). IsChainMeant wallet blocks x) (sym h.5) (book_meant wallet blocks h.1 (record { wallet = w; blocks = h.0; holds = has; fits = h.3; form = h.2; broken = h.4 }))

-- ---- the stops

-- at the wallet
pub at_wallet : (told : Type 0) (wallet blocks : List ℕ) (old new : ShelfView) (stop : Stop) → StopsAt Wallet (Rose (old.reads wallet) (new.reads wallet)) (λ cause. told → IsWalletCause (old.files wallet) cause) stop → StopsChain told wallet blocks old new stop
at_wallet told wallet blocks old new (stops.Read named) h =
    (subst (λ (f : File). IsUnread wallet blocks f old new) (sym h.0) h.1, λ t. subst (λ (f : File). IsReached (old.files wallet) f) (sym h.0) tt)
at_wallet told wallet blocks old new (stops.Refused refusal) h = λ t. record {
  due = wallet_refused (old.files wallet) (old.files blocks) (cause_of refusal) (h t);
  meant = wallet_meant (old.files wallet) (old.files blocks) (cause_of refusal) (h t);
}
at_wallet told wallet blocks old new stops.Memory h = tt

-- at the blocks, which were read after the wallet
pub at_blocks : {X : Type 0} (told : Type 0) (wallet blocks : List ℕ) (w : PlainWallet) (old middle new : ShelfView) (stop : Stop) → OnlyReads told old middle → (told → HasWallet (old.files wallet) w)
    → ReadsOne told (IsErrOf {T = X} (Err stop) (stops.Read Blocks)) blocks middle new → IsBlocksStop told w (middle.files blocks) stop → StopsChain told wallet blocks old new stop
at_blocks told wallet blocks w old middle new (stops.Read named) only held frame h =
    let rose = frame.cause (ap (λ (f : File). Err (stops.Read f)) h.at.0) in
    (subst (λ (f : File). IsUnread wallet blocks f old new) (sym h.at.0) (rose_earlier _ _ _ (only.reads blocks) rose), λ t. subst (λ (f : File). IsReached (old.files wallet) f) (sym h.at.0) (w, held t))
at_blocks told wallet blocks w old middle new (stops.Refused refusal) only held frame h = λ t.
    let cause : IsBlocksCause w (old.files blocks) (cause_of refusal) = subst (λ (files : List ℕ → List ℕ). IsBlocksCause w (files blocks) (cause_of refusal)) (only.same t) (h.at t) in
    record {
      due = blocks_refused (old.files wallet) (old.files blocks) w (cause_of refusal) (held t) cause;
      meant = blocks_meant (old.files wallet) (old.files blocks) w (cause_of refusal) (held t) cause;
    }
at_blocks told wallet blocks w old middle new stops.Memory only held frame h = tt

-- what is left of a shelf at a stop, where the stop is passed on
pub frame_passed_on : {X Y : Type 0} (told : Type 0) (name : List ℕ) (old new : ShelfView) (stop : Stop) → ReadsOne told (IsErrOf {T = X} (Err stop) (stops.Read Blocks)) name old new → ReadsOne told (IsErrOf {T = Y} (Err stop) (stops.Read Blocks)) name old new
frame_passed_on told name old new stop frame =
    frame_as told _ _ name old new (λ is. ap (λ (s : Stop). Err s) (ap (fault_in stops.Memory) is)) (λ is. ap (λ (s : Stop). Err s) (ap (fault_in stops.Memory) is)) frame

-- ---- the request

asked_cause : (file : List ℕ) (cause : FileCause) → IsAskedFault file cause → IsRequestCause file cause
asked_cause file cause (inl h) = subst (λ (x : FileCause). IsRequestCause file x) (sym h.0) (record { due = request_long file h.1; meant = h.1 })
asked_cause file cause (inr h) = subst (λ (x : FileCause). IsRequestCause file x) (sym h.3) (record { due = request_by file (Err h.1) h.0 h.2; meant = (h.0, h.2) })

asked_stop : (told : Type 0) (name : List ℕ) (old new : ShelfView) (stop : Stop) → StopsAt Request (Rose (old.reads name) (new.reads name)) (λ cause. told → IsAskedFault (old.files name) cause) stop → StopsAsked told name old new stop
asked_stop told name old new (stops.Read file) h = h
asked_stop told name old new (stops.Refused refusal) h = λ t. asked_cause (old.files name) (cause_of refusal) (h t)
asked_stop told name old new stops.Memory h = tt

pub asked_stops : {T : Type 0} (told : Type 0) (name : List ℕ) (old new : ShelfView) (result : Result T Stop) → IfErr result (StopsAt Request (Rose (old.reads name) (new.reads name)) (λ cause. told → IsAskedFault (old.files name) cause)) → IfErr result (StopsAsked told name old new)
asked_stops told name old new (Ok request) h = tt
asked_stops told name old new (Err stop) h = asked_stop told name old new stop h

-- ---- what is asked for

-- a wallet file that holds a wallet isn't refused
pub not_refused : (file : List ℕ) (w : PlainWallet) (cause : FileCause) → HasWallet file w → IsWalletCause file cause → ⊥
not_refused file w cause has (inl h) = omega (arith, has.fits, h.1)
not_refused file w cause has (inr h) = absurd (cc (has.form, h.2))
