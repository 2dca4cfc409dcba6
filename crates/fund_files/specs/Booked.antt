-- The book while a wallet and blocks are read.
use Rattle.std.specs.Prelude.{ℕ, ◌≡◌, ◌≤◌, ◌<◌, All, List, [], length, Option, None, Some}
use Rattle.block_feed.specs.Block.{ChainBlock}
use Rattle.block_feed.specs.BlockFile.{IsBlockFile}
use Rattle.block_feed.specs.Digest.{HasTaken}
use Rattle.block_feed.specs.Feed.{FeedState}
use Rattle.coin_book.specs.Faults.{fault_of}
use Rattle.coin_book.specs.History.{History}
use Rattle.coin_book.specs.Watched.{IsWatched, PlainWatched}
use Rattle.fund_files.specs.Chain.{HaveTexts, confirmed_history, history_of, tip_of}
use Rattle.fund_files.specs.declared.booking.Booked.{Booked}
use Rattle.fund_files.specs.declared.booking.Booked.TheVariants.{Whole, Part, Broken}
use Rattle.fund_files.specs.declared.chain.Tip.{Tip}
use Rattle.tx_codec.specs.Transaction.{Transaction}
use Rattle.wallet_text.specs.PlainWallet.{PlainWallet}

-- the book of this history, which has no fault, or its fault
abbrev pub IsBooked : Booked → History → Type 0
IsBooked (Whole book) h = (book ≡ h) × (fault_of h ≡ None)
IsBooked (Part book) h = (book.history ≡ h) × (fault_of h ≡ None)
IsBooked (Broken fault) h = fault_of h ≡ Some fault

-- where there is a book
abbrev pub IfKept : Booked → (History → Type 0) → Type 0
IfKept (Whole book) P = P book
IfKept (Part book) P = P book.history
IfKept (Broken fault) P = Unit {0}

-- What a book keeps of its chain: all, or the part that is watched.
abbrev pub Keeps : Option PlainWatched → Booked → Type 0
Keeps None (Whole book) = Unit {0}
Keeps None (Part book) = ⊥
Keeps (Some watched) (Whole book) = ⊥
Keeps (Some watched) (Part book) = book.watched ≡ watched
Keeps kept (Broken fault) = Unit {0}

-- A book that keeps this much can be given the transactions to wait: what they ask of the chain is kept.
abbrev pub MayWait : Option PlainWatched → List Transaction → Type 0
MayWait None ts = Unit {0}
MayWait (Some watched) ts = All (IsWatched watched) ts

-- the same of what a book keeps that was begun
pub record CanWait (booked : Booked) (ts : List Transaction) : Type 0 where
  pub kept : Option PlainWatched
  pub keeps : Keeps kept booked
  pub each : MayWait kept ts

-- These blocks were read behind a wallet, the last at this tip. Where the file is told, it is made of them.
pub record AreRead (told : Type 0) (file : List ℕ) (w : PlainWallet) (tip : Tip) (blocks : List ChainBlock) : Type 0 where
  pub tip_is : tip ≡ tip_of w blocks
  pub height : tip.height < 4294967295
  pub texts : HaveTexts blocks
  pub whole : told → IsBlockFile w.hash w.height blocks file
  pub within : told → length file ≤ 1_073_741_824

-- the same, and what the wallet's earlier transactions and the blocks make
pub record IsRead (told : Type 0) (file : List ℕ) (w : PlainWallet) (tip : Tip) (booked : Booked) : Type 0 where
  pub blocks : List ChainBlock
  pub read : AreRead told file w tip blocks
  pub booked_is : IsBooked booked (confirmed_history w blocks)

-- the same, and the wallet's pending transactions
pub record IsReadAll (told : Type 0) (file : List ℕ) (w : PlainWallet) (tip : Tip) (booked : Booked) : Type 0 where
  pub blocks : List ChainBlock
  pub read : AreRead told file w tip blocks
  pub booked_is : IsBooked booked (history_of w blocks)

-- The feed stands at the beginning of a block file, behind the wallet's block. Where it computes a digest, that has taken nothing
-- yet.
pub record StartsBehind (w : PlainWallet) (feed : FeedState) : Type 0 where
  pub hash : feed.hash ≡ w.hash
  pub height : feed.height ≡ w.height
  pub place : feed.place ≡ 0
  pub fault : feed.fault ≡ None
  pub taken : HasTaken feed.hasher []
