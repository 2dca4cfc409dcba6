-- Which files are asked for, and in what order.
use Rattle.std.specs.Prelude.{ℕ, ◌≡◌, ◌⊎◌, true, List, [], ◌∷◌}
use Rattle.fund_shelf.specs.Causes.{Asks, Rose, ShelfView}
use Rattle.coin_book.specs.History.{History}
use Rattle.fund_files.specs.Cause.{FileCause}
use Rattle.fund_files.specs.FileStops.{IsWalletCause, is_of_wallet}
use Rattle.command_end.specs.ChainAnswer as chains
use Rattle.command_end.specs.Names.{Sources}
use Rattle.command_end.specs.declared.status.Status.{Status}
use Rattle.command_end.specs.declared.status.Status.TheVariants as statuses
use Rattle.command_complete.specs.Outcome.{HasBook}
use Rattle.command_complete.specs.declared.stop.Stop.{Stop}
use Rattle.command_complete.specs.declared.stop.Stop.TheVariants as stops

-- The wallet file was asked for, then the block file, then the PSBT file, each any number of times, and no other name was.
abbrev pub AsksInOrder : Sources → (name : List ℕ) → ShelfView → ShelfView → Type 0
AsksInOrder s name old new = Asks (s.wallet ∷ s.blocks ∷ name ∷ []) old.asked new.asked

-- the wallet file and then the block file were asked for, and no other name was
abbrev pub AsksChain : Sources → ShelfView → ShelfView → Type 0
AsksChain s old new = Asks (s.wallet ∷ s.blocks ∷ []) old.asked new.asked

-- Nothing is asked for behind a stop: at one of the wallet file or the block file no PSBT file was, and at one of the wallet
-- file no block file either.
abbrev pub AsksUpTo : Sources → (name : List ℕ) → ShelfView → ShelfView → Stop → Type 0
AsksUpTo s name old new (stops.Chain stop) = AsksChain s old new × (is_of_wallet stop ≡ true → Asks (s.wallet ∷ []) old.asked new.asked)
AsksUpTo s name old new stop = AsksInOrder s name old new

-- A file wasn't read, and none was asked for after it.
abbrev pub AsksToUnread : Sources → (name : List ℕ) → ShelfView → ShelfView → Type 0
AsksToUnread s name old new = chains.AsksToUnread s old new ⊎ (Rose (old.reads name) (new.reads name) × AsksInOrder s name old new)

-- What is asked for of a shelf that tells its content, by the status.
pub record AsksFiles (told : Type 0) (s : Sources) (name : List ℕ) (old new : ShelfView) (status : Status) : Type 0 where
  -- The wallet file, the block file and the PSBT file are asked for, in this order, and no other name.
  pub asked : told → AsksInOrder s name old new
  -- After a file that wasn't read none is asked for.
  pub unread_last : told → status ≡ statuses.ReadFault → AsksToUnread s name old new
  -- After a wallet file that is refused none is asked for.
  pub refused_alone : told → (cause : FileCause) → IsWalletCause (old.files s.wallet) cause → Asks (s.wallet ∷ []) old.asked new.asked
  -- No PSBT file is asked for where the other two hold no book.
  pub chain_alone : told → ((h : History) → HasBook old.files s h → ⊥) → AsksChain s old new
