-- The files of a payment, and what they hold.
use Rattle.std.specs.Prelude.{ℕ, ◌≡◌, List, [], ◌∷◌, None}
use Rattle.fund_shelf.specs.Causes.{Asks, ShelfView, Rose}
use Rattle.block_feed.specs.Block.{ChainBlock}
use Rattle.request_text.specs.PlainRequest.{PlainRequest}
use Rattle.wallet_text.specs.PlainWallet.{PlainWallet}
use Rattle.fund_files.specs.Cause.{FileCause}
use Rattle.fund_files.specs.Chain.{IsChain, chain_from}
use Rattle.fund_files.specs.Contents.{HasChain, HasRequest, HasWallet}
use Rattle.fund_files.specs.FileStops.{IsWalletCause}
use Rattle.fund_files.specs.declared.chain.Chain.{Chain}
use Rattle.fund_files.specs.declared.refusal.File.{File}
use Rattle.fund_files.specs.declared.refusal.File.TheVariants.{Wallet, Blocks, Request}
use Rattle.command_end.specs.Names.{Sources}
use Rattle.command_inputs.specs.Outcome.{bump_fault_in}
use Rattle.command_inputs.specs.Names.{Payment}

-- the name of a file that is read
abbrev pub name_of : Sources → Payment → File → List ℕ
name_of s p Wallet = s.wallet
name_of s p Blocks = s.blocks
name_of s p Request = p.request

-- The wallet file was asked for, then the block file, then the request, each any number of times, and no other name was.
abbrev pub AsksInOrder : Sources → Payment → ShelfView → ShelfView → Type 0
AsksInOrder s p old new = Asks (s.wallet ∷ s.blocks ∷ p.request ∷ []) old.asked new.asked

-- Nothing is asked for behind a refusal: where the wallet file is refused, no other name was; and where the wallet and the
-- blocks aren't in order, no name but these.
pub record NoneBehind (s : Sources) (old new : ShelfView) : Type 0 where
  pub wallet_alone : (cause : FileCause) → IsWalletCause (old.files s.wallet) cause → Asks (s.wallet ∷ []) old.asked new.asked
  pub chain_alone : ((w : PlainWallet) (blocks : List ChainBlock) → HasChain (old.files s.wallet) (old.files s.blocks) w blocks → ⊥) → Asks (s.wallet ∷ s.blocks ∷ []) old.asked new.asked

-- What is asked for of a shelf that tells its content.
pub record AsksFiles (told : Type 0) (s : Sources) (p : Payment) (old new : ShelfView) : Type 0 where
  -- The wallet file is asked for, then the block file, then the request, and no other name.
  pub asked : told → AsksInOrder s p old new
  -- Behind a file that is refused none is asked for.
  pub none_behind : told → NoneBehind s old new

-- a read of this file failed
abbrev pub IsUnread : Sources → Payment → File → ShelfView → ShelfView → Type 0
IsUnread s p file old new = Rose (old.reads (name_of s p file)) (new.reads (name_of s p file))

-- The files before this one are in order, so that it is read.
abbrev pub Reaches : (List ℕ → List ℕ) → Sources → File → Type 0
Reaches files s Wallet = Unit {0}
Reaches files s Blocks = (w : PlainWallet) × HasWallet (files s.wallet) w
Reaches files s Request = (w : PlainWallet) × (blocks : List ChainBlock) × HasChain (files s.wallet) (files s.blocks) w blocks

-- the files hold this wallet, these blocks and this request; and where it is to replace a payment, nothing keeps that from
-- being replaced
pub record AreInputs (files : List ℕ → List ℕ) (s : Sources) (p : Payment) (w : PlainWallet) (bs : List ChainBlock) (r : PlainRequest) : Type 0 where
  pub chain : HasChain (files s.wallet) (files s.blocks) w bs
  pub request : HasRequest (files p.request) r
  pub taken : bump_fault_in (chain_from w bs) r ≡ None

-- A wallet, its book and its tip, and a request; where that is to replace a payment, nothing keeps that from being replaced.
-- Where the files are told, they hold these.
pub record AreAsked (told : Type 0) (files : List ℕ → List ℕ) (s : Sources) (p : Payment) (k : Chain) (r : PlainRequest) : Type 0 where
  pub held : IsChain k
  pub inputs : told → AreInputs files s p k.wallet held.blocks r
  pub taken : bump_fault_in k r ≡ None
