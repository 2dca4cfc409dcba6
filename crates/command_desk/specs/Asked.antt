-- Which files a desk asks for, and in what order.
use Rattle.std.specs.Prelude.{ℕ, ◌<◌, List, [], ◌∷◌, ◌++◌, length, Option, Some, None}
use Rattle.block_feed.specs.Block.{ChainBlock}
use Rattle.fund_shelf.specs.Causes.{Asks, ShelfView}
use Rattle.wallet_text.specs.PlainWallet.{PlainWallet}
use Rattle.fund_files.specs.Cause.{FileCause}
use Rattle.fund_files.specs.Contents.{HasChain}
use Rattle.fund_files.specs.FileStops.{IsWalletCause}
use Rattle.command_end.specs.Names.{Sources}
use Rattle.command_desk.specs.Line.{Wanted, line_of, wanted}

-- the file that a line names, if it names one
abbrev pub file_in : Option Wanted → List (List ℕ)
file_in None = []
file_in (Some w) = w.file ∷ []

-- the files that lines name, in order
abbrev pub files_in : List (List ℕ) → List (List ℕ)
files_in [] = []
files_in (line ∷ lines) = file_in (wanted (line_of line)) ++ files_in lines

-- the files that are read before the first line: the wallet, the blocks, the script
abbrev pub first_names : Sources → (script : List ℕ) → List (List ℕ)
first_names s script = s.wallet ∷ s.blocks ∷ script ∷ []

-- Nothing is asked for behind a refusal: where the wallet file is refused, no other name was; where the wallet and the blocks
-- aren't in order, no name but these; and where the script is too long, no file that a line names.
pub record NoneBehind (s : Sources) (script : List ℕ) (old new : ShelfView) : Type 0 where
  pub wallet_alone : (cause : FileCause) → IsWalletCause (old.files s.wallet) cause → Asks (s.wallet ∷ []) old.asked new.asked
  pub chain_alone : ((w : PlainWallet) (blocks : List ChainBlock) → HasChain (old.files s.wallet) (old.files s.blocks) w blocks → ⊥) → Asks (s.wallet ∷ s.blocks ∷ []) old.asked new.asked
  pub script_alone : 16777216 < length (old.files script) → Asks (first_names s script) old.asked new.asked
