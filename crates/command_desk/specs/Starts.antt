-- What the run of a script starts from.
use Rattle.std.specs.Prelude.{ℕ, ◌≡◌, ◌≤◌, ◌<◌, List, length}
use Rattle.block_feed.specs.Block.{ChainBlock}
use Rattle.wallet_text.specs.PlainWallet.{PlainWallet}
use Rattle.fund_files.specs.Chain.{chain_from}
use Rattle.fund_files.specs.Contents.{HasChain}
use Rattle.command_end.specs.Names.{Sources}
use Rattle.desk_machine.specs.State.{PlainDesk, new_desk}

-- The files hold a wallet, blocks behind it whose coins a book holds, and a script within its limit.
pub record AreInputs (files : List ℕ → List ℕ) (s : Sources) (script : List ℕ) (w : PlainWallet) (bs : List ChainBlock) : Type 0 where
  pub chain : HasChain (files s.wallet) (files s.blocks) w bs
  pub fits : length (files script) ≤ 16777216

-- A desk at which nothing was done yet, and the text of a script. Where the files are told, the desk is that of the wallet and
-- the blocks that they hold, and the text is the script's.
pub record StartsFrom (told_files : Type 0) (files : List ℕ → List ℕ) (s : Sources) (script text : List ℕ) (d : PlainDesk) : Type 0 where
  pub wallet : PlainWallet
  pub blocks : List ChainBlock
  pub desk_is : d ≡ new_desk (chain_from wallet blocks)
  pub inputs : told_files → AreInputs files s script wallet blocks
  pub text_is : told_files → text ≡ files script

-- the wallet and the blocks are in order
abbrev pub HasWalletAndBlocks : (List ℕ → List ℕ) → Sources → Type 0
HasWalletAndBlocks files s = (w : PlainWallet) × (blocks : List ChainBlock) × HasChain (files s.wallet) (files s.blocks) w blocks

-- the same, and the script is longer than its limit
pub record IsScriptLong (files : List ℕ → List ℕ) (s : Sources) (script : List ℕ) : Type 0 where
  pub chain : HasWalletAndBlocks files s
  pub long : 16777216 < length (files script)
