-- What the files of a PSBT come to.
use Rattle.std.specs.Prelude.{ℕ, ◌≡◌, ◌<◌, ◌≤◌, List, length}
use Rattle.block_feed.specs.Block.{ChainBlock}
use Rattle.coin_book.specs.History.{History}
use Rattle.fund_files.specs.Cause.{FileCause}
use Rattle.fund_files.specs.Chain.{history_of}
use Rattle.fund_files.specs.Contents.{HasChain}
use Rattle.fund_files.specs.Refusals.{IsChainCause}
use Rattle.psbt_codec.specs.PartialTransaction.{PartialTransaction}
use Rattle.command_complete.specs.Completed.{IsCompleted}
use Rattle.wallet_text.specs.PlainWallet.{PlainWallet}
use Rattle.command_end.specs.Lines.{status_of_file}
use Rattle.command_end.specs.Names.{Sources}
use Rattle.command_end.specs.declared.status.Status.{Status}
use Rattle.command_end.specs.declared.status.Status.TheVariants as statuses
use Rattle.command_complete.specs.Made.{IsRefused, IsSpelled, text_of}
use Rattle.command_complete.specs.declared.stop.Refusal.{Refusal}

-- a PSBT file has at most 67,108,864 bytes
abbrev pub IsWithin : List ℕ → Type 0
IsWithin file = length file ≤ 67108864

-- it has more
abbrev pub IsTooLong : List ℕ → Type 0
IsTooLong file = 67108864 < length file

-- the wallet file and the block file hold a wallet and blocks behind it, of which a book is made of this
pub record HasBook (files : List ℕ → List ℕ) (s : Sources) (h : History) : Type 0 where
  pub wallet : PlainWallet
  pub blocks : List ChainBlock
  pub chain : HasChain (files s.wallet) (files s.blocks) wallet blocks
  pub is : h ≡ history_of wallet blocks

-- the PSBT file is made whole as this PSBT
pub record IsMadeWhole (files : List ℕ → List ℕ) (s : Sources) (name : List ℕ) (q : PartialTransaction) : Type 0 where
  pub book : History
  pub holds : HasBook files s book
  pub fits : IsWithin (files name)
  pub version : ℕ
  pub before : PartialTransaction
  pub spelled : IsSpelled (text_of (files name)) version before
  pub completed : IsCompleted book before q

-- a cause for which the wallet file or the block file is refused; a PSBT file that is too long, or that is refused; or the PSBT
-- made whole
pub data Outcome : Type 0 where
  Refused : FileCause → Outcome
  TooLong : Outcome
  BadPsbt : Refusal → Outcome
  Completed : PartialTransaction → Outcome

-- The files come to this. They are taken one by one: the wallet and the blocks, and then the PSBT, for its length, its form,
-- its spelling and its inputs.
abbrev pub ComesTo : (List ℕ → List ℕ) → Sources → (name : List ℕ) → Outcome → Type 0
ComesTo files s name (Refused cause) = IsChainCause (files s.wallet) (files s.blocks) cause
ComesTo files s name TooLong = ((h : History) × HasBook files s h) × IsTooLong (files name)
ComesTo files s name (BadPsbt refusal) = (h : History) × HasBook files s h × IsWithin (files name) × IsRefused h (files name) refusal
ComesTo files s name (Completed q) = IsMadeWhole files s name q

-- the PSBT is made whole
abbrev pub IsACompletion : Outcome → Type 0
IsACompletion (Refused cause) = ⊥
IsACompletion TooLong = ⊥
IsACompletion (BadPsbt refusal) = ⊥
IsACompletion (Completed q) = Unit {0}

-- the status of that, where nothing fails
abbrev pub status_of : Outcome → Status
status_of (Refused cause) = status_of_file cause
status_of TooLong = statuses.Limit
status_of (BadPsbt refusal) = statuses.Input
status_of (Completed q) = statuses.Done
