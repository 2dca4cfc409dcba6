-- The lines of what is refused and of what fails, and their statuses.
use Rattle.std.specs.Prelude.{ℕ, ◌≡◌, ◌⊎◌, List, [], ◌∷◌, ◌++◌, codes}
use Rattle.command_end.specs.Coin.{coin_text}
use Rattle.command_end.specs.Words.{feed_fault_words, request_fault_words, wallet_fault_words}
use Rattle.fund_shelf.specs.Causes.{SinkView, Rose, HasPart}
use Rattle.fund_files.specs.Cause as causes
use Rattle.fund_files.specs.declared.refusal.File.{File}
use Rattle.fund_files.specs.declared.refusal.File.TheVariants.{Wallet, Blocks, Request}
use Rattle.fund_files.specs.declared.refusal.FileRefusal.{FileRefusal}
use Rattle.fund_files.specs.declared.refusal.FileRefusal.TheVariants.{TooLong, BadWallet, BadBlocks, RepeatCoin, ManyCoins, BadRequest}
use Rattle.command_end.specs.declared.status.Status.{Status}
use Rattle.command_end.specs.declared.status.Status.TheVariants.{Input, Limit}

-- how a fault line names a file
abbrev pub file_word : File → List ℕ
file_word Wallet = codes "wallet"
file_word Blocks = codes "blocks"
file_word Request = codes "request"

-- a fault line
abbrev pub fault_line : List ℕ → List ℕ
fault_line words = codes "fault " ++ (words ++ (10 ∷ []))

-- The sink has got a line whole, or it failed or found no memory and has got a part of it.
abbrev pub GotLine : List ℕ → SinkView → SinkView → Type 0
GotLine line old new =
    (new.written ≡ old.written ++ line) ⊎ ((Rose old.faults new.faults ⊎ Rose old.refusals new.refusals) × HasPart old.written line new.written)

-- what the refusal of a file says behind the word fault
unfoldable pub file_refusal_words : FileRefusal → List ℕ
file_refusal_words (TooLong file) = codes "limit " ++ file_word file
file_refusal_words (BadWallet fault) = codes "input wallet " ++ wallet_fault_words fault
file_refusal_words (BadBlocks fault) = codes "input blocks " ++ feed_fault_words fault
file_refusal_words (RepeatCoin coin) = codes "input book RepeatCoin " ++ coin_text coin
file_refusal_words ManyCoins = codes "limit coins"
file_refusal_words (BadRequest fault) = codes "input request " ++ request_fault_words fault

-- the status of a file's refusal, by its cause
abbrev pub status_of_file : causes.FileCause → Status
status_of_file (causes.TooLong file) = Limit
status_of_file (causes.BadWallet fault) = Input
status_of_file (causes.BadBlocks fault) = Input
status_of_file (causes.RepeatCoin coin) = Input
status_of_file causes.ManyCoins = Limit
status_of_file (causes.BadRequest fault) = Input
