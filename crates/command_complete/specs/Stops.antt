-- Why the command stops before it prints a PSBT.
use Rattle.std.specs.Prelude.{ℕ, List}
use Rattle.coin_book.specs.History.{History}
use Rattle.fund_shelf.specs.Causes.{ShelfView, Rose}
use Rattle.fund_shelf.specs.declared.pieces.ReadError.{ReadError}
use Rattle.fund_shelf.specs.declared.pieces.ReadError.TheVariants as reads
use Rattle.fund_files.specs.FileStops.{StopsChain}
use Rattle.fund_files.specs.declared.stop.Stop.TheVariants as chains
use Rattle.psbt_codec.specs.declared.fault.PsbtFault.{PsbtFault}
use Rattle.psbt_codec.specs.declared.fault.PsbtFault.TheVariants as psbts
use Rattle.command_complete.specs.declared.fault.CompleteFault.{CompleteFault}
use Rattle.command_complete.specs.declared.fault.CompleteFault.TheVariants as inputs
use Rattle.psbt_codec.specs.Text.{HasPsbtFault}
use Rattle.command_end.specs.Names.{Sources}
use Rattle.command_complete.specs.Outcome.{BadPsbt, ComesTo, HasBook, IsTooLong, TooLong}
use Rattle.command_complete.specs.Made.{IsRefusedText, IsSpelledOtherwise, text_of}
use Rattle.command_complete.specs.declared.stop.Refusal.TheVariants as refusals
use Rattle.command_complete.specs.declared.stop.Stop.{Stop}
use Rattle.command_complete.specs.declared.stop.Stop.TheVariants as stops

-- the stop of a text that isn't read as a PSBT: being out of memory comes from that of the reading alone
abbrev pub stop_of_psbt : PsbtFault → Stop
stop_of_psbt psbts.Memory = stops.Memory
stop_of_psbt fault = stops.Refused (refusals.Psbt fault)

-- the stop of a PSBT that isn't made whole, likewise
abbrev pub stop_of_input : CompleteFault → Stop
stop_of_input inputs.Memory = stops.Memory
stop_of_input fault = stops.Refused (refusals.Input fault)

-- the stop of a file that wasn't read whole
abbrev pub read_stop_of : ReadError → Stop
read_stop_of reads.Failed = stops.Read
read_stop_of reads.TooLong = stops.TooLong
read_stop_of reads.Memory = stops.Memory

-- The stop tells of a read that failed.
abbrev pub TellsRead : Stop → Type 0
TellsRead (stops.Chain (chains.Read file)) = Unit {0}
TellsRead stops.Read = Unit {0}
TellsRead stop = ⊥

-- a read of this file failed, or it is too long
abbrev pub StopsReading : Type 0 → (name : List ℕ) → ShelfView → ShelfView → Stop → Type 0
StopsReading told name old new (stops.Chain stop) = ⊥
StopsReading told name old new stops.Read = Rose (old.reads name) (new.reads name)
StopsReading told name old new stops.TooLong = told → IsTooLong (old.files name)
StopsReading told name old new (stops.Refused refusal) = ⊥
StopsReading told name old new stops.Memory = Unit {0}

-- a text has a fault, or is spelled otherwise
abbrev pub StopsAtText : List ℕ → Stop → Type 0
StopsAtText text (stops.Chain stop) = ⊥
StopsAtText text stops.Read = ⊥
StopsAtText text stops.TooLong = ⊥
StopsAtText text (stops.Refused (refusals.Psbt fault)) = HasPsbtFault text fault
StopsAtText text (stops.Refused refusals.OtherPairs) = IsSpelledOtherwise text
StopsAtText text (stops.Refused (refusals.Input fault)) = ⊥
StopsAtText text stops.Memory = Unit {0}

-- the text of a PSBT is refused
abbrev pub StopsAtPsbt : History → (text : List ℕ) → Stop → Type 0
StopsAtPsbt h text (stops.Chain stop) = ⊥
StopsAtPsbt h text stops.Read = ⊥
StopsAtPsbt h text stops.TooLong = ⊥
StopsAtPsbt h text (stops.Refused refusal) = IsRefusedText h text refusal
StopsAtPsbt h text stops.Memory = Unit {0}

-- so of the text of a file
abbrev pub StopsAtFile : History → (file : List ℕ) → Stop → Type 0
StopsAtFile h file stop = StopsAtPsbt h (text_of file) stop

-- The wallet file or the block file stops it; a read of the PSBT file failed, those before it being in order; or the files
-- come to a PSBT file that is too long, or is refused.
abbrev pub StopsFor : Type 0 → Sources → (name : List ℕ) → ShelfView → ShelfView → Stop → Type 0
StopsFor told s name old new (stops.Chain stop) = StopsChain told s.wallet s.blocks old new stop
StopsFor told s name old new stops.Read = Rose (old.reads name) (new.reads name) × (told → (h : History) × HasBook old.files s h)
StopsFor told s name old new stops.TooLong = told → ComesTo old.files s name TooLong
StopsFor told s name old new (stops.Refused refusal) = told → ComesTo old.files s name (BadPsbt refusal)
StopsFor told s name old new stops.Memory = Unit {0}
