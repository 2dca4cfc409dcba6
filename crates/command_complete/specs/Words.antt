-- How a PSBT that isn't made whole is answered.
use Rattle.std.specs.Prelude.{ℕ, List, ◌∷◌, ◌++◌, codes}
use Rattle.std.specs.Fmt.{decimal}
use Rattle.command_end.specs.Coin.{coin_text}
use Rattle.command_end.specs.Words.{psbt_fault_words}
use Rattle.fund_shelf.specs.Causes.{SinkView}
use Rattle.command_complete.specs.declared.fault.CompleteFault.{CompleteFault}
use Rattle.command_complete.specs.declared.fault.CompleteFault.TheVariants.{Missing, OtherOutput, Memory}
use Rattle.command_end.specs.ChainAnswer as chains
use Rattle.command_end.specs.AnswerLines.{IsAnswered}
use Rattle.command_end.specs.Names.{Sources}
use Rattle.command_end.specs.declared.status.Status.{Status}
use Rattle.command_end.specs.declared.status.Status.TheVariants as statuses
use Rattle.command_complete.specs.declared.stop.Refusal.{Refusal}
use Rattle.command_complete.specs.declared.stop.Refusal.TheVariants as refusals
use Rattle.command_complete.specs.declared.stop.Stop.{Stop}
use Rattle.command_complete.specs.declared.stop.Stop.TheVariants as stops

-- what is wrong with an input: the variant's name, the input's index, and the outpoint that it spends
unfoldable pub input_fault_words : CompleteFault → List ℕ
input_fault_words (Missing index coin) = codes "Missing " ++ (decimal index ++ (32 ∷ coin_text coin))
input_fault_words (OtherOutput index coin) = codes "OtherOutput " ++ (decimal index ++ (32 ∷ coin_text coin))
input_fault_words Memory = codes "Memory"

-- the refusal of a PSBT file: the words of its fault, behind those that name the file
unfoldable pub refusal_words : Refusal → List ℕ
refusal_words (refusals.Psbt fault) = codes "input psbt " ++ psbt_fault_words fault
refusal_words refusals.OtherPairs = codes "input psbt OtherPairs"
refusal_words (refusals.Input fault) = codes "input psbt " ++ input_fault_words fault

-- the status of a stop
abbrev pub stop_status : Stop → Status
stop_status (stops.Chain stop) = chains.stop_status stop
stop_status stops.Read = statuses.ReadFault
stop_status stops.TooLong = statuses.Limit
stop_status (stops.Refused refusal) = statuses.Input
stop_status stops.Memory = statuses.Memory

-- what the line of a stop says behind the word fault
abbrev pub stop_words : Sources → (name : List ℕ) → Stop → List ℕ
stop_words s name (stops.Chain stop) = chains.stop_words s stop
stop_words s name stops.Read = codes "read " ++ name
stop_words s name stops.TooLong = codes "limit psbt"
stop_words s name (stops.Refused refusal) = refusal_words refusal
stop_words s name stops.Memory = codes "memory"

-- the answer to a stop: its status, with its line
abbrev pub IsStopped : Type 0 → Sources → (name : List ℕ) → Stop → SinkView → SinkView → Status → Type 0
IsStopped told s name stop old new result = IsAnswered told (stop_words s name stop) (stop_status stop) old new result
