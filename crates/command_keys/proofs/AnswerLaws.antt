-- What a stop is answered.
use Rattle.std.proofs.Common.{◌≡◌, ℕ, List}
use Rattle.fund_shelf.specs.Causes.{SinkView}
use Rattle.command_end.proofs.WholeLaws.{not_whole}
use Rattle.command_end.specs.AnswerLines.{IsAnswered}
use Rattle.command_end.specs.Names.{Sources}
use Rattle.command_end.specs.Printed.{TellsWhole}
use Rattle.command_end.specs.declared.status.Status.{Status}
use Rattle.command_end.specs.declared.status.Status.TheVariants as statuses
use Rattle.command_complete.proofs.EndsLaws as completing
use Rattle.command_keys.specs.Stops.{TellsRead}
use Rattle.keys_files.specs.Words.{keys_status}
use Rattle.command_keys.specs.Words.{stop_status, stop_words}
use Rattle.keys_files.specs.declared.stop.KeysStop.{KeysStop}
use Rattle.keys_files.specs.declared.stop.KeysStop.TheVariants as keys_stops
use Rattle.command_keys.specs.declared.stop.Stop.{Stop}
use Rattle.command_keys.specs.declared.stop.Stop.TheVariants as stops

-- a read of the keys file that failed is told as that
pub keys_read : (stop : KeysStop) (result : Status) → result ≡ keys_status stop → TellsRead (stops.Keys stop) → result ≡ statuses.ReadFault
keys_read keys_stops.Read result is tells = is
keys_read keys_stops.TooLong result is tells = absurd tells
keys_read (keys_stops.Refused fault) result is tells = absurd tells
keys_read keys_stops.Memory result is tells = absurd tells

keys_untold : (stop : KeysStop) (result : Status) → result ≡ keys_status stop → TellsWhole result → ⊥
keys_untold keys_stops.Read result is whole = not_whole statuses.ReadFault result (λ w. w) is whole
keys_untold keys_stops.TooLong result is whole = not_whole statuses.Limit result (λ w. w) is whole
keys_untold (keys_stops.Refused fault) result is whole = not_whole statuses.Input result (λ w. w) is whole
keys_untold keys_stops.Memory result is whole = not_whole statuses.Memory result (λ w. w) is whole

-- no stop is told as a PSBT with its keys
pub stop_untold : (told : Type 0) (s : Sources) (name keys : List ℕ) (stop : Stop) (sink sink' : SinkView) (result : Status) → IsAnswered told (stop_words s name keys stop) (stop_status stop) sink sink' result → TellsWhole result → ⊥
stop_untold told s name keys (stops.Incomplete stop) sink sink' result a whole = completing.stop_untold told s name stop sink sink' result a whole
stop_untold told s name keys (stops.Keys stop) sink sink' result a whole = keys_untold stop result a.0 whole
stop_untold told s name keys (stops.Unkeyed fault) sink sink' result a whole = not_whole statuses.Input result (λ w. w) a.0 whole
stop_untold told s name keys stops.Memory sink sink' result a whole = not_whole statuses.Memory result (λ w. w) a.0 whole
