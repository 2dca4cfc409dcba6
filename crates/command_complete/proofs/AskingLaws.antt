-- Which files are asked for, and which reads are told.
use Rattle.std.proofs.Common.{◌≡◌, ℕ, List, inl, inr, refl}
use Rattle.fund_shelf.specs.Causes.{ShelfView, SinkView}
use Rattle.fund_files.specs.declared.refusal.File.{File}
use Rattle.fund_files.specs.declared.stop.Stop.{Stop as ChainStop}
use Rattle.fund_files.specs.declared.stop.Stop.TheVariants as chains
use Rattle.command_end.proofs.ChainLaws.{stopped_asks}
use Rattle.command_end.specs.Names.{Sources}
use Rattle.command_end.specs.declared.status.Status.{Status}
use Rattle.command_end.specs.declared.status.Status.TheVariants as statuses
use Rattle.command_complete.specs.Asked.{AsksToUnread, AsksUpTo}
use Rattle.command_complete.specs.Stops.{StopsFor, TellsRead}
use Rattle.command_complete.specs.Words.{IsStopped}
use Rattle.command_complete.specs.declared.stop.Stop.{Stop}
use Rattle.command_complete.specs.declared.stop.Stop.TheVariants as stops

-- a stop of the chain that tells of a read that failed is that
pub chain_tells : (stop : ChainStop) (P : Type 0) → ((file : File) → stop ≡ chains.Read file → P) → TellsRead (stops.Chain stop) → P
chain_tells (chains.Read file) P h tells = h file refl
chain_tells (chains.Refused refusal) P h tells = absurd tells
chain_tells chains.Memory P h tells = absurd tells

-- what was asked for up to a file that wasn't read
pub stop_asks : (told_files told : Type 0) (s : Sources) (name : List ℕ) (stop : Stop) (shelf shelf' : ShelfView) (sink sink' : SinkView) (result : Status) → StopsFor told_files s name shelf shelf' stop → IsStopped told s name stop sink sink' result
    → AsksUpTo s name shelf shelf' stop → result ≡ statuses.ReadFault → AsksToUnread s name shelf shelf'
stop_asks told_files told s name (stops.Chain stop) shelf shelf' sink sink' result h line a is = inl (stopped_asks told_files told s stop shelf shelf' sink sink' result h line a.0 a.1 is)
stop_asks told_files told s name stops.Read shelf shelf' sink sink' result h line a is = inr (h.0, a)
stop_asks told_files told s name stops.TooLong shelf shelf' sink sink' result h e a is = absurd (cc (e.0, is))
stop_asks told_files told s name (stops.Refused refusal) shelf shelf' sink sink' result h e a is = absurd (cc (e.0, is))
stop_asks told_files told s name stops.Memory shelf shelf' sink sink' result h e a is = absurd (cc (e.0, is))
