use Rattle.entry_laws.proofs.EntryFaults.{abandoned_law, earlier_law, locked_law, pending_law, scripts_law}
use Rattle.entry_laws.proofs.entries.tells_lists.Goals as goal

pub returns : goal.returns
returns c = record { scripts = scripts_law; earlier = earlier_law; pending = pending_law; abandoned = abandoned_law; locked = locked_law }
