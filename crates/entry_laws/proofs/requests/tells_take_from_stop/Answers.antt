use Rattle.entry_laws.proofs.RequestFaults.{stop_law, take_law, take_other}
use Rattle.entry_laws.proofs.requests.tells_take_from_stop.Goals as goal

pub returns : goal.returns
returns c = record { take = take_law; stop = stop_law; other = take_other }
