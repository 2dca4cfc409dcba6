use Rattle.checked_runs.proofs.ScriptLaws.{are_claimed, are_fed, is_booked, stays_booked}
use Rattle.checked_runs.proofs.files.scripts_keep_their_claims.Goals as goal

pub returns : goal.returns
returns c = record { starts = is_booked; calls = are_fed; claims = are_claimed; held = stays_booked }
