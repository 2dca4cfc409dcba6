use Rattle.entry_laws.proofs.EntryFaults.{script_kind, script_member, script_missing, script_other}
use Rattle.entry_laws.proofs.entries.tells_script_forms.Goals as goal

pub returns : goal.returns
returns c = record { kind = script_kind; member = script_member; missing = script_missing; other = script_other }
