use Rattle.entry_laws.proofs.EntryFaults.{change_kind, change_member, change_missing, change_other}
use Rattle.entry_laws.proofs.entries.tells_change_forms.Goals as goal

pub returns : goal.returns
returns c = record { kind = change_kind; member = change_member; missing = change_missing; other = change_other }
