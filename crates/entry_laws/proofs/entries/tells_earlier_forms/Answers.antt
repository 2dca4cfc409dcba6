use Rattle.entry_laws.proofs.EntryFaults.{earlier_kind, earlier_member, earlier_missing, earlier_other}
use Rattle.entry_laws.proofs.entries.tells_earlier_forms.Goals as goal

pub returns : goal.returns
returns c = record { kind = earlier_kind; member = earlier_member; missing = earlier_missing; other = earlier_other }
