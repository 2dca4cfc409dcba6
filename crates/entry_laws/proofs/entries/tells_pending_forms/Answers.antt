use Rattle.entry_laws.proofs.EntryFaults.{pending_form, pending_other}
use Rattle.entry_laws.proofs.entries.tells_pending_forms.Goals as goal

pub returns : goal.returns
returns c = record { form = pending_form; other = pending_other }
