use Rattle.wallet_text.proofs.TxEntryLaws.{earlier_taken, earlier_refused, pending_taken, pending_refused}
use Rattle.wallet_text.proofs.laws.judges_transactions.Goals as goal

pub returns-clause-earlier : goal.returns-clause-earlier
returns-clause-earlier c = earlier_taken

pub returns-clause-earlier_tx : goal.returns-clause-earlier_tx
returns-clause-earlier_tx c = earlier_refused

pub returns-clause-pending : goal.returns-clause-pending
returns-clause-pending c = pending_taken

pub returns-clause-pending_tx : goal.returns-clause-pending_tx
returns-clause-pending_tx c = pending_refused
