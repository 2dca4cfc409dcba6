use Rattle.checked_runs.proofs.CommandLaws.{funded_reads, funded_signed}
use Rattle.checked_runs.proofs.payments.paid_reports_can_be_read.Goals as goal

pub returns : goal.returns
returns c = record { report = funded_reads; psbt = funded_signed }
