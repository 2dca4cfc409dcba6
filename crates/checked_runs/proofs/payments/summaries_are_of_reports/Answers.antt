use Rattle.checked_runs.proofs.SummaryLaws.{summary_is, summary_reads}
use Rattle.checked_runs.proofs.payments.summaries_are_of_reports.Goals as goal

pub returns-clause-report : goal.returns-clause-report
returns-clause-report c = summary_reads

pub returns-clause-lines : goal.returns-clause-lines
returns-clause-lines c = summary_is
