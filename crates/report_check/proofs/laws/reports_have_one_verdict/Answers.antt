use Rattle.report_check.proofs.VerdictLaws.{accepted_apart, one_fault_of}
use Rattle.report_check.proofs.laws.reports_have_one_verdict.Goals as goal

pub returns : goal.returns
returns c = record { apart = accepted_apart; one = one_fault_of }
