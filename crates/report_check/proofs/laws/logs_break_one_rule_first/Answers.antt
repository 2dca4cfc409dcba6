use Rattle.report_check.proofs.OneLaws.{backed_apart, one_rule}
use Rattle.report_check.proofs.laws.logs_break_one_rule_first.Goals as goal

pub returns : goal.returns
returns c = record { apart = backed_apart; one = one_rule }
