use Rattle.report_check.proofs.JudgeLaws.{accepts_back, refuses_back}
use Rattle.report_check.proofs.report_checker.ReportChecker.judge.Goals as goal

pub returns-clause-accepts : goal.returns-clause-accepts
returns-clause-accepts c = accepts_back c.args.self.now c.args.report.now c.args.log.now c.judged.result c.judged.ensures.fault

pub returns-clause-refuses : goal.returns-clause-refuses
returns-clause-refuses c = refuses_back c.args.self.now c.args.report.now c.args.log.now c.judged.result c.judged.ensures.accepted c.judged.ensures.fault
