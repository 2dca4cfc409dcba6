use Rattle.std.proofs.Common.{subst}
use Rattle.fund_report.specs.declared.report.Report.TheVariants.{Funded}
use Rattle.fund_steps.specs.Plan.{PlainPlan}
use Rattle.report_check.specs.PaidRefused.{IsPaidRefusal}
use Rattle.report_check.specs.Verdict.{IsPaid}
use Rattle.report_check.proofs.JudgeLaws.{funded_accepted, funded_fault, paid_first}
use Rattle.report_check.proofs.report_checker.ReportChecker.funded_judged.Goals as goal

pub returns-in-Err-clause-fault : goal.returns-in-Err-clause-fault
returns-in-Err-clause-fault c =
    paid_first c.args.self.now c.args.funded.now c.args.report.now c.args.log.now c.in-Err.fault c.requires (subst (λ (p : PlainPlan). IsPaidRefusal p c.args.funded.now c.in-Err.fault) c.self.view_is c.in-Err.ensures.fault)

pub returns-in-Ok-clause-accepted : goal.returns-in-Ok-clause-accepted
returns-in-Ok-clause-accepted c =
    funded_accepted c.args.self.now c.args.funded.now c.args.report.now c.args.log.now c.backed.result c.requires (subst (λ (p : PlainPlan). IsPaid p (Funded c.args.funded.now)) c.self.view_is c.in-Ok.ensures.paid) c.backed.ensures.backed

pub returns-in-Ok-clause-fault : goal.returns-in-Ok-clause-fault
returns-in-Ok-clause-fault c =
    funded_fault c.args.self.now c.args.funded.now c.args.report.now c.args.log.now c.backed.result c.requires (subst (λ (p : PlainPlan). IsPaid p (Funded c.args.funded.now)) c.self.view_is c.in-Ok.ensures.paid) c.backed.ensures.fault
