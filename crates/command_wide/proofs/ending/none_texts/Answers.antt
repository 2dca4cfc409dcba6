use Rattle.std.proofs.Common.{◌∙◌, ap, subst}
use Rattle.fund_report.specs.ReportText.{IsReportText}
use Rattle.fund_report.specs.declared.report.Report.TheVariants as kinds
use Rattle.command_inputs.specs.Outcome.{none_report}
use Rattle.wide_plan.specs.LogText.{text_of}
use Rattle.wide_plan.specs.Run.{PlainWideRun}
use Rattle.command_wide.proofs.ending.none_texts.Goals as goal

pub returns : goal.returns
returns c = record {
  reports = c.in_ok-report.ensures.text ∙ ap (λ (x : PlainWideRun). none_report x.tries) c.run.view_is;
  told = subst (λ (x : PlainWideRun). IsReportText c.in_ok-report.report.items (kinds.NoSelection x.tries)) c.run.view_is c.in_ok-report.ensures.means;
  logs = c.in_ok-log.ensures ∙ (ap text_of c.deref.ensures.value ∙ ap (λ (x : PlainWideRun). text_of x.sections) c.run.view_is);
}
