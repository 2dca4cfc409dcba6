-- The summary of a workload's payment is of a report that can be read.
use Rattle.std.specs.Prelude.{ℕ, ◌≡◌, List, ◌++◌}
use Rattle.std.proofs.Common.{◌∙◌, ap}
use Rattle.coin_book.specs.History.{History}
use Rattle.fund_payment.specs.Report.{report_of}
use Rattle.fund_plan.specs.Outcome.{tries_at}
use Rattle.fund_report.specs.ReportText.{IsReportText}
use Rattle.fund_report.specs.declared.report.Report.TheVariants as kinds
use Rattle.fund_steps.specs.Plan.{PlainPlan}
use Rattle.command_work.proofs.KeptLaws.{funded_kept}
use Rattle.command_work.specs.Summary.{digest_line, summary_text, title_of}
use Rattle.command_work.specs.Outcome.{load_of, load_plan}
use Rattle.checked_runs.specs.Summed.{IsSummed, lines_for, report_for, reported_for}
use Rattle.checked_runs.proofs.CommandLaws.{few_tries, paid_reads}
use Rattle.checked_runs.proofs.FoundLaws.{can_be_told}
use Rattle.checked_runs.proofs.TellLaws.{report_can, report_sized}

pub summary_reads : (number count : ℕ) (summary : List ℕ) (k : IsSummed number count summary) → IsReportText (report_for number count k.funded) (kinds.Funded (reported_for number count k.funded))
summary_reads number count summary k = paid_reads (load_of number count).book (load_plan number count) 100_000 k.funded k.plan k.steps k.outcome k.pays k.psbt

pub summary_is : (number count : ℕ) (summary : List ℕ) (k : IsSummed number count summary) → summary ≡ lines_for number count k.funded
unfolding summary_text report_of
summary_is number count summary k =
    let history : History = (load_of number count).book in
    let plan : PlainPlan = load_plan number count in
    let tries : ℕ = tries_at plan 100_000 in
    let told = can_be_told plan 100_000 k.funded k.plan k.steps k.outcome in
    k.sums
    ∙ ap (λ (lines : List ℕ). title_of number count ++ (lines ++ digest_line (report_for number count k.funded)))
    (funded_kept (reported_for number count k.funded) (report_can history plan tries k.funded told) (report_sized history plan tries k.funded k.plan k.pays told k.psbt (few_tries plan 100_000)))
