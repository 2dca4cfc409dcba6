-- The bytes that were written are those of the payment that is taken.
use Rattle.std.proofs.Common.{◌≡◌, ◌≤◌, ℕ, List, subst}
use Rattle.fund_shelf.specs.Causes.{ShelfView}
use Rattle.command_end.specs.declared.status.Status.{Status}
use Rattle.command_end.specs.declared.status.Status.TheVariants as statuses
use Rattle.pay_words.specs.declared.asked.Asked.{Asked}
use Rattle.payment_files.specs.Files.{contents}
use Rattle.payment_files.specs.declared.file.NewFile.{NewFile}
use Rattle.command_pay.specs.Paid.{fee_in, psbt_in}
use Rattle.command_pay.specs.Pays.{IsTaken, contents_of, greatest_fee}
use Rattle.command_pay.specs.Run.{IsReportBy, IsRun}
use Rattle.command_pay.specs.declared.report.PaidReport.{PaidReport}

-- What holds of the bytes that were written holds of those of a payment that is taken.
pub taken_with : (told : Type 0) (a : Asked) (files after : ShelfView) (status : Status) (f : PaidReport) (said read log logged reported psbt : List ℕ) (P : (NewFile → List ℕ) → Type 0) → IsRun told a files after status said log → status ≡ statuses.Done → read ≡ said → IsReportBy a.way read f → fee_in f ≤ greatest_fee a
    → logged ≡ log → reported ≡ said → psbt ≡ psbt_in f → P (contents a logged reported psbt) → (taken : IsTaken told a files after f log) × P (contents_of told a files after f log taken)
taken_with told a files after status f said read log logged reported psbt P run done same report fee same_log same_report same_psbt holds =
    let taken : IsTaken told a files after f log = record {
      payment = record {
        said = said;
        run = subst (λ (s : Status). IsRun told a files after s said log) done run;
        report = subst (λ (t : List ℕ). IsReportBy a.way t f) same report;
      };
      fee = fee;
    } in
    (taken, subst (λ (p : List ℕ). P (contents a log said p)) same_psbt (subst (λ (r : List ℕ). P (contents a log r psbt)) same_report (subst (λ (l : List ℕ). P (contents a l reported psbt)) same_log holds)))
