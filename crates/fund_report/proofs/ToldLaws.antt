-- What reading a report tells is what the bytes are.
use Rattle.std.proofs.Common.{◌≡◌, ℕ, ◌+◌, ◌-◌, ◌<◌, List, [], ◌∷◌, length, Result, Ok, Err, refl, sym, ap, subst, ◌∙◌, arith}
use Rattle.std.specs.Prelude.{IfOk, IfErr, MatchResult}
use Rattle.fund_base.specs.Parsing.{◌>>=◌}
use Rattle.closing_log.specs.Exact.{IsFirstFault}
use Rattle.closing_log.proofs.FirstFaults.{first_fault, one_meaning, read_means, read_stops, stop_within}
use Rattle.fund_report.specs.declared.fault.ReportFault.{ReportFault}
use Rattle.fund_report.specs.declared.fault.ReportFault.TheVariants as faults
use Rattle.fund_report.specs.Reading.{end_of, lines_at, report_at}
use Rattle.fund_report.specs.declared.report.Report.{Report}
use Rattle.fund_report.specs.declared.report.Report.TheVariants.{Funded, NoSelection, Unfinished}
use Rattle.fund_report.specs.ReportText.{CanBeRead, IsReportText}
use Rattle.fund_report.specs.Reported.{IsReportFault, IsPlaceOf, Agrees}
use Rattle.fund_report.proofs.ReportLaws.{report_law}

-- a text has one report
pub one_report : (bytes : List ℕ) (a b : Report) → IsReportText bytes a → IsReportText bytes b → a ≡ b
one_report bytes a b first second = one_meaning report_at IsReportText report_law bytes a b first second

fault_at : (bytes stop : List ℕ) (place : ℕ) → report_at bytes ≡ Err stop → place + length stop ≡ length bytes → IsFirstFault IsReportText bytes place
fault_at bytes stop place e place-is = first_fault report_at IsReportText report_law bytes stop place e place-is

-- ---- what the reader tells

tell_fault : (bytes stop : List ℕ) (f : ReportFault) → f ≡ faults.Form (length bytes - length stop) → report_at bytes ≡ Err stop → Agrees bytes (Err f) (report_at bytes)
tell_fault bytes stop f is e =
    let place : IsPlaceOf bytes (report_at bytes) (length bytes - length stop) = record { stop = stop; is = e; place_is = omega (arith, stop_within IsReportText bytes stop (read_stops report_at IsReportText report_law bytes stop e)) } in
    subst (λ (g : ReportFault). Agrees bytes (Err g) (report_at bytes)) (sym is) place

pub tell_lines : (bytes stop : List ℕ) (f : ReportFault) → f ≡ faults.Form (length bytes - length stop) → lines_at bytes ≡ Err stop → Agrees bytes (Err f) (report_at bytes)
unfolding report_at
tell_lines bytes stop f is e = tell_fault bytes stop f is (ap (λ (r : Result (Report × List ℕ) (List ℕ)). r >>= λ x. end_of x.0 x.1) e)

behind_lines : (bytes rest : List ℕ) (report : Report) → lines_at bytes ≡ Ok (report, rest) → report_at bytes ≡ end_of report rest
unfolding report_at
behind_lines bytes rest report e = ap (λ (r : Result (Report × List ℕ) (List ℕ)). r >>= λ x. end_of x.0 x.1) e

end_fails : (r : Report) (after : List ℕ) → 0 < length after → end_of r after ≡ Err after
end_fails r [] some = absurd (omega arith)
end_fails r (b ∷ after) some = refl

pub tell_end : (bytes rest : List ℕ) (report : Report) (f : ReportFault) → f ≡ faults.Form (length bytes - length rest) → lines_at bytes ≡ Ok (report, rest) → 0 < length rest → Agrees bytes (Err f) (report_at bytes)
tell_end bytes rest report f is e some = tell_fault bytes rest f is (behind_lines bytes rest report e ∙ end_fails report rest some)

pub tell_report : (bytes rest : List ℕ) (report : Report) → lines_at bytes ≡ Ok (report, rest) → rest ≡ [] → report_at bytes ≡ Ok report
tell_report bytes rest report e nothing = behind_lines bytes rest report e ∙ ap (end_of report) nothing

-- ---- the clauses

pub tells_found : (bytes : List ℕ) (r : Result Report ReportFault) → Agrees bytes r (report_at bytes) → IfOk r (λ report. IsReportText bytes report)
tells_found bytes (Ok report) e = read_means report_at IsReportText report_law bytes report e
tells_found bytes (Err f) e = tt

pub tells_only : (bytes : List ℕ) (r : Result Report ReportFault) → Agrees bytes r (report_at bytes) → (report : Report) → IsReportText bytes report → MatchResult r (λ read. read ≡ report) (λ e. e ≡ faults.Memory)
tells_only bytes (Ok read) e report i = one_report bytes read report (read_means report_at IsReportText report_law bytes read e) i
tells_only bytes (Err faults.Memory) e report i = refl
tells_only bytes (Err (faults.Form place)) e report i = absurd ((fault_at bytes e.stop place e.is e.place_is).whole report i)

pub tells_fault : (bytes : List ℕ) (r : Result Report ReportFault) → Agrees bytes r (report_at bytes) → IfErr r (IsReportFault bytes)
tells_fault bytes (Ok report) e = tt
tells_fault bytes (Err faults.Memory) e = tt
tells_fault bytes (Err (faults.Form place)) e = fault_at bytes e.stop place e.is e.place_is

-- ---- what is a text can be read

pub can_of : (bytes : List ℕ) (r : Report) → IsReportText bytes r → CanBeRead r
can_of bytes (Funded f) i = i.can
can_of bytes (NoSelection tries) i = tt
can_of bytes (Unfinished tries row stage) i = i.1
