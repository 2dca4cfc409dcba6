-- The verdict on a report, put together from those on its payment and its log.
use Rattle.std.specs.Prelude.{ℕ, ◌≡◌, ◌≢◌, List, Result, Ok, Err, IfErr, MatchResult, OnOk}
use Rattle.std.proofs.Common.{refl, sym, subst}
use Rattle.closing_log.specs.Log.{PlainLog, PlainSection}
use Rattle.fund_plan.specs.Steps.{steps_of}
use Rattle.fund_report.specs.PlainFunded.{PlainFunded}
use Rattle.fund_report.specs.declared.report.Report.{Report}
use Rattle.fund_report.specs.declared.report.Report.TheVariants.{Funded, NoSelection}
use Rattle.fund_steps.specs.Plan.{PlainPlan}
use Rattle.report_check.specs.Judging.{AreBacking, IsBackRefusal, IsBackedBy, IsLogFault}
use Rattle.report_check.specs.PaidRefused.{IsPaidRefusal}
use Rattle.report_check.specs.Proved.{IsEndedText}
use Rattle.report_check.specs.Refused.{BreaksBefore, IsFormRefusal}
use Rattle.report_check.specs.Verdict.{HasLog, IsAccepted, IsReportRefusal, IsPaid}
use Rattle.report_check.specs.declared.fault.CheckFault.{CheckFault}
use Rattle.report_check.specs.declared.fault.CheckFault.TheVariants.{Report as ReportFault, Psbt, Coin, Pays, LogForm, Section, Log, Answer, Memory}
use Rattle.report_check.proofs.VerdictLaws.{accepted_apart, one_fault_of}

-- ---- sections

pub before_back : (p : PlainPlan) (r : Report) (sections : List PlainSection) (e : CheckFault) → BreaksBefore (steps_of p) r sections e → IsBackRefusal p r sections e
before_back p r sections (Section i) h = h
before_back p r sections (Log i e) h = h
before_back p r sections (ReportFault place) h = h
before_back p r sections Memory h = h
before_back p r sections Answer h = absurd h
before_back p r sections (Psbt e) h = absurd h
before_back p r sections (Coin point) h = absurd h
before_back p r sections Pays h = absurd h
before_back p r sections (LogForm place) h = absurd h

-- ---- a log

pub log_backs : (p : PlainPlan) (r : Report) (bytes : List ℕ) (log : PlainLog) → IsEndedText bytes log → AreBacking p r log.closed → IsBackedBy p r bytes
log_backs p r bytes log text h = (log, text, record { sections = h.right; proved = h.proved; tries = h.tries; answer = h.answer })

pub form_fault : (p : PlainPlan) (r : Report) (bytes : List ℕ) (e : CheckFault) → IsFormRefusal bytes e → IsLogFault p r bytes e
form_fault p r bytes (LogForm place) h = h
form_fault p r bytes Memory h = tt
form_fault p r bytes (Section i) h = absurd h
form_fault p r bytes (Log i e) h = absurd h
form_fault p r bytes (ReportFault place) h = absurd h
form_fault p r bytes Answer h = absurd h
form_fault p r bytes (Psbt e) h = absurd h
form_fault p r bytes (Coin point) h = absurd h
form_fault p r bytes Pays h = absurd h

pub back_fault : (p : PlainPlan) (r : Report) (bytes : List ℕ) (log : PlainLog) (e : CheckFault) → IsEndedText bytes log → IsBackRefusal p r log.closed e → IsLogFault p r bytes e
back_fault p r bytes log (Section i) text h = (log, text, h)
back_fault p r bytes log (Log i e) text h = (log, text, h)
back_fault p r bytes log (ReportFault place) text h = (log, text, h)
back_fault p r bytes log Answer text h = (log, text, h)
back_fault p r bytes log Memory text h = tt
back_fault p r bytes log (LogForm place) text h = absurd h
back_fault p r bytes log (Psbt e) text h = absurd h
back_fault p r bytes log (Coin point) text h = absurd h
back_fault p r bytes log Pays text h = absurd h

-- ---- a report

pub paid_fault : (p : PlainPlan) (f : PlainFunded) (bytes : List ℕ) (e : CheckFault) → IsPaidRefusal p f e → IsReportRefusal p (Funded f) bytes e
paid_fault p f bytes (Psbt e) h = h
paid_fault p f bytes (Coin point) h = h
paid_fault p f bytes Pays h = h
paid_fault p f bytes Memory h = tt
paid_fault p f bytes (LogForm place) h = absurd h
paid_fault p f bytes (Section i) h = absurd h
paid_fault p f bytes (Log i e) h = absurd h
paid_fault p f bytes (ReportFault place) h = absurd h
paid_fault p f bytes Answer h = absurd h

pub log_fault : (p : PlainPlan) (r : Report) (bytes : List ℕ) (e : CheckFault) → HasLog r → IsPaid p r → IsLogFault p r bytes e → IsReportRefusal p r bytes e
log_fault p r bytes (LogForm place) has paid h = (has, paid, h)
log_fault p r bytes (Section i) has paid h = (has, paid, h)
log_fault p r bytes (Log i e) has paid h = (has, paid, h)
log_fault p r bytes (ReportFault place) has paid h = (has, paid, h)
log_fault p r bytes Answer has paid h = (has, paid, h)
log_fault p r bytes Memory has paid h = tt
log_fault p r bytes (Psbt e) has paid h = absurd h
log_fault p r bytes (Coin point) has paid h = absurd h
log_fault p r bytes Pays has paid h = absurd h

-- ---- both ways

is_memory : (e : CheckFault) → (e ≢ Memory → ⊥) → e ≡ Memory
is_memory Memory h = refl
is_memory (Psbt e) h = absurd (h (λ x. cc))
is_memory (Coin point) h = absurd (h (λ x. cc))
is_memory Pays h = absurd (h (λ x. cc))
is_memory (LogForm place) h = absurd (h (λ x. cc))
is_memory (Section i) h = absurd (h (λ x. cc))
is_memory (Log i e) h = absurd (h (λ x. cc))
is_memory (ReportFault place) h = absurd (h (λ x. cc))
is_memory Answer h = absurd (h (λ x. cc))

pub accepts_back : {Y : Type 0} (p : PlainPlan) (r : Report) (bytes : List ℕ) (result : Result Y CheckFault) → IfErr result (IsReportRefusal p r bytes) → IsAccepted p r bytes → MatchResult result (λ y. Unit {0}) (λ e. e ≡ Memory)
accepts_back p r bytes (Ok y) h accepted = tt
accepts_back p r bytes (Err e) h accepted = is_memory e (λ apart. accepted_apart p r bytes e accepted apart h)

pub refuses_back : {Y : Type 0} (p : PlainPlan) (r : Report) (bytes : List ℕ) (result : Result Y CheckFault) → OnOk result (IsAccepted p r bytes) → IfErr result (IsReportRefusal p r bytes) → (e : CheckFault) → e ≢ Memory → IsReportRefusal p r bytes e → MatchResult result (λ y. ⊥) (λ d. d ≢ Memory → d ≡ e)
refuses_back p r bytes (Ok y) accepted h e apart fault = accepted_apart p r bytes e accepted apart fault
refuses_back p r bytes (Err d) accepted h e apart fault = λ other. one_fault_of p r bytes d e other apart h fault

-- ---- by the report

pub none_accepted : {Y : Type 0} (p : PlainPlan) (tries : ℕ) (r : Report) (bytes : List ℕ) (result : Result Y CheckFault) → r ≡ NoSelection tries → OnOk result (IsBackedBy p r bytes) → OnOk result (IsAccepted p r bytes)
none_accepted p tries r bytes (Ok y) is h = subst (λ (q : Report). IsAccepted p q bytes) (sym is) (subst (λ (q : Report). IsBackedBy p q bytes) is h)
none_accepted p tries r bytes (Err e) is h = tt

pub none_fault : {Y : Type 0} (p : PlainPlan) (tries : ℕ) (r : Report) (bytes : List ℕ) (result : Result Y CheckFault) → r ≡ NoSelection tries → IfErr result (IsLogFault p r bytes) → IfErr result (IsReportRefusal p r bytes)
none_fault p tries r bytes (Ok y) is h = tt
none_fault p tries r bytes (Err e) is h = subst (λ (q : Report). IsReportRefusal p q bytes e) (sym is) (log_fault p (NoSelection tries) bytes e tt tt (subst (λ (q : Report). IsLogFault p q bytes e) is h))

pub funded_accepted : {Y : Type 0} (p : PlainPlan) (f : PlainFunded) (r : Report) (bytes : List ℕ) (result : Result Y CheckFault) → r ≡ Funded f → IsPaid p (Funded f) → OnOk result (IsBackedBy p r bytes) → OnOk result (IsAccepted p r bytes)
funded_accepted p f r bytes (Ok y) is paid h = subst (λ (q : Report). IsAccepted p q bytes) (sym is) (paid, subst (λ (q : Report). IsBackedBy p q bytes) is h)
funded_accepted p f r bytes (Err e) is paid h = tt

pub funded_fault : {Y : Type 0} (p : PlainPlan) (f : PlainFunded) (r : Report) (bytes : List ℕ) (result : Result Y CheckFault) → r ≡ Funded f → IsPaid p (Funded f) → IfErr result (IsLogFault p r bytes) → IfErr result (IsReportRefusal p r bytes)
funded_fault p f r bytes (Ok y) is paid h = tt
funded_fault p f r bytes (Err e) is paid h = subst (λ (q : Report). IsReportRefusal p q bytes e) (sym is) (log_fault p (Funded f) bytes e tt paid (subst (λ (q : Report). IsLogFault p q bytes e) is h))

pub paid_first : (p : PlainPlan) (f : PlainFunded) (r : Report) (bytes : List ℕ) (e : CheckFault) → r ≡ Funded f → IsPaidRefusal p f e → IsReportRefusal p r bytes e
paid_first p f r bytes e is h = subst (λ (q : Report). IsReportRefusal p q bytes e) (sym is) (paid_fault p f bytes e h)

pub has_log_none : (tries : ℕ) (r : Report) → r ≡ NoSelection tries → HasLog r
has_log_none tries r is = subst HasLog (sym is) tt

pub has_log_funded : (f : PlainFunded) (r : Report) → r ≡ Funded f → HasLog r
has_log_funded f r is = subst HasLog (sym is) tt
