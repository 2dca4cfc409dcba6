-- Why the reading and the judging stop, joined over the calls that were made.
use Rattle.std.proofs.Common.{◌≡◌, ℕ, List, Result, Ok, Err, inl, inr, refl, sym, subst}
use Rattle.std.specs.Prelude.{IfErr, IfOk, String, string_bytes}
use Rattle.std.specs.declared.alloc.Global.{Global}
use Rattle.fund_shelf.proofs.Outside.{rose_earlier}
use Rattle.fund_shelf.specs.Causes.{OnlyReads, Rose, ShelfView}
use Rattle.fund_report.specs.declared.fault.ReportFault.{ReportFault}
use Rattle.fund_report.specs.declared.fault.ReportFault.TheVariants as forms
use Rattle.fund_report.specs.Reported.{IsReportFault}
use Rattle.fund_report.specs.declared.report.Report as reports
use Rattle.fund_report.specs.declared.report.Report.TheVariants.{Funded, NoSelection, Unfinished}
use Rattle.fund_steps.specs.Plan.{PlainPlan}
use Rattle.report_check.specs.Verdict.{HasLog, IsAccepted, IsReportRefusal, IsPaid}
use Rattle.report_check.specs.Vouched.{Vouches}
use Rattle.report_check.specs.declared.fault.CheckFault.{CheckFault}
use Rattle.report_check.specs.declared.fault.CheckFault.TheVariants as faults
use Rattle.command_end.specs.Names.{Sources}
use Rattle.command_inputs.specs.Names.{Payment}
use Rattle.command_check.proofs.ReplacedLaws.{replaced_as}
use Rattle.command_check.specs.Outcome.{CanBeJudged, IsFormBroken}
use Rattle.command_check.specs.Evidence.{AreRead, BurdenReplaces, HasLoggedReport, HasReport, HavePlan, IsPlanOf, IsReplacingPlan, IsTooLong, IsWithin}
use Rattle.command_check.specs.Statuses.{IsVouched}
use Rattle.command_check.specs.Stops.{StopsAtEvidence, StopsAtLog, StopsAtReport, StopsFor, StopsJudging, StopsReading, form_stop_of, stop_of_fault}
use Rattle.command_check.specs.Words.{accepted_text}
use Rattle.command_check.specs.declared.stop.CheckedFile.{CheckedFile}
use Rattle.command_check.specs.declared.stop.CheckedFile.TheVariants.{Report, Log}
use Rattle.command_check.specs.declared.stop.Stop.{Stop}
use Rattle.command_check.specs.declared.stop.Stop.TheVariants as stops

-- ---- one file

pub report_stops : (told : Type 0) (name : List ℕ) (old new : ShelfView) (stop : Stop) → StopsReading told Report name old new stop → StopsAtReport told name old new stop
report_stops told name old new (stops.Payment stop) h = absurd h
report_stops told name old new (stops.Read file) h = h
report_stops told name old new (stops.TooLong file) h = h
report_stops told name old new (stops.Broken fault) h = absurd h
report_stops told name old new stops.Memory h = tt

-- a report that isn't read leaves the texts of reports, or there was not enough memory
pub form_stops : (told : Type 0) (name bytes : List ℕ) (old new : ShelfView) (fault : ReportFault) → (told → IsWithin (old.files name)) → (told → bytes ≡ old.files name) → IsReportFault bytes fault → StopsAtReport told name old new (form_stop_of fault)
form_stops told name bytes old new (forms.Form place) fits same h =
    ((λ (e : faults.Report place ≡ faults.Memory). cc), λ t. record { fits = fits t; place = place; first = rw (sym (same t)) h; is = refl })
form_stops told name bytes old new forms.Memory fits same h = tt

pub log_stops : (told : Type 0) (r : reports.Report) (name : List ℕ) (old new : ShelfView) (stop : Stop) → HasLog r → StopsReading told Log name old new stop → StopsAtLog told r name old new stop
log_stops told r name old new (stops.Payment stop) has h = absurd h
log_stops told r name old new (stops.Read file) has h = (h.0, has, h.1)
log_stops told r name old new (stops.TooLong file) has h = (h.0, has, h.1)
log_stops told r name old new (stops.Broken fault) has h = absurd h
log_stops told r name old new stops.Memory has h = tt

pub if_log_stops : (told : Type 0) (r : reports.Report) (name : List ℕ) (old new : ShelfView) {T : Type 0} (result : Result T Stop) → HasLog r → IfErr result (StopsReading told Log name old new) → IfErr result (StopsAtLog told r name old new)
if_log_stops told r name old new (Ok x) has h = tt
if_log_stops told r name old new (Err stop) has h = log_stops told r name old new stop has h

-- ---- both

read_unread : (told : Type 0) (report log : List ℕ) (old new : ShelfView) (file : CheckedFile) → file ≡ Report → Rose (old.reads report) (new.reads report) → StopsAtEvidence told report log old new (stops.Read file)
read_unread told report log old new file is rose = subst (λ (f : CheckedFile). StopsAtEvidence told report log old new (stops.Read f)) (sym is) rose

read_long : (told : Type 0) (report log : List ℕ) (old new : ShelfView) (file : CheckedFile) → file ≡ Report → (told → IsTooLong (old.files report)) → StopsAtEvidence told report log old new (stops.TooLong file)
read_long told report log old new file is long = subst (λ (f : CheckedFile). StopsAtEvidence told report log old new (stops.TooLong f)) (sym is) long

-- at the report
pub found_stops : (told : Type 0) (report log : List ℕ) (old new : ShelfView) (stop : Stop) → StopsAtReport told report old new stop → StopsAtEvidence told report log old new stop
found_stops told report log old new (stops.Payment stop) h = absurd h
found_stops told report log old new (stops.Read file) h = read_unread told report log old new file h.0 h.1
found_stops told report log old new (stops.TooLong file) h = read_long told report log old new file h.0 h.1
found_stops told report log old new (stops.Broken fault) h = h
found_stops told report log old new stops.Memory h = tt

log_reached : (told : Type 0) (report : List ℕ) (old : ShelfView) (r : reports.Report) → (told → HasReport (old.files report) r) → HasLog r → told → HasLoggedReport (old.files report)
log_reached told report old r found has t = (r, found t, has)

log_long : (old middle : ShelfView) (log : List ℕ) → middle.files ≡ old.files → IsTooLong (middle.files log) → IsTooLong (old.files log)
log_long old middle log same long = subst (λ (files : List ℕ → List ℕ). IsTooLong (files log)) same long

-- at the log, which was read after it
pub beside_stops : (told : Type 0) (report log : List ℕ) (old middle new : ShelfView) (r : reports.Report) (stop : Stop) → (told → HasReport (old.files report) r) → OnlyReads told old middle → StopsAtLog told r log middle new stop → StopsAtEvidence told report log old new stop
beside_stops told report log old middle new r (stops.Payment stop) found only h = absurd h
beside_stops told report log old middle new r (stops.Read file) found only h =
    subst (λ (f : CheckedFile). StopsAtEvidence told report log old new (stops.Read f)) (sym h.0) (rose_earlier _ _ _ (only.reads log) h.2, log_reached told report old r found h.1)
beside_stops told report log old middle new r (stops.TooLong file) found only h =
    subst (λ (f : CheckedFile). StopsAtEvidence told report log old new (stops.TooLong f)) (sym h.0) (λ t. (log_reached told report old r found h.1 t, log_long old middle log (only.same t) (h.2 t)))
beside_stops told report log old middle new r (stops.Broken fault) found only h = absurd h
beside_stops told report log old middle new r stops.Memory found only h = tt

-- what was read
pub pair_is : (old middle : ShelfView) (report log : List ℕ) (r : reports.Report) (bytes : List ℕ) → middle.files ≡ old.files → HasReport (old.files report) r → (HasLog r → bytes ≡ middle.files log) → (HasLog r → IsWithin (middle.files log)) → AreRead (old.files report) (old.files log) r bytes
pair_is old middle report log r bytes same found is fits = record {
  report = found;
  within = λ has. subst (λ (files : List ℕ → List ℕ). IsWithin (files log)) same (fits has);
  log_is = λ has. subst (λ (files : List ℕ → List ℕ). bytes ≡ files log) same (is has);
}

-- ---- the judgement

-- of a report without a log the bytes don't matter
accepted_beside : (plan : PlainPlan) (r : reports.Report) (log file : List ℕ) → (HasLog r → log ≡ file) → IsAccepted plan r log → IsAccepted plan r file
accepted_beside plan (Funded f) log file same h = subst (λ (bytes : List ℕ). IsAccepted plan (Funded f) bytes) (same tt) h
accepted_beside plan (NoSelection tries) log file same h = subst (λ (bytes : List ℕ). IsAccepted plan (NoSelection tries) bytes) (same tt) h
accepted_beside plan (Unfinished tries row stage) log file same h = tt

open_fault : (plan : PlainPlan) (tries row : ℕ) (stage : _) (log file : List ℕ) (fault : CheckFault) → IsReportRefusal plan (Unfinished tries row stage) log fault → IsReportRefusal plan (Unfinished tries row stage) file fault
open_fault plan tries row stage log file (faults.Report place) h = absurd h.0
open_fault plan tries row stage log file (faults.Psbt e) h = absurd h
open_fault plan tries row stage log file (faults.Coin point) h = absurd h
open_fault plan tries row stage log file faults.Pays h = absurd h
open_fault plan tries row stage log file (faults.LogForm place) h = absurd h.0
open_fault plan tries row stage log file (faults.Section i) h = absurd h.0
open_fault plan tries row stage log file (faults.Log i e) h = absurd h.0
open_fault plan tries row stage log file faults.Answer h = absurd h.0
open_fault plan tries row stage log file faults.Memory h = tt

fault_beside : (plan : PlainPlan) (r : reports.Report) (log file : List ℕ) (fault : CheckFault) → (HasLog r → log ≡ file) → IsReportRefusal plan r log fault → IsReportRefusal plan r file fault
fault_beside plan (Funded f) log file fault same h = subst (λ (bytes : List ℕ). IsReportRefusal plan (Funded f) bytes fault) (same tt) h
fault_beside plan (NoSelection tries) log file fault same h = subst (λ (bytes : List ℕ). IsReportRefusal plan (NoSelection tries) bytes fault) (same tt) h
fault_beside plan (Unfinished tries row stage) log file fault same h = open_fault plan tries row stage log file fault h

pub accepted_pays : (plan : PlainPlan) (r : reports.Report) (log : List ℕ) → IsAccepted plan r log → IsPaid plan r
accepted_pays plan (Funded f) log h = h.0
accepted_pays plan (NoSelection tries) log h = tt
accepted_pays plan (Unfinished tries row stage) log h = tt

-- ---- the files

module _ (told : Type 0) (s : Sources) (p : Payment) (report : List ℕ) (plan : PlainPlan) (old middle new : ShelfView) (of : IsPlanOf told old.files s p plan) (only : OnlyReads told old middle) where
  have_plan : told → HavePlan old.files s p plan
  have_plan t = record { wallet = of.wallet; blocks = of.blocks; asked = of.asked; inputs = λ u. of.inputs t; is = of.is; rules = of.rules }

  long_back : (name : List ℕ) → told → IsTooLong (middle.files name) → IsTooLong (old.files name)
  long_back name t long = subst (λ (files : List ℕ → List ℕ). IsTooLong (files name)) (only.same t) long

  logged_back : told → HasLoggedReport (middle.files report) → HasLoggedReport (old.files report)
  logged_back t h = subst (λ (files : List ℕ → List ℕ). HasLoggedReport (files report)) (only.same t) h

  form_back : (fault : CheckFault) → told → IsFormBroken (middle.files report) fault → IsFormBroken (old.files report) fault
  form_back fault t h = subst (λ (files : List ℕ → List ℕ). IsFormBroken (files report) fault) (only.same t) h

  -- at the report or at the log
  pub evidence_stops : (stop : Stop) → StopsAtEvidence told report p.log middle new stop → StopsFor told s p report old new stop
  evidence_stops (stops.Payment stop) h = absurd h
  evidence_stops (stops.Read Report) h = (rose_earlier _ _ _ (only.reads report) h, λ t. (plan, have_plan t))
  evidence_stops (stops.Read Log) h = (rose_earlier _ _ _ (only.reads p.log) h.0, λ t. (plan, have_plan t, logged_back t (h.1 t)))
  evidence_stops (stops.TooLong Report) h = λ t. ((plan, have_plan t), long_back report t (h t))
  evidence_stops (stops.TooLong Log) h = λ t.
      let x = h t in
      ((plan, have_plan t, logged_back t x.0), long_back p.log t x.1)
  evidence_stops (stops.Broken fault) h = (h.0, λ t. inl ((plan, have_plan t), form_back fault t (h.1 t)))
  evidence_stops stops.Memory h = tt

  module _ (r : reports.Report) (log : List ℕ) (read : told → AreRead (middle.files report) (middle.files p.log) r log) where
    read_back : told → AreRead (old.files report) (old.files p.log) r log
    read_back t = subst (λ (files : List ℕ → List ℕ). AreRead (files report) (files p.log) r log) (only.same t) (read t)

    can_judge : told → CanBeJudged old.files s p report plan r
    can_judge t =
        let a = read_back t in
        record { plan_is = have_plan t; found = a.report; within = a.within }

    -- at the judgement
    pub judging_stops : (stop : Stop) → StopsJudging plan r log stop → StopsFor told s p report old new stop
    judging_stops (stops.Payment stop) h = absurd h
    judging_stops (stops.Read file) h = absurd h
    judging_stops (stops.TooLong file) h = absurd h
    judging_stops (stops.Broken fault) h =
        (h.0, λ t. inr (record { plan = plan; found = r; judged = can_judge t; first = fault_beside plan r log (old.files p.log) fault (read_back t).log_is h.1; real = h.0 }))
    judging_stops stops.Memory h = tt

    pub vouched_is : (text : List ℕ) → IsAccepted plan r log → Vouches plan r → BurdenReplaces of.wallet of.blocks of.asked plan → text ≡ accepted_text r → IsVouched told old.files s p report text
    vouched_is text accepted vouches replacing prints = record {
      plan = plan;
      inputs = of;
      found = r;
      log = log;
      form = λ t. (read_back t).report.form;
      beside = λ t. (read_back t).log_is;
      accepted = accepted;
      pays = accepted_pays plan r log accepted;
      vouches = vouches;
      replaces = replaced_as of.wallet of.blocks of.asked plan replacing of.rules r (accepted_pays plan r log accepted);
      prints = prints;
      comes_to = λ t. record { plan = plan; judged = can_judge t; accepted = accepted_beside plan r log (old.files p.log) (read_back t).log_is accepted };
    }

-- ---- what isn't there

-- files that hold a plan hold one
pub no_plan : (told : Type 0) (files : List ℕ → List ℕ) (s : Sources) (p : Payment) (plan : PlainPlan) → IsPlanOf told files s p plan → told → ((a : PlainPlan) → HavePlan files s p a → ⊥) → ⊥
no_plan told files s p plan of t none = none plan (record { wallet = of.wallet; blocks = of.blocks; asked = of.asked; inputs = λ u. of.inputs t; is = of.is; rules = of.rules })

-- a report without a log is one behind a read too
pub not_logged : (told : Type 0) (report : List ℕ) (old middle : ShelfView) → OnlyReads told old middle → told → (HasLoggedReport (old.files report) → ⊥) → HasLoggedReport (middle.files report) → ⊥
not_logged told report old middle only t none h = none (subst (λ (files : List ℕ → List ℕ). HasLoggedReport (files report)) (only.same t) h)

-- ---- results

pub if_judging_stops : (told : Type 0) (s : Sources) (p : Payment) (report : List ℕ) (plan : PlainPlan) (old middle new : ShelfView) (r : reports.Report) (log : List ℕ) (result : Result (String Global) Stop) → IsPlanOf told old.files s p plan → OnlyReads told old middle
    → (told → AreRead (middle.files report) (middle.files p.log) r log) → IfErr result (StopsJudging plan r log) → IfErr result (StopsFor told s p report old new)
if_judging_stops told s p report plan old middle new r log (Ok text) of only read h = tt
if_judging_stops told s p report plan old middle new r log (Err stop) of only read h = judging_stops told s p report plan old middle new of only r log read stop h

pub if_vouched : (told : Type 0) (s : Sources) (p : Payment) (report : List ℕ) (plan : PlainPlan) (old middle new : ShelfView) (r : reports.Report) (log : List ℕ) (result : Result (String Global) Stop) → IsReplacingPlan told old.files s p plan → OnlyReads told old middle
    → (told → AreRead (middle.files report) (middle.files p.log) r log) → IfOk result (λ _. IsAccepted plan r log) → IfOk result (λ _. Vouches plan r) → IfOk result (λ text. string_bytes text ≡ accepted_text r)
    → IfOk result (λ text. IsVouched told old.files s p report (string_bytes text))
if_vouched told s p report plan old middle new r log (Ok text) h only read accepted vouches prints = vouched_is told s p report plan old middle new h.of only r log read (string_bytes text) accepted vouches h.replaces prints
if_vouched told s p report plan old middle new r log (Err stop) h only read accepted vouches prints = tt

-- ---- the judgement's faults

pub fault_stops : (plan : PlainPlan) (r : reports.Report) (log : List ℕ) (fault : CheckFault) → IsReportRefusal plan r log fault → StopsJudging plan r log (stop_of_fault fault)
fault_stops plan r log (faults.Report place) h = ((λ e. cc), h)
fault_stops plan r log (faults.Psbt e) h = ((λ is. cc), h)
fault_stops plan r log (faults.Coin point) h = ((λ e. cc), h)
fault_stops plan r log faults.Pays h = ((λ e. cc), h)
fault_stops plan r log (faults.LogForm place) h = ((λ e. cc), h)
fault_stops plan r log (faults.Section i) h = ((λ e. cc), h)
fault_stops plan r log (faults.Log i e) h = ((λ is. cc), h)
fault_stops plan r log faults.Answer h = ((λ e. cc), h)
fault_stops plan r log faults.Memory h = tt
