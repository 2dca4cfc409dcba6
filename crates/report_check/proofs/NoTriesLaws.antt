-- A report of the presets alone tells of no try.
use Rattle.std.specs.Prelude.{ℕ, ◌≡◌, ◌<◌, List, []}
use Rattle.std.proofs.Common.{refl, ap, ◌∙◌, arith}
use Rattle.closing_log.specs.Log.{PlainLog, PlainSection}
use Rattle.closing_log.specs.declared.mark.Mark.{Mark}
use Rattle.closing_log.specs.declared.mark.Mark.TheVariants.{Exhausted, Partial, Drawn, Given}
use Rattle.fund_plan.specs.Steps.{steps_of}
use Rattle.fund_report.specs.PlainFunded.{PlainFunded}
use Rattle.fund_report.specs.declared.report.Report.TheVariants as reports
use Rattle.fund_steps.specs.Plan.{PlainPlan}
use Rattle.search_run.specs.Searched.{searches}
use Rattle.search_run.specs.Step.{PlainStep}
use Rattle.report_check.specs.DueSections.{AreRightBy}
use Rattle.report_check.specs.Proved.{AreProved, HasTriesBy, IsEndedText, tries_in, tries_place}
use Rattle.report_check.specs.Verdict.{IsAccepted, IsReportRefusal, IsPaid}
use Rattle.report_check.specs.declared.fault.CheckFault.TheVariants.{Report as ReportFault}

-- no section is due, so there is none, and no try
none_due : (m : Mark) (steps : List PlainStep) (f : PlainFunded) (sections : List PlainSection) → m ≡ Given → AreRightBy m steps f.row f.stage sections → HasTriesBy m f.tries sections → f.tries ≡ 0
none_due Exhausted steps f sections is right tries = absurd cc
none_due Partial steps f sections is right tries = absurd cc
none_due Drawn steps f sections is right tries = absurd cc
none_due Given steps f sections is right tries = tries ∙ ap tries_in right

pub no_tries : (p : PlainPlan) (f : PlainFunded) (bytes : List ℕ) → f.mark ≡ Given → IsAccepted p (reports.Funded f) bytes → f.tries ≡ 0
no_tries p f bytes is accepted = let backed = accepted.1.2 in none_due f.mark (steps_of p) f accepted.1.0.closed is backed.sections backed.tries

right_none : (m : Mark) (steps : List PlainStep) (f : PlainFunded) → m ≡ Given → AreRightBy m steps f.row f.stage []
right_none Exhausted steps f is = absurd cc
right_none Partial steps f is = absurd cc
right_none Drawn steps f is = absurd cc
right_none Given steps f is = refl

tries_none : (m : Mark) (f : PlainFunded) → m ≡ Given → 0 < f.tries → HasTriesBy m f.tries [] → ⊥
tries_none Exhausted f is some tries = absurd cc
tries_none Partial f is some tries = absurd cc
tries_none Drawn f is some tries = absurd cc
tries_none Given f is some tries = omega (arith, some, tries)

proved_none : (steps : List PlainStep) → AreProved steps []
proved_none steps = record { front = []; rest = searches steps; parts = refl; each = tt }

pub tries_refused : (p : PlainPlan) (f : PlainFunded) (bytes : List ℕ) (log : PlainLog) → f.mark ≡ Given → 0 < f.tries → IsPaid p (reports.Funded f) → IsEndedText bytes log → log.closed ≡ [] → IsReportRefusal p (reports.Funded f) bytes (ReportFault (tries_place (reports.Funded f)))
tries_refused p f bytes log is some paid ended none = (
  tt,
  paid,
  (
    log,
    ended,
    (
      rw none (right_none f.mark (steps_of p) f is),
      rw none (proved_none (steps_of p)),
      rw none (tries_none f.mark f is some),
      refl,
    ),
  ),
)
