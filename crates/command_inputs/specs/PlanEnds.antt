-- How a request ends, as one of the outcomes of the files.
use Rattle.std.specs.Prelude.{ℕ, ◌≡◌, ◌≢◌, true, List, [], ◌∷◌, All, None}
use Rattle.closing_log.specs.LogText as logs
use Rattle.closing_log.specs.LogText.{IsLogText}
use Rattle.fund_plan.specs.Answer.{ArePayments, HasSelection, IsPayment, IsSelection}
use Rattle.fund_plan.specs.Claims.{Claims, IsProvedNone, IsUsedUp}
use Rattle.fund_plan.specs.Outcome.{beginning_of, is_partial, log_at, outcome_at, stand_after, tries_at}
use Rattle.fund_plan.specs.Selection.{PlainFunded}
use Rattle.fund_plan.specs.State.{PlanState, end_in, moved}
use Rattle.fund_plan.specs.Steps.{steps_of}
use Rattle.fund_plan.specs.declared.outcome.Outcome.{Outcome as Answer}
use Rattle.fund_plan.specs.declared.outcome.Outcome.TheVariants as answers
use Rattle.fund_steps.specs.Listed.{MaySpend}
use Rattle.fund_steps.specs.Plan.{IsPlanFault, IsPlan, PlainPlan}
use Rattle.search_run.specs.Kept.{log_of}
use Rattle.search_run.specs.Step.{AreSteps, PlainStep}
use Rattle.fund_report.specs.ReportText.{IsRead, IsReportText}
use Rattle.fund_report.specs.declared.report.Report.TheVariants as kinds
use Rattle.fund_steps.specs.declared.fault.PlanFault.{PlanFault}
use Rattle.fund_steps.specs.declared.fault.PlanFault.TheVariants as plans
use Rattle.payment_states.specs.Makers.{HasMaker}
use Rattle.psbt_codec.specs.Psbt.{IsPsbt}
use Rattle.request_text.specs.PlainRequest.{PlainRequest}
use Rattle.fund_files.specs.Chain.{chain_from}
use Rattle.fund_files.specs.declared.chain.Chain.{Chain}
use Rattle.fund_payment.specs.Report.{psbt_of, report_of}
use Rattle.fund_payment.specs.Shown.{ShowsCoins}
use Rattle.kept_job.specs.Kept.{new_of}
use Rattle.kept_job.specs.SavingRules.{CanBeKept}
use Rattle.command_end.specs.Names.{Sources}
use Rattle.command_inputs.specs.Cause.{Cause, Files, Bump, Plan, cause_of}
use Rattle.command_inputs.specs.Outcome.{Refused, Unfinished, NoSelection, Funded, log_text_at, none_report_at, open_text, plan_of, planned, none_report, open_report}
use Rattle.command_inputs.specs.Names.{Payment}
use Rattle.command_inputs.specs.Packages.{PaysForPackages}
use Rattle.command_inputs.specs.Replacing.{ReplacesIf}
use Rattle.command_inputs.specs.Results.{IsFunded, IsNotFunded, IsUnfinished}
use Rattle.command_inputs.specs.declared.funding.Ending.{Ending}
use Rattle.command_inputs.specs.declared.funding.Ending.TheVariants as endings
use Rattle.command_inputs.specs.declared.funding.Left.{Left}
use Rattle.command_inputs.specs.declared.refusal.Refusal.TheVariants as refusals
use Rattle.command_inputs.specs.declared.refusal.Stop.{Stop}
use Rattle.command_inputs.specs.declared.refusal.Stop.TheVariants as stops

-- ---- a plan

-- a plan of this request, of which no try is made yet
pub record IsNew (k : Chain) (r : PlainRequest) (s : PlanState) : Type 0 where
  pub plan : s.plan ≡ plan_of k r
  pub stand : s.stand ≡ beginning_of s.plan
  pub partial : s.partial ≡ None

-- Where a plan stands that was granted so many tries from its beginning, and what it came to.
pub record IsAfter (p : PlainPlan) (n : ℕ) (s : PlanState) (o : Answer) : Type 0 where
  pub rules : IsPlan p
  pub steps : AreSteps (steps_of p)
  pub outcome : o ≡ outcome_at p n
  pub pays : ArePayments p o
  pub fits : HasSelection p.request o
  pub tries : s.stand.past.tries ≡ tries_at p n
  pub left : s.stand.left ≡ (stand_after p n).left
  pub log : log_of (is_partial (end_in s)) s.stand ≡ log_at p n
  pub stands : s ≡ moved (new_of p) n

-- a step is left whose stage a report can name
abbrev pub IsOpenAt : List PlainStep → Type 0
IsOpenAt [] = ⊥
IsOpenAt (x ∷ rest) = IsRead x.stage

-- the bytes are a report of the search that is open, which is the first that is left, after so many tries
abbrev pub IsOpenReport : List ℕ → ℕ → List PlainStep → Type 0
IsOpenReport bytes tries [] = ⊥
IsOpenReport bytes tries (x ∷ rest) = IsReportText bytes (kinds.Unfinished tries x.row x.stage)

-- ---- how it ends, whichever runs led there

-- A run that goes on stands at a search that a report can name; and one that came to a payment found one of the request, from
-- coins whose transactions the book has.
pub record CanEnd (k : Chain) (r : PlainRequest) (s : PlanState) (o : Answer) : Type 0 where
  pub goes_on : o ≡ answers.Unfinished → IsOpenAt s.stand.left
  pub selects : (f : PlainFunded) → o ≡ answers.Funded f → IsSelection r f
  pub makers : (f : PlainFunded) → o ≡ answers.Funded f → All (HasMaker k.book) f.coins

-- what is left of one that goes on: its report, its plan, and what is known of its job
pub record IsLeftOf {J : Type 0} (s : PlanState) (job : J) (left : Left J) : Type 0 where
  pub reports : left.report.items ≡ open_report s.stand.past.tries s.stand.left
  pub told : IsOpenReport left.report.items s.stand.past.tries s.stand.left
  pub plan_is : left.plan ≡ s
  pub job_is : left.job ≡ job

-- the report and the log of no selection
pub record AreNoneTexts (s : PlanState) (report log : List ℕ) : Type 0 where
  pub reports : report ≡ none_report s.stand.past.tries
  pub told : IsReportText report (kinds.NoSelection s.stand.past.tries)
  pub logs : log ≡ logs.text_of (log_of (is_partial (end_in s)) s.stand)

-- those of a payment
pub record ArePaidTexts (k : Chain) (r : PlainRequest) (s : PlanState) (f : PlainFunded) (report log : List ℕ) : Type 0 where
  pub psbt : IsPsbt (psbt_of k.book r k.wallet.change f)
  pub shows : ShowsCoins f.coins (psbt_of k.book r k.wallet.change f)
  pub reports : report ≡ report_of k.book r k.wallet.change s.stand.past.tries f
  pub logs : log ≡ logs.text_of (log_of (is_partial (end_in s)) s.stand)

-- how a request ends whose plan stands so, and came to this
abbrev pub IsEndOf : {J : Type 0} → Chain → PlainRequest → PlanState → Answer → J → Ending J → Type 0
IsEndOf k r s o job (endings.Unfinished left) = (o ≡ answers.Unfinished) × IsLeftOf s job left
IsEndOf k r s o job (endings.NoSelection texts) = (o ≡ answers.NoSelection) × AreNoneTexts s texts.report.items texts.log.items
IsEndOf k r s o job (endings.Funded texts) = (f : PlainFunded) × (o ≡ answers.Funded f) × ArePaidTexts k r s f texts.report.items texts.log.items

-- ---- how it ends with the request's tries

-- a payment of this plan, with this report and this log
pub record IsPaid (k : Chain) (r : PlainRequest) (report log : List ℕ) : Type 0 where
  pub funded : PlainFunded
  pub steps : AreSteps (steps_of (plan_of k r))
  pub outcome : outcome_at (plan_of k r) r.tries ≡ answers.Funded funded
  pub pays : IsPayment (plan_of k r) funded
  pub eligible : All (MaySpend (plan_of k r)) funded.coins
  pub replaces : ReplacesIf k.wallet k.book r funded
  pub packages : PaysForPackages k.wallet k.book r funded
  pub claims : Claims (plan_of k r) r.tries funded
  pub psbt : IsPsbt (psbt_of k.book r k.wallet.change funded)
  pub shows : ShowsCoins funded.coins (psbt_of k.book r k.wallet.change funded)
  pub reports : report ≡ report_of k.book r k.wallet.change (tries_at (plan_of k r) r.tries) funded
  pub logs : log ≡ log_text_at (plan_of k r) r.tries
  pub reads : IsLogText log (log_at (plan_of k r) r.tries)
  pub ended : (log_at (plan_of k r) r.tries).ended ≡ true
  pub due : planned k r ≡ Funded report log

-- there is no selection, which this log proves
pub record IsUnpaid (k : Chain) (r : PlainRequest) (report log : List ℕ) : Type 0 where
  pub steps : AreSteps (steps_of (plan_of k r))
  pub outcome : outcome_at (plan_of k r) r.tries ≡ answers.NoSelection
  pub none : IsProvedNone (plan_of k r) (log_at (plan_of k r) r.tries)
  pub reports : report ≡ none_report_at (plan_of k r) r.tries
  pub told : IsReportText report (kinds.NoSelection (tries_at (plan_of k r) r.tries))
  pub logs : log ≡ log_text_at (plan_of k r) r.tries
  pub reads : IsLogText log (log_at (plan_of k r) r.tries)
  pub ended : (log_at (plan_of k r) r.tries).ended ≡ true
  pub due : planned k r ≡ NoSelection report log

-- the tries are used up
pub record IsOpen (k : Chain) (r : PlainRequest) (report : List ℕ) : Type 0 where
  pub outcome : outcome_at (plan_of k r) r.tries ≡ answers.Unfinished
  pub used_up : IsUsedUp (plan_of k r) r.tries
  pub reports : report ≡ open_text (tries_at (plan_of k r) r.tries) used_up.step
  pub told : IsReportText report (kinds.Unfinished (tries_at (plan_of k r) r.tries) used_up.step.row used_up.step.stage)
  pub due : planned k r ≡ Unfinished report

-- an unfinished plan stands where the request's tries led
pub record IsLeftAt (k : Chain) (r : PlainRequest) (s : PlanState) : Type 0 where
  pub steps : AreSteps (steps_of (plan_of k r))
  pub stands : s ≡ moved (new_of (plan_of k r)) r.tries
  pub can : CanBeKept s 1

-- how a plan ends
abbrev pub IsConcluded : Chain → PlainRequest → Ending (Unit {0}) → Type 0
IsConcluded k r (endings.Unfinished left) = IsPlan (plan_of k r) × IsOpen k r left.report.items × IsLeftAt k r left.plan
IsConcluded k r (endings.NoSelection texts) = IsPlan (plan_of k r) × IsUnpaid k r texts.report.items texts.log.items
IsConcluded k r (endings.Funded texts) = IsPlan (plan_of k r) × IsPaid k r texts.report.items texts.log.items

-- the fault of a plan, as a cause
abbrev pub MeansFault : Chain → PlainRequest → Cause → Type 0
MeansFault k r (Files cause) = ⊥
MeansFault k r (Bump fault) = ⊥
MeansFault k r (Plan fault) = IsPlanFault (plan_of k r) fault × (fault ≢ plans.Memory)

-- the stop is the refusal that is due, or out of memory
abbrev pub StopsPlan : Chain → PlainRequest → Stop → Type 0
StopsPlan k r (stops.Read file) = ⊥
StopsPlan k r (stops.Refused refusal) = (planned k r ≡ Refused (cause_of refusal)) × MeansFault k r (cause_of refusal)
StopsPlan k r stops.Keep = ⊥
StopsPlan k r stops.Memory = Unit {0}

-- the stop of a request for which no plan is made: being out of memory comes from that of the plan alone
abbrev pub plan_stop_of : PlanFault → Stop
plan_stop_of plans.Memory = stops.Memory
plan_stop_of fault = stops.Refused (refusals.Plan fault)

-- this is how the request of the files ends
abbrev pub IsEnded : Type 0 → (List ℕ → List ℕ) → Sources → Payment → Ending (Unit {0}) → Type 0
IsEnded told files s p (endings.Unfinished left) = (u : IsUnfinished told files s p left.report.items) × IsLeftAt (chain_from u.wallet u.blocks) u.asked left.plan
IsEnded told files s p (endings.NoSelection texts) = IsNotFunded told files s p texts.report.items texts.log.items
IsEnded told files s p (endings.Funded texts) = IsFunded told files s p texts.report.items texts.log.items
