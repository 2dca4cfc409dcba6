-- What the files of a payment come to.
use Rattle.std.specs.Prelude.{ℕ, List, [], ◌∷◌, Option, Some, None, option_and_then, option_map, Result, Ok, Err}
use Rattle.closing_log.specs.LogText as logs
use Rattle.fee_bump.specs.Bump.{PlainTerms, terms_of}
use Rattle.fee_bump.specs.Faults.{fault_of as bump_fault_of}
use Rattle.fee_bump.specs.declared.fault.BumpFault.{BumpFault}
use Rattle.coin_candidates.specs.declared.candidate.Candidate.{Candidate}
use Rattle.fund_plan.specs.Outcome.{log_at, outcome_at, stand_after, tries_at}
use Rattle.fund_plan.specs.declared.outcome.Outcome.{Outcome as Answer}
use Rattle.fund_plan.specs.declared.outcome.Outcome.TheVariants as answers
use Rattle.fund_report.specs.ReportText as reports
use Rattle.fund_report.specs.declared.report.Report.TheVariants as report
use Rattle.fund_steps.specs.Faults.{fault_of}
use Rattle.fund_steps.specs.Plan.{PlainBump, PlainPlan}
use Rattle.fund_steps.specs.declared.fault.PlanFault.{PlanFault}
use Rattle.payment_states.specs.Candidates.{candidates_of}
use Rattle.request_text.specs.PlainRequest.{PlainRequest}
use Rattle.search_run.specs.Step.{PlainStep}
use Rattle.fund_files.specs.Cause.{FileCause}
use Rattle.fund_files.specs.Outcome.{asked_of, chain_of}
use Rattle.fund_files.specs.declared.chain.Chain.{Chain}
use Rattle.fund_payment.specs.Report.{report_of}
use Rattle.command_end.specs.Names.{Sources}
use Rattle.command_inputs.specs.Cause.{Cause, Files, Bump, Plan}
use Rattle.command_inputs.specs.Names.{Payment}

-- a refusal; or a report with which the tries are used up; or a report and a log, where nothing pays or of a payment
pub data Outcome : Type 0 where
  Refused : Cause → Outcome
  Unfinished : (report : List ℕ) → Outcome
  NoSelection : (report log : List ℕ) → Outcome
  Funded : (report log : List ℕ) → Outcome

-- ---- the plan

-- the coins of a chain that may be spent, with their prices at a rate
abbrev pub candidates_in : Chain → (rate : ℕ) → List Candidate
candidates_in k rate = candidates_of k.wallet k.book k.tip.height rate

-- what a replacement of the payment that the request names is made from, if it names one
abbrev pub terms_for : Chain → PlainRequest → Option PlainTerms
terms_for k r = option_map (λ (txid : List ℕ). terms_of k.wallet k.book k.tip.height r) r.bump

-- the coins that may be spent; those that may be added to the coins of a payment where that is replaced
abbrev pub candidates_by : Chain → (rate : ℕ) → Option PlainTerms → List Candidate
candidates_by k rate None = candidates_in k rate
candidates_by k rate (Some t) = t.candidates

-- what a plan is given where a payment is replaced: the coins of that, and what is paid beside the fee
abbrev pub bump_of : PlainTerms → PlainBump
bump_of t = record { presets = t.presets; burden = t.burden }

-- the plan of a request on a chain, by the terms of a replacement
abbrev pub plan_by : Chain → PlainRequest → Option PlainTerms → PlainPlan
plan_by k r terms = record { request = r; change = k.wallet.change; candidates = candidates_by k r.rate terms; bump = option_map bump_of terms }

-- the plan of a request on a chain
abbrev pub plan_of : Chain → PlainRequest → PlainPlan
plan_of k r = plan_by k r (terms_for k r)

-- by a cause for a refusal
abbrev pub by_cause : Option Cause → Outcome → Outcome
by_cause (Some cause) due = Refused cause
by_cause None due = due

-- the fault of a plan, as a cause
abbrev pub plan_cause : Option PlanFault → Option Cause
plan_cause None = None
plan_cause (Some fault) = Some (Plan fault)

-- ---- texts

-- the text of the log of a plan after so many tries
abbrev pub log_text_at : PlainPlan → ℕ → List ℕ
log_text_at p n = logs.text_of (log_at p n)

-- the report where nothing pays, after so many tries
abbrev pub none_report : ℕ → List ℕ
none_report tries = reports.text_of (report.NoSelection tries)

abbrev pub none_report_at : PlainPlan → ℕ → List ℕ
none_report_at p n = none_report (tries_at p n)

-- the report of a run that goes on, after so many tries: the row and the stage are those of the search that is open
abbrev pub open_text : ℕ → PlainStep → List ℕ
open_text tries x = reports.text_of (report.Unfinished tries x.row x.stage)

-- this is the first that is left
abbrev pub open_report : ℕ → List PlainStep → List ℕ
open_report tries [] = []
open_report tries (x ∷ rest) = open_text tries x

abbrev pub open_report_at : PlainPlan → ℕ → List ℕ
open_report_at p n = open_report (tries_at p n) (stand_after p n).left

-- what a plan for a request comes to with so many tries, in however many pieces they are made
abbrev pub by_plan_after : Chain → PlainRequest → PlainPlan → (tries : ℕ) → Answer → Outcome
by_plan_after k r p n answers.Unfinished = Unfinished (open_report_at p n)
by_plan_after k r p n answers.NoSelection = NoSelection (none_report_at p n) (log_text_at p n)
by_plan_after k r p n (answers.Funded f) = Funded (report_of k.book r k.wallet.change (tries_at p n) f) (log_text_at p n)

-- the same of the request's plan
abbrev pub by_answer_after : Chain → PlainRequest → (tries : ℕ) → Answer → Outcome
by_answer_after k r n o = by_plan_after k r (plan_of k r) n o

-- what a plan with the request's tries comes to
abbrev pub by_answer : Chain → PlainRequest → Answer → Outcome
by_answer k r o = by_answer_after k r r.tries o

-- what keeps the payment from being replaced that a request names, if it names one and something does
abbrev pub bump_fault_in : Chain → PlainRequest → Option BumpFault
bump_fault_in k r = option_and_then (λ (txid : List ℕ). bump_fault_of k.wallet k.book r) r.bump

-- the same, as a cause
abbrev pub not_taken : Chain → PlainRequest → Option Cause
not_taken k r = option_map Bump (bump_fault_in k r)

-- what is due for a request that replaces no payment, or one that may be replaced
unfoldable pub planned : Chain → PlainRequest → Outcome
planned k r = by_cause (plan_cause (fault_of (plan_of k r))) (by_answer k r (outcome_at (plan_of k r) r.tries))

-- the same, with so many tries in place of the request's
unfoldable pub planned_after : Chain → PlainRequest → (tries : ℕ) → Outcome
planned_after k r n = by_cause (plan_cause (fault_of (plan_of k r))) (by_answer_after k r n (outcome_at (plan_of k r) n))

-- ---- the files

-- by the request that was read, or the cause for which its file is refused
abbrev pub by_asked : Chain → Result PlainRequest FileCause → Outcome
by_asked k (Err cause) = Refused (Files cause)
by_asked k (Ok r) = by_cause (not_taken k r) (planned k r)

-- by the chain, or the cause for which its files are refused
abbrev pub by_chain : (request : List ℕ) → Result Chain FileCause → Outcome
by_chain request (Err cause) = Refused (Files cause)
by_chain request (Ok k) = by_asked k (asked_of request)

-- what the files come to: they are taken one by one, the wallet, the blocks, and then the request
abbrev pub outcome_of : (List ℕ → List ℕ) → Sources → Payment → Outcome
outcome_of files s p = by_chain (files p.request) (chain_of (files s.wallet) (files s.blocks))
