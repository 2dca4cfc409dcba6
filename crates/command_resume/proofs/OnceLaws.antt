-- What a plan comes to after some tries is what it comes to at once, where the request asks for so many and nothing else is
-- other.
use Rattle.std.proofs.Common.{◌≡◌, ◌∙◌, ℕ, min, List, [], ◌∷◌, Option, Some, None, refl, ap}
use Rattle.std.specs.Prelude.{if◌then◌else◌, nat_lt}
use Rattle.fund_base.specs.declared.outpoint.OutPoint.{OutPoint}
use Rattle.closing_log.specs.Log.{PlainLog}
use Rattle.closing_log.specs.LogText as logs
use Rattle.fee_bump.specs.Bump.{PlainTerms, least_vsize, terms_of}
use Rattle.fund_plan.specs.Outcome.{by_end, end_at, given_of, is_partial, log_at, most_tries, outcome_at, stand_after, tries_at}
use Rattle.fund_plan.specs.Pays.{payment_from}
use Rattle.fund_plan.specs.Selection.{PlainFunded}
use Rattle.fund_plan.specs.Steps.{steps_of}
use Rattle.fund_plan.specs.declared.outcome.Outcome.{Outcome as Answer}
use Rattle.fund_plan.specs.declared.outcome.Outcome.TheVariants as answers
use Rattle.fund_steps.specs.Amounts.{value_of}
use Rattle.fund_steps.specs.Faults.{by_missing, crowded_among, fault_of, kept_in}
use Rattle.fund_steps.specs.Plan.{PlainPlan, coins_in}
use Rattle.fund_steps.specs.Searches as searches
use Rattle.fund_steps.specs.Terms.{load_of}
use Rattle.fund_steps.specs.declared.fault.PlanFault.{PlanFault}
use Rattle.fund_steps.specs.declared.fault.PlanFault.TheVariants.{TooMany, Total}
use Rattle.output_groups.specs.declared.rows.Row.{Row}
use Rattle.request_text.specs.PlainRequest.{PlainRequest}
use Rattle.search_run.specs.Kept.{log_of}
use Rattle.search_run.specs.Run.{Stand, beginning, go_on}
use Rattle.search_run.specs.Step.{PlainStep}
use Rattle.search_run.specs.declared.ending.End.{End}
use Rattle.search_run.specs.declared.ending.End.TheVariants as ends
use Rattle.fund_files.specs.declared.chain.Chain.{Chain}
use Rattle.fund_payment.specs.Report.{psbt_of, report_of}
use Rattle.command_inputs.specs.Outcome.{by_cause, by_plan_after, none_report, open_report, plan_by, plan_cause, planned, planned_after, terms_for}
use Rattle.command_inputs.specs.Outcome as payments

-- the same request with so many tries
abbrev pub asking : PlainRequest → ℕ → PlainRequest
asking r n = record r { tries = n }

module _ (k : Chain) (r : PlainRequest) (n : ℕ) (terms : Option PlainTerms) where
  abbrev own : PlainPlan
  own = plan_by k r terms

  abbrev other : PlainPlan
  other = plan_by k (asking r n) terms

  -- ---- why no plan is made

  crowded_same : (rows : List Row) → crowded_among other rows ≡ crowded_among own rows
  crowded_same [] = refl
  crowded_same (row ∷ rows) =
      ap (λ (rest : Option PlanFault). if nat_lt 10_000 (kept_in own row) then Some (TooMany row.number (kept_in own row)) else rest) (crowded_same rows)

  missing_same : (o : Option OutPoint) → by_missing other o ≡ by_missing own o
  missing_same (Some point) = refl
  missing_same None = crowded_same _

  fault_same : fault_of other ≡ fault_of own
  fault_same = ap (λ (rest : Option PlanFault). if nat_lt 2_100_000_000_000_000 (value_of (coins_in own)) then Some (Total (value_of (coins_in own))) else rest) (missing_same _)

  -- ---- what it comes to

  steps_same : steps_of other ≡ steps_of own
  unfolding searches.steps_of load_of
  steps_same = refl

  by_end_same : (e : End) → by_end other e ≡ by_end own e
  unfolding given_of load_of
  by_end_same (ends.Ended None) = refl
  by_end_same (ends.Ended (Some f)) = refl
  by_end_same (ends.Partial f) = refl
  by_end_same ends.Unfinished = refl

  stand_same : (m : ℕ) → stand_after other m ≡ stand_after own m
  stand_same m = ap (λ (steps : List PlainStep). go_on r.seed (beginning r.seed steps) (min m most_tries)) steps_same

  outcome_same : (m : ℕ) → outcome_at other m ≡ outcome_at own m
  unfolding outcome_at
  outcome_same m =
      ap (λ (s : Stand). by_end other (end_at own s)) (stand_same m)
      ∙ by_end_same (end_at own (stand_after own m))

  tries_same : (m : ℕ) → tries_at other m ≡ tries_at own m
  unfolding tries_at
  tries_same m = ap (λ (s : Stand). s.past.tries) (stand_same m)

  log_same : (m : ℕ) → log_at other m ≡ log_at own m
  unfolding log_at
  log_same m = ap (λ (s : Stand). log_of (is_partial (end_at own s)) s) (stand_same m)

  report_same : (tries : ℕ) (f : PlainFunded) → report_of k.book (asking r n) k.wallet.change tries f ≡ report_of k.book r k.wallet.change tries f
  unfolding report_of psbt_of payment_from
  report_same tries f = refl

  answer_same : (m : ℕ) (a : Answer) → by_plan_after k (asking r n) other m a ≡ by_plan_after k r own m a
  answer_same m answers.Unfinished =
      ap (λ (t : ℕ). payments.Unfinished (open_report t (stand_after other m).left)) (tries_same m)
      ∙ ap (λ (s : Stand). payments.Unfinished (open_report (tries_at own m) s.left)) (stand_same m)
  answer_same m answers.NoSelection =
      ap (λ (t : ℕ). payments.NoSelection (none_report t) (logs.text_of (log_at other m))) (tries_same m)
      ∙ ap (λ (l : PlainLog). payments.NoSelection (none_report (tries_at own m)) (logs.text_of l)) (log_same m)
  answer_same m (answers.Funded f) =
      ap (λ (t : ℕ). payments.Funded (report_of k.book (asking r n) k.wallet.change t f) (logs.text_of (log_at other m))) (tries_same m)
      ∙ (ap (λ (report : List ℕ). payments.Funded report (logs.text_of (log_at other m))) (report_same (tries_at own m) f)
      ∙ ap (λ (l : PlainLog). payments.Funded (report_of k.book r k.wallet.change (tries_at own m) f) (logs.text_of l)) (log_same m))

-- what is due of a plan for a request after so many tries
abbrev due_by : Chain → PlainRequest → ℕ → PlainPlan → payments.Outcome
due_by k r n p = by_cause (plan_cause (fault_of p)) (by_plan_after k r p n (outcome_at p n))

due_same : (k : Chain) (r : PlainRequest) (n : ℕ) (terms : Option PlainTerms) → due_by k (asking r n) n (plan_by k (asking r n) terms) ≡ due_by k r n (plan_by k r terms)
due_same k r n terms =
    let own : PlainPlan = plan_by k r terms in
    let other : PlainPlan = plan_by k (asking r n) terms in
    ap (λ (f : Option PlanFault). by_cause (plan_cause f) (by_plan_after k (asking r n) other n (outcome_at other n))) (fault_same k r n terms)
    ∙ (ap (λ (a : Answer). by_cause (plan_cause (fault_of own)) (by_plan_after k (asking r n) other n a)) (outcome_same k r n terms n)
    ∙ ap (λ (o : payments.Outcome). by_cause (plan_cause (fault_of own)) o) (answer_same k r n terms n (outcome_at own n)))

-- no terms of a replacement speak of tries
terms_same : (k : Chain) (r : PlainRequest) (n : ℕ) → terms_for k (asking r n) ≡ terms_for k r
unfolding terms_of least_vsize
terms_same k r n = refl

pub same_at_once : (k : Chain) (r : PlainRequest) (n : ℕ) → planned k (asking r n) ≡ planned_after k r n
unfolding planned planned_after
same_at_once k r n = ap (λ (terms : Option PlainTerms). due_by k (asking r n) n (plan_by k (asking r n) terms)) (terms_same k r n) ∙ due_same k r n (terms_for k r)
