-- The log of a plan's run that came to its end, or of which a result was taken, is ended and reads as it was written.
use Rattle.std.proofs.Common.{◌≡◌, ◌∙◌, ℕ, min, Bool, true, false, cond, List, [], ◌∷◌, ◌++◌, Option, Some, None, refl, sym, ap, subst}
use Rattle.std.specs.List.{AllByRecursion}
use Rattle.closing_log.specs.Log.{PlainLog}
use Rattle.closing_log.specs.LogText.{IsLogText, text_of}
use Rattle.fund_plan.specs.Outcome.{by_end, end_at, is_partial, log_at, most_tries, outcome_at, stand_after}
use Rattle.fund_plan.specs.Steps.{steps_of}
use Rattle.fund_plan.specs.declared.outcome.Outcome.TheVariants as answers
use Rattle.fund_steps.specs.Plan.{PlainPlan}
use Rattle.search_run.specs.Found.{PlainFound, taken}
use Rattle.search_run.specs.Kept.{is_over, log_of, tail_of}
use Rattle.search_run.specs.Run.{Stand, results_in_column, end_by, or_unfinished}
use Rattle.search_run.specs.Step.{AreSteps, FitsStage, IsStep, PlainStep}
use Rattle.search_run.specs.Stands.{IsFromStart}
use Rattle.search_run.proofs.MadeLaws.{run_stands}
use Rattle.pick_problem.specs.Problem.{PlainProblem}
use Rattle.fund_report.specs.ReportText.{IsRead}
use Rattle.closing_log.specs.declared.log.Stage.{Stage}
use Rattle.closing_log.specs.declared.log.Stage.TheVariants.{Presets, Changeless, LeanBig, Draw, LeanSmall, Wide}
use Rattle.search_run.specs.declared.ending.End.{End}
use Rattle.search_run.specs.declared.ending.End.TheVariants as ends
use Rattle.kept_job.proofs.LogLaws.{ended_reads, small_row}

-- ---- ends

never_ended : (o found : Option PlainFound) → or_unfinished found ≡ ends.Ended o → ⊥
never_ended o None e = cc
never_ended o (Some f) e = cc

-- a run that came to its end has no step left
over_at : (p : PlainPlan) (s : Stand) (o : Option PlainFound) → end_at p s ≡ ends.Ended o → s.left ≡ []
over_at p s o e = by s.left refl e
  where
    open_end : (b : Bool) (found : Option PlainFound) → cond b (or_unfinished found) ends.Unfinished ≡ ends.Ended o → ⊥
    open_end true found e = never_ended o found e
    open_end false found e = cc

    by : (left : List PlainStep) → s.left ≡ left → end_by p.request.take p.request.seed s left ≡ ends.Ended o → s.left ≡ []
    by [] is e = is
    by (x ∷ rest) is e = absurd (open_end p.request.take (taken (results_in_column p.request.seed s (x ∷ rest))) e)

-- ---- the log

record IsEnded (s : Stand) (log : PlainLog) : Type 0 where
  closed : log.closed ≡ s.past.closed
  tail : log.tail ≡ None
  ended : log.ended ≡ true

over_log : (s : Stand) → s.left ≡ [] → IsEnded s (log_of false s)
over_log s over = record { closed = refl; tail = ap (λ (xs : List PlainStep). tail_of s xs) over; ended = ap is_over over }

ended_log : (p : PlainPlan) (s : Stand) → (by_end p (end_at p s) ≡ answers.Unfinished → ⊥) → IsEnded s (log_of (is_partial (end_at p s)) s)
ended_log p s goes = by (end_at p s) refl goes
  where
    by : (d : End) → end_at p s ≡ d → (by_end p d ≡ answers.Unfinished → ⊥) → IsEnded s (log_of (is_partial (end_at p s)) s)
    by (ends.Ended o) is no_more = subst (λ (b : Bool). IsEnded s (log_of b s)) (sym (ap is_partial is)) (over_log s (over_at p s o is))
    by (ends.Partial f) is no_more = subst (λ (b : Bool). IsEnded s (log_of b s)) (sym (ap is_partial is)) (record { closed = refl; tail = refl; ended = refl })
    by ends.Unfinished is no_more = absurd (no_more refl)

-- the log of a plan that isn't unfinished
pub record IsWritten (log : PlainLog) : Type 0 where
  pub reads : IsLogText (text_of log) log
  pub ended : log.ended ≡ true

pub log_written : (p : PlainPlan) (n : ℕ) → AreSteps (steps_of p) → (outcome_at p n ≡ answers.Unfinished → ⊥) → IsWritten (log_at p n)
unfolding outcome_at log_at
log_written p n are goes =
    let e : IsEnded (stand_after p n) (log_of (is_partial (end_at p (stand_after p n))) (stand_after p n)) = ended_log p (stand_after p n) goes in
    record {
      reads = ended_reads (steps_of p) are (small_row p) p.request.seed (min n most_tries) (log_of (is_partial (end_at p (stand_after p n))) (stand_after p n)) e.closed e.tail e.ended;
      ended = e.ended;
    }

-- ---- the step that is left

step_behind : (P : PlainStep → Type 0) (front : List PlainStep) (x : PlainStep) (rest : List PlainStep) → AllByRecursion P (front ++ x ∷ rest) → P x
step_behind P [] x rest h = h.0
step_behind P (y ∷ ys) x rest h = step_behind P ys x rest h.1

read_stage : (s : Stage) (q : PlainProblem) → FitsStage s q → IsRead s
read_stage Presets q h = absurd h
read_stage Changeless q h = tt
read_stage LeanBig q h = tt
read_stage Draw q h = tt
read_stage LeanSmall q h = tt
read_stage Wide q h = absurd h

-- its stage is one that a report can name
pub open_stage : (p : PlainPlan) (n : ℕ) (x : PlainStep) (rest : List PlainStep) → AreSteps (steps_of p) → (stand_after p n).left ≡ x ∷ rest → IsRead x.stage
open_stage p n x rest are left =
    let stands : IsFromStart p.request.seed (steps_of p) (stand_after p n) = run_stands p.request.seed (steps_of p) are (min n most_tries) in
    let parts : steps_of p ≡ stands.left.0 ++ x ∷ rest = stands.left.1 ∙ ap (λ (xs : List PlainStep). stands.left.0 ++ xs) left in
    let step : IsStep x = step_behind IsStep stands.left.0 x rest (subst (AllByRecursion IsStep) parts are) in
    read_stage x.stage x.problem step.stage
