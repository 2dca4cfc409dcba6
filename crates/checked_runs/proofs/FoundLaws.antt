-- Where a plan's payment comes from: its row and its stage can be named in a report, and its coins can be written.
use Rattle.std.specs.Prelude.{ℕ, ◌≡◌, ◌≤◌, List, ◌∷◌, Contains, Some, None}
use Rattle.std.proofs.Common.{arith, refl, sym, ap, subst}
use Rattle.std.proofs.lemmas.List.Elements.{Contains-append_right}
use Rattle.closing_log.specs.declared.log.Stage.{Stage}
use Rattle.closing_log.specs.declared.log.Stage.TheVariants.{Presets, Changeless, LeanBig, Draw, LeanSmall, Wide}
use Rattle.closing_log.specs.declared.mark.Mark.{Mark}
use Rattle.closing_log.specs.declared.mark.Mark.TheVariants as mark
use Rattle.fund_plan.specs.Answer.{HasSelection, IsSelection}
use Rattle.fund_plan.specs.Chosen.{funded_at, mark_of}
use Rattle.fund_plan.specs.Outcome.{by_end, end_at, outcome_at, stand_after}
use Rattle.fund_plan.specs.Selection.{PlainFunded}
use Rattle.fund_plan.specs.Steps.{steps_of}
use Rattle.fund_plan.specs.declared.outcome.Outcome.TheVariants as outcomes
use Rattle.fund_plan.proofs.GivenLaws.{alone_means, same_funded}
use Rattle.fund_plan.proofs.OutcomeLaws.{end_done}
use Rattle.fund_report.specs.ReportText.{IsRead}
use Rattle.fund_steps.specs.Plan.{IsPlan, PlainPlan}
use Rattle.kept_job.proofs.LogLaws.{small_row}
use Rattle.output_groups.proofs.Members.{head_in}
use Rattle.pick_problem.specs.Problem.{PlainProblem}
use Rattle.search_run.specs.Found.{IsResultOf, PlainFound}
use Rattle.search_run.specs.Step.{AreSteps, FitsStage, IsStep, PlainStep}
use Rattle.search_run.specs.declared.ending.End.{End}
use Rattle.search_run.specs.declared.ending.End.TheVariants as ends
use Rattle.search_run.proofs.StandLaws.{step_here}
use Rattle.checked_runs.proofs.AnswerLaws.{result_in}

-- the stage of a step is none that a report can't name
named_stage : (s : Stage) (q : PlainProblem) → FitsStage s q → IsRead s
named_stage Presets q fits = tt
named_stage Changeless q fits = tt
named_stage LeanBig q fits = tt
named_stage Draw q fits = tt
named_stage LeanSmall q fits = tt
named_stage Wide q fits = fits

-- A row, a stage and coins that a report can have.
pub record CanBeTold (p : PlainPlan) (g : PlainFunded) : Type 0 where
  pub row : g.row ≤ 255
  pub stage : IsRead g.stage
  pub selection : IsSelection p.request g

-- the same of where it comes from
record IsNamed (g : PlainFunded) : Type 0 where
  row : g.row ≤ 255
  stage : IsRead g.stage

found_named : (p : PlainPlan) (m : Mark) (found : PlainFound) → AreSteps (steps_of p) → IsResultOf (steps_of p) found → IsNamed (funded_at p m found)
found_named p m found are result =
    let there : Contains (steps_of p) result.step = subst (λ (xs : List PlainStep). Contains xs result.step) (sym result.parts) (Contains-append_right result.front (result.step ∷ result.rest) result.step (head_in result.step result.rest)) in
    let row : found.row ≡ result.step.row = ap (λ (f : PlainFound). f.row) result.is in
    let stage : found.stage ≡ result.step.stage = ap (λ (f : PlainFound). f.stage) result.is in
    let step : IsStep result.step = step_here result.front result.rest result.step (subst AreSteps result.parts are) in
    let small = small_row p result.step there in
    record { row = omega (arith, small, row); stage = subst IsRead (sym stage) (named_stage result.step.stage result.step.problem step.stage) }

given_named : (p : PlainPlan) (g : PlainFunded) → IsPlan p → by_end p (ends.Ended None) ≡ outcomes.Funded g → IsNamed g
given_named p g plan e =
    let alone = alone_means p (outcomes.Funded g) plan e in
    let row : g.row ≡ 0 = ap (λ (f : PlainFunded). f.row) alone.2 in
    let stage : g.stage ≡ Presets = ap (λ (f : PlainFunded). f.stage) alone.2 in
    record { row = omega (arith, row); stage = subst IsRead (sym stage) tt }

pub can_be_told : (p : PlainPlan) (n : ℕ) (g : PlainFunded) → IsPlan p → AreSteps (steps_of p) → outcome_at p n ≡ outcomes.Funded g → CanBeTold p g
unfolding outcome_at
can_be_told p n g plan are e = by (end_at p (stand_after p n)) refl e
  where
    told : (d : End) → end_at p (stand_after p n) ≡ d → by_end p d ≡ outcomes.Funded g → IsNamed g → CanBeTold p g
    told d is same k =
        let selection : HasSelection p.request (outcomes.Funded g) = subst (HasSelection p.request) same (end_done p d plan (result_in p n d are is)).selection in
        record { row = k.row; stage = k.stage; selection = selection }

    by : (d : End) → end_at p (stand_after p n) ≡ d → by_end p d ≡ outcomes.Funded g → CanBeTold p g
    by (ends.Ended None) is same = told (ends.Ended None) is same (given_named p g plan same)
    by (ends.Ended (Some found)) is same =
        told (ends.Ended (Some found)) is same (subst IsNamed (same_funded (funded_at p (mark_of found.stage) found) g same) (found_named p (mark_of found.stage) found are (result_in p n (ends.Ended (Some found)) are is)))
    by (ends.Partial found) is same =
        told (ends.Partial found) is same (subst IsNamed (same_funded (funded_at p mark.Partial found) g same) (found_named p mark.Partial found are (result_in p n (ends.Partial found) are is)))
    by ends.Unfinished is same = absurd cc
