-- What the wide search of a plan comes to.
use Rattle.std.specs.Prelude.{ℕ, List, Option, Some, None, if◌then◌else◌}
use Rattle.closing_log.specs.declared.log.Stage.TheVariants as stage
use Rattle.closing_log.specs.declared.mark.Mark.{Mark}
use Rattle.closing_log.specs.declared.mark.Mark.TheVariants as mark
use Rattle.coin_candidates.specs.declared.candidate.Candidate.{Candidate}
use Rattle.fee_rates.specs.declared.terms.PaymentLoad.{PaymentLoad}
use Rattle.fund_plan.specs.Chosen.{coins_at, row_of}
use Rattle.fund_plan.specs.Figures.{waste_of}
use Rattle.fund_plan.specs.Pays.{payment_weight}
use Rattle.fund_plan.specs.Selection.{PlainFunded}
use Rattle.fund_plan.specs.Steps.{load_in, steps_of}
use Rattle.fund_steps.specs.Plan.{PlainPlan}
use Rattle.output_groups.specs.declared.rows.Row.{Row}
use Rattle.request_text.specs.PlainRequest.{PlainRequest}
use Rattle.wallet_text.specs.declared.wallet.Watch.{Watch}
use Rattle.wide_plan.specs.Rows.{PlainRows, PlainWideSection, rows_after}
use Rattle.wide_plan.specs.declared.outcome.WideOutcome.{WideOutcome}
use Rattle.wide_plan.specs.declared.outcome.WideOutcome.TheVariants.{Funded, NoSelection, Unfinished}
use Rattle.wide_plan.specs.declared.rows.RowsEnd.{RowsEnd}
use Rattle.wide_plan.specs.declared.rows.RowsEnd.TheVariants as ends

-- a plan of these parts, which replaces no payment
abbrev pub plan_from : PlainRequest → Watch → List Candidate → PlainPlan
plan_from r change candidates = record { request = r; change = change; candidates = candidates; bump = None }

-- The payment from coins without change, by what it is to carry.
abbrev pub paid_by : PlainPlan → PaymentLoad → Mark → (number : ℕ) → List Candidate → PlainFunded
paid_by p l mark number coins = record {
  mark = mark;
  row = number;
  stage = stage.Wide;
  coins = coins;
  change = None;
  waste = waste_of p.request l coins None;
  weight = payment_weight l coins None;
}

-- from the groups at places of a row's pool
abbrev pub paid_in : PlainPlan → Row → Mark → (number : ℕ) → List ℕ → PlainFunded
paid_in p row mark number places = paid_by p (load_in p row) mark number (coins_at p row places)

-- the same by the row's number
abbrev pub paid_at : PlainPlan → Mark → (number : ℕ) → List ℕ → PlainFunded
paid_at p mark number places = paid_in p (row_of p number) mark number places

-- by the best of an open walk, which is taken for want of tries
abbrev pub by_best : PlainPlan → (number : ℕ) → Option (List ℕ) → WideOutcome
by_best p number None = Unfinished number
by_best p number (Some places) = Funded (paid_at p mark.Partial number places)

-- by how the search of the rows ends
abbrev pub by_end : PlainPlan → RowsEnd → WideOutcome
by_end p (ends.Found number places) = Funded (paid_at p mark.Exhausted number places)
by_end p ends.Nothing = NoSelection
by_end p (ends.Open number best) = if p.request.take then by_best p number best else Unfinished number

-- what it comes to, the finished rows, and the tries made
pub record PlainWideRun : Type 0 where
  pub outcome : WideOutcome
  pub sections : List PlainWideSection
  pub tries : ℕ

-- where the search of the rows stands with the request's tries
unfoldable pub rows_of : PlainPlan → PlainRows
rows_of p = rows_after (steps_of p) p.request.tries

abbrev pub run_of : PlainPlan → PlainWideRun
run_of p = record { outcome = by_end p (rows_of p).end; sections = (rows_of p).closed; tries = (rows_of p).tries }
