-- The coins of a result of a row, and the payment that they make with the presets.
pub use Rattle.output_groups.specs.Places.{members}
use Rattle.std.specs.Prelude.{ℕ, pos, ◌==◌, ◌-ℤ◌, ◌++◌, Bool, false, true, List, find, unsigned_abs, unwrap_or, Option, Some, None, if◌then◌else◌}
use Rattle.closing_log.specs.declared.log.Stage.{Stage}
use Rattle.closing_log.specs.declared.log.Stage.TheVariants as stage
use Rattle.closing_log.specs.declared.mark.Mark.{Mark}
use Rattle.closing_log.specs.declared.mark.Mark.TheVariants as mark
use Rattle.fee_rates.specs.Terms.{change_fee_of, target_of}
use Rattle.fee_rates.specs.declared.terms.PaymentLoad.{PaymentLoad}
use Rattle.fee_rates.specs.declared.terms.Rates.{Rates}
use Rattle.coin_candidates.specs.declared.candidate.Candidate.{Candidate}
use Rattle.output_groups.specs.declared.rows.Row.{Row}
use Rattle.request_text.specs.PlainRequest.{PlainRequest}
use Rattle.search_run.specs.Found.{PlainFound}
use Rattle.search_run.specs.Step.{is_drawn}
use Rattle.fund_steps.specs.Amounts.{charges_of, value_of}
use Rattle.fund_steps.specs.Listed.{burden_in, presets_in}
use Rattle.fund_steps.specs.Plan.{PlainPlan, ladder_in}
use Rattle.fund_steps.specs.Selection.{in_order}
use Rattle.fund_plan.specs.Steps.{load_in, pool_in}
use Rattle.fund_steps.specs.Terms.{load_of, rates_of}
use Rattle.fund_plan.specs.Figures.{waste_of}
use Rattle.fund_plan.specs.Pays.{payment_weight}
use Rattle.fund_plan.specs.Selection.{PlainFunded}

-- the row of this number
abbrev pub no_row : Row
no_row = record { number = 0; own = 0; foreign = 0; ancestors = 0; descendants = 0; partial = false; unsafe_too = false }

abbrev pub row_among : List Row → ℕ → Row
row_among rows n = unwrap_or (find (λ (r : Row). r.number == n) rows) no_row

abbrev pub row_of : PlainPlan → ℕ → Row
row_of p n = row_among (ladder_in p) n

abbrev pub chosen_at : PlainPlan → Row → List ℕ → List Candidate
chosen_at p row places = members (pool_in p row).groups places

-- with the presets, in the order of their outpoints
abbrev pub coins_at : PlainPlan → Row → List ℕ → List Candidate
coins_at p row places = in_order (presets_in p ++ chosen_at p row places)

-- what coins bring beyond the target and the fee of the change output, in satoshi: their value, less the fees of their
-- inputs and their prices, less both
abbrev pub left_with : Rates → PaymentLoad → List Candidate → ℕ
left_with x l coins = unsigned_abs (((pos (value_of coins) -ℤ pos (charges_of x.rate coins)) -ℤ target_of x l) -ℤ pos (change_fee_of x l))

abbrev pub left_of : PlainRequest → PaymentLoad → List Candidate → ℕ
left_of r l coins = left_with (rates_of r) l coins

-- the change: there is none at the stage without change
abbrev pub change_with : Rates → PaymentLoad → List Candidate → Stage → Option ℕ
change_with x l coins stage.Changeless = None
change_with x l coins stage = Some (left_with x l coins)

abbrev pub change_by : PlainRequest → PaymentLoad → List Candidate → Stage → Option ℕ
change_by r l coins s = change_with (rates_of r) l coins s

abbrev pub change_at : PlainPlan → Row → Stage → List ℕ → Option ℕ
change_at p row stage places = change_by p.request (load_in p row) (chosen_at p row places) stage

-- a result of a search has been proved the best one, and one of a draw was drawn
abbrev pub mark_of : Stage → Mark
mark_of stage = if is_drawn stage then mark.Drawn else mark.Exhausted

-- the payment from coins of a row, with this change or with none
abbrev pub paid_from : PlainPlan → Row → Mark → PlainFound → List Candidate → Option ℕ → PlainFunded
paid_from p row mark f coins change = record {
  mark = mark;
  row = f.row;
  stage = f.stage;
  coins = coins;
  change = change;
  waste = waste_of p.request (load_in p row) coins change;
  weight = payment_weight (load_in p row) coins change;
}

-- the payment of a result of a row
abbrev pub funded_in : PlainPlan → Row → Mark → PlainFound → PlainFunded
funded_in p row mark f = paid_from p row mark f (coins_at p row f.places) (change_at p row f.stage f.places)

-- the same, by the number of the row that the result names
abbrev pub funded_at : PlainPlan → Mark → PlainFound → PlainFunded
funded_at p mark f = funded_in p (row_of p f.row) mark f

-- what the payment of this row is to carry: in row 0 there are the presets alone
abbrev pub load_by : PlainPlan → Bool → ℕ → PaymentLoad
load_by p true n = load_of p.request p.change (presets_in p) (burden_in p)
load_by p false n = load_in p (row_of p n)

abbrev pub load_for : PlainPlan → ℕ → PaymentLoad
load_for p n = load_by p (n == 0) n
