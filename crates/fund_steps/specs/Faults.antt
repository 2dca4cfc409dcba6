-- The fault of a plan, worked out.
use Rattle.std.specs.Prelude.{ℕ, nat_lt, List, [], ◌∷◌, Option, Some, None, if◌then◌else◌}
use Rattle.fund_base.specs.declared.outpoint.OutPoint.{OutPoint}
use Rattle.output_groups.specs.Counting.{kept_count}
use Rattle.output_groups.specs.declared.rows.Row.{Row}
use Rattle.fund_steps.specs.Amounts.{value_of}
use Rattle.fund_steps.specs.Listed.{listed_in}
use Rattle.fund_steps.specs.Plan.{PlainPlan, coins_in, ladder_in}
use Rattle.fund_steps.specs.Selection.{first_missing, unlisted}
use Rattle.fund_steps.specs.declared.fault.PlanFault.{PlanFault}
use Rattle.fund_steps.specs.declared.fault.PlanFault.TheVariants.{Total, NotEligible, TooMany}

-- how many groups the row keeps of the candidates that the request doesn't list
abbrev pub kept_in : PlainPlan → Row → ℕ
kept_in p row = kept_count p.request.group row p.request.rate (unlisted p.request.coins p.candidates)

-- the first of these rows that keeps more than 10,000 groups
abbrev pub crowded_among : PlainPlan → List Row → Option PlanFault
crowded_among p [] = None
crowded_among p (row ∷ rows) = if nat_lt 10_000 (kept_in p row) then Some (TooMany row.number (kept_in p row)) else crowded_among p rows

-- by the first listed coin that isn't eligible, and then by the rows of the ladder
abbrev pub by_missing : PlainPlan → Option OutPoint → Option PlanFault
by_missing p (Some point) = Some (NotEligible point)
by_missing p None = crowded_among p (ladder_in p)

-- Why no plan is made, if none is: its candidates and the coins of a replaced payment are worth more than 21,000,000
-- bitcoin; or else a listed coin isn't eligible; or else a row of the ladder keeps too many groups.
abbrev pub fault_of : PlainPlan → Option PlanFault
fault_of p =
    if nat_lt 2_100_000_000_000_000 (value_of (coins_in p)) then Some (Total (value_of (coins_in p)))
    else by_missing p (first_missing (listed_in p) p.request.coins)
