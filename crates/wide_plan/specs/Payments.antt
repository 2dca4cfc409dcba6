-- What a payment of a wide search can be made from.
use Rattle.std.specs.Prelude.{ℕ, ◌≡◌, ◌≢◌, List, Contains, None, IfSome}
use Rattle.closing_log.specs.declared.log.Stage.TheVariants as stage
use Rattle.fund_plan.specs.Answer.{IsPayment, IsSelection}
use Rattle.fund_plan.specs.Chosen.{row_of}
use Rattle.fund_plan.specs.Steps.{problem_at}
use Rattle.fund_steps.specs.Plan.{PlainPlan, ladder_in}
use Rattle.wide_check.specs.Wide.{IsWide}
use Rattle.wide_plan.specs.Asked.{IsForWide}
use Rattle.wide_plan.specs.declared.outcome.WideOutcome.{WideOutcome}
use Rattle.wide_plan.specs.declared.outcome.WideOutcome.TheVariants.{Funded, NoSelection, Unfinished}
use Rattle.wide_plan.specs.declared.rows.RowsEnd.{RowsEnd}
use Rattle.wide_plan.specs.declared.rows.RowsEnd.TheVariants as ends

-- a selection of the problem of a row of the ladder, of this number, in a plan of a request that the wide search takes
pub record CanPay (p : PlainPlan) (number : ℕ) (places : List ℕ) : Type 0 where
  pub asked : IsForWide p.request
  pub plain : p.bump ≡ None
  pub row : Contains (ladder_in p) (row_of p number)
  pub named : number ≢ 0
  pub wide : IsWide (problem_at p (row_of p number) stage.Changeless) places

-- the same of an end
abbrev pub CanEnd : PlainPlan → RowsEnd → Type 0
CanEnd p (ends.Found number places) = CanPay p number places
CanEnd p ends.Nothing = Unit {0}
CanEnd p (ends.Open number best) = IfSome best (CanPay p number)

-- whatever is paid is a payment of the plan
abbrev pub ArePayments : PlainPlan → WideOutcome → Type 0
ArePayments p (Funded f) = IsPayment p f
ArePayments p NoSelection = Unit {0}
ArePayments p (Unfinished number) = Unit {0}

-- it has coins and no change that a payment of the request can have
abbrev pub HasSelection : PlainPlan → WideOutcome → Type 0
HasSelection p (Funded f) = IsSelection p.request f
HasSelection p NoSelection = Unit {0}
HasSelection p (Unfinished number) = Unit {0}
