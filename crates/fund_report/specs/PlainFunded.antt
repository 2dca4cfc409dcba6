-- A payment that was found, in its plain form.
use Rattle.std.specs.Prelude.{ℕ, ℤ, List, Option}
use Rattle.closing_log.specs.declared.log.Stage.{Stage}
use Rattle.closing_log.specs.declared.mark.Mark.{Mark}
use Rattle.fund_report.specs.declared.report.InLine.{InLine}

-- what is reported of a payment: the mark, the row and the stage of its coins, the tries of the job, its coins in the
-- order of its inputs, its weight, size, fee and waste, its change, and its PSBT as text
pub record PlainFunded : Type 0 where
  pub mark : Mark
  pub row : ℕ
  pub stage : Stage
  pub tries : ℕ
  pub coins : List InLine
  pub weight : ℕ
  pub vsize : ℕ
  pub fee : ℕ
  pub waste : ℤ
  pub change : Option ℕ
  pub text : List ℕ
