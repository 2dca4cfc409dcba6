-- What a payment spends, how it was found, and what it comes to.
use Rattle.std.specs.Prelude.{ℕ, ℤ, List, Option}
use Rattle.closing_log.specs.declared.log.Stage.{Stage}
use Rattle.closing_log.specs.declared.mark.Mark.{Mark}
use Rattle.coin_candidates.specs.declared.candidate.Candidate.{Candidate}

-- Coins that pay, and the change in satoshi, if there is any. The mark says what the coins promise; the row of the ladder
-- and the stage say where they were found, row 0 where they are given. The waste is in satoshi, and the declared weight of
-- the payment in weight units.
pub record PlainFunded : Type 0 where
  pub mark : Mark
  pub row : ℕ
  pub stage : Stage
  pub coins : List Candidate
  pub change : Option ℕ
  pub waste : ℤ
  pub weight : ℕ
