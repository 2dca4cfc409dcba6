-- Which files are asked for, and in what order.
use Rattle.std.specs.Prelude.{ℕ, List, [], ◌∷◌}
use Rattle.fund_shelf.specs.Causes.{Asks, ShelfView}
use Rattle.fund_steps.specs.Plan.{PlainPlan}
use Rattle.command_end.specs.Names.{Sources}
use Rattle.command_inputs.specs.Inputs.{NoneBehind}
use Rattle.command_inputs.specs.Names.{Payment}
use Rattle.command_check.specs.Evidence.{HasLoggedReport, HavePlan}

-- The wallet file was asked for, then the block file, the request, the report and the log, each any number of times, and no
-- other name was.
abbrev pub AsksInOrder : Sources → Payment → (report : List ℕ) → ShelfView → ShelfView → Type 0
AsksInOrder s p report old new = Asks (s.wallet ∷ s.blocks ∷ p.request ∷ report ∷ p.log ∷ []) old.asked new.asked

-- the same, and the log wasn't asked for
abbrev pub AsksNoLog : Sources → Payment → (report : List ℕ) → ShelfView → ShelfView → Type 0
AsksNoLog s p report old new = Asks (s.wallet ∷ s.blocks ∷ p.request ∷ report ∷ []) old.asked new.asked

-- the wallet file, the block file and the request were asked for, in this order, and no other name was
abbrev pub AsksPayment : Sources → Payment → ShelfView → ShelfView → Type 0
AsksPayment s p old new = Asks (s.wallet ∷ s.blocks ∷ p.request ∷ []) old.asked new.asked

-- What is asked for of a shelf that tells its content.
pub record AsksFiles (told : Type 0) (s : Sources) (p : Payment) (report : List ℕ) (old new : ShelfView) : Type 0 where
  -- The wallet file, the block file, the request, the report and the log are asked for, in this order, and no other name.
  pub asked : told → AsksInOrder s p report old new
  -- Behind a file that is refused none is asked for.
  pub none_behind : told → NoneBehind s old new
  -- No log is asked for where the report isn't in its grammar, is too long, or is of an unfinished run.
  pub no_log : told → (HasLoggedReport (old.files report) → ⊥) → AsksNoLog s p report old new
  -- Neither report nor log is asked for where the payment is refused.
  pub unread : told → ((plan : PlainPlan) → HavePlan old.files s p plan → ⊥) → AsksPayment s p old new
