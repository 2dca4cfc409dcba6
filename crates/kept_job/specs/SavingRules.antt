-- When a plan can be kept.
use Rattle.std.specs.Prelude.{ℕ, ◌≡◌, List, Some}
use Rattle.fund_plan.specs.Resumed.{saved_at}
use Rattle.fund_plan.specs.State.{PlanState, told}
use Rattle.fund_plan.specs.declared.outcome.Outcome.TheVariants as answers
use Rattle.search_keep.specs.SavedText.{CanBeSaved, PlainSaved}

-- The plan is unfinished, and what is saved of it with so many parts can be written as a text, whatever the digest.
pub record CanBeKept (s : PlanState) (parts : ℕ) : Type 0 where
  pub unfinished : told s ≡ answers.Unfinished
  pub text : (digest : List ℕ) (saved : PlainSaved) → saved_at digest parts s ≡ Some saved → CanBeSaved saved
