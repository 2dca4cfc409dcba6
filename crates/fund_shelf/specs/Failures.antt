-- The calls of one method that are to fail.
use Rattle.std.specs.Prelude.{ℕ, ◌==◌, Bool, List}
use Rattle.std.specs.List.{list_any}
use Rattle.fund_shelf.specs.Causes.{one_more}

-- The numbers, from 0, of the calls that are to fail, and the number of the next call.
pub record FailurePlan : Type 0 where
  pub numbers : List ℕ
  pub next : ℕ

-- the next call is to fail
abbrev pub is_due : FailurePlan → Bool
is_due plan = list_any (λ number. number == plan.next) plan.numbers

-- one call further
abbrev pub after_call : FailurePlan → FailurePlan
after_call plan = record plan { next = one_more plan.next }
