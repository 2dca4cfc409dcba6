use Rattle.std.proofs.Common.{◌≡◌, ◌+◌, ◌≤◌, ℕ, length}
use Rattle.wide_check.specs.SavingsTable.{saving_at}
use Rattle.wide_check.specs.WideSteps.{savings}
use Rattle.wide_check.proofs.savings.Savings.new.Given as goal

abbrev pub invariant-back : goal.invariant-back
invariant-back l = record {
  long : length l.rows.items ≡ length l.problem.items + 1;
  within : l.t ≤ length l.problem.items;
  each : (k : ℕ) → l.t ≤ k → k ≤ length l.problem.items → saving_at l.rows.items k ≡ savings l.problem k;
}

abbrev pub decreases-back : goal.decreases-back
decreases-back l = l.t
