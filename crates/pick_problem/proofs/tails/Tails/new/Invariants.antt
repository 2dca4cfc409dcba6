use Rattle.std.proofs.Common.{◌≡◌, ◌+◌, ◌≤◌, ℕ, length}
use Rattle.pick_problem.specs.Tails.{IsTail, tail_at}
use Rattle.pick_problem.proofs.tails.Tails.new.Given as goal

abbrev pub invariant-back : goal.invariant-back
invariant-back l = record {
  long : length l.rows.items ≡ length l.problem.items + 1;
  within : l.t ≤ length l.problem.items;
  each : (k : ℕ) → l.t ≤ k → k ≤ length l.problem.items → IsTail l.problem k (tail_at l.rows.items k);
}

abbrev pub decreases-back : goal.decreases-back
decreases-back l = l.t
