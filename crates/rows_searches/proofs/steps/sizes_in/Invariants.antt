use Rattle.std.proofs.Common.{ℕ, ◌≤◌}
use Rattle.std.specs.List.{AllByRecursion}
use Rattle.rows_searches.proofs.steps.sizes_in.Given as goal

abbrev pub invariant-loop-word : goal.invariant-loop-word
invariant-loop-word l = AllByRecursion (λ (n : ℕ). n ≤ 100) l.sizes.items
