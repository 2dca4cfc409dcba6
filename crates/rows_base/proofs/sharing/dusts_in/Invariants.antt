use Rattle.std.proofs.Common.{ℕ, ◌≤◌}
use Rattle.std.specs.Prelude.{All}
use Rattle.rows_base.proofs.sharing.dusts_in.Given as goal

abbrev pub invariant-loop-word : goal.invariant-loop-word
invariant-loop-word l = All (λ (n : ℕ). n ≤ 1_000_000) l.dusts.items
