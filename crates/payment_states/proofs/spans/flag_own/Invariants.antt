use Rattle.std.proofs.Common.{◌≡◌, ◌+◌, ◌<◌, ◌≤◌, ◌==◌, ℕ, false}
use Rattle.std.specs.Prelude.{slice_index_or}
use Rattle.payment_states.specs.Words.{has_flag}
use Rattle.payment_states.proofs.spans.flag_own.Given as goal

abbrev pub invariant-loop-place : goal.invariant-loop-place
invariant-loop-place l = record {
  own : (j k : ℕ) → k < 64 → l.first + k < l.place → has_flag (slice_index_or l.words j 0) k ≡ (l.first + k == j);
  none : (j k : ℕ) → k < 64 → l.place ≤ l.first + k → has_flag (slice_index_or l.words j 0) k ≡ false;
}
