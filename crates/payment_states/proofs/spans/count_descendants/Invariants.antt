use Rattle.std.proofs.Common.{◌≡◌, ◌-◌, ◌<◌, ℕ, false, length, min}
use Rattle.std.specs.Prelude.{count_by, slice_index_or}
use Rattle.payment_states.specs.Graph.{below}
use Rattle.payment_states.specs.Words.{has_flag}
use Rattle.payment_states.proofs.SpanSteps.{counts_down}
use Rattle.payment_states.proofs.spans.count_descendants.Given as goal

abbrev pub invariant-loop-first : goal.invariant-loop-first
invariant-loop-first l = record {
  counted : (j : ℕ) → slice_index_or l.numbers j 0 ≡ min 4294967295 (count_by (counts_down l.parents l.counted j) (below l.first));
  clean : (j k : ℕ) → k < 64 → has_flag (slice_index_or l.words j 0) k ≡ false;
}

abbrev pub decreases-loop-first : goal.decreases-loop-first
decreases-loop-first l = length l.parents - l.first
