use Rattle.std.proofs.Common.{◌≡◌, ◌-◌, ◌<◌, ℕ, length, min}
use Rattle.std.specs.Prelude.{count_by, slice_index_or}
use Rattle.payment_states.specs.Graph.{below}
use Rattle.payment_states.proofs.SpanSteps.{counts_up}
use Rattle.payment_states.proofs.spans.count_ancestors.Given as goal

abbrev pub invariant-loop-first : goal.invariant-loop-first
invariant-loop-first l = (i : ℕ) → i < length l.parents → slice_index_or l.numbers i 0 ≡ min 4294967295 (count_by (counts_up l.parents l.counted i) (below l.first))

abbrev pub decreases-loop-first : goal.decreases-loop-first
decreases-loop-first l = length l.parents - l.first
