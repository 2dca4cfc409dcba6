use Rattle.std.proofs.Common.{◌≡◌, ◌&&◌, ℕ, false, min}
use Rattle.std.specs.Prelude.{slice_index_or, count_by}
use Rattle.payment_states.specs.Counts.{is_counted}
use Rattle.payment_states.specs.Graph.{below}
use Rattle.payment_states.proofs.counts.tally.Given as goal

abbrev pub invariant-loop-place : goal.invariant-loop-place
invariant-loop-place l = l.count ≡ min 4294967295 (count_by (λ j. is_counted l.counted j && slice_index_or l.marks j false) (below l.place))
