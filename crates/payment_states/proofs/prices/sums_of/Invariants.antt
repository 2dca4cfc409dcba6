use Rattle.std.proofs.Common.{◌≡◌, ℕ, false, map}
use Rattle.std.specs.Prelude.{slice_index_or}
use Rattle.payment_states.specs.Counts.{sum_over}
use Rattle.payment_states.specs.Graph.{below}
use Rattle.payment_states.proofs.prices.sums_of.Given as goal

abbrev pub invariant-loop-place : goal.invariant-loop-place
invariant-loop-place l = (l.sums.items ≡ map (sum_over l.parents l.shares) (below l.place)) × ((j : ℕ) → slice_index_or l.marks j false ≡ false)
