use Rattle.std.proofs.Common.{◌≡◌, ◌<◌, ◌≤◌, ℕ, false, min, if◌then◌else◌}
use Rattle.std.specs.Prelude.{slice_index_or, sum_by}
use Rattle.payment_states.specs.Counts.{share_in}
use Rattle.payment_states.specs.Graph.{below}
use Rattle.payment_states.proofs.prices.sum_marked.Given as goal

abbrev pub invariant-loop-place : goal.invariant-loop-place
invariant-loop-place l =
    (l.sum ≡ min 2_100_000_000_000_000 (sum_by (λ j. if slice_index_or l.initial.marks j false then share_in l.shares j else 0) (below l.place)))
    × ((j : ℕ) → j < l.place → slice_index_or l.marks j false ≡ false)
    × ((j : ℕ) → l.place ≤ j → slice_index_or l.marks j false ≡ slice_index_or l.initial.marks j false)
