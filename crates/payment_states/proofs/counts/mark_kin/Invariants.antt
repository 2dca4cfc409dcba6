use Rattle.std.proofs.Common.{◌≡◌, ◌<◌, ◌≤◌, ◌+◌, ℕ, false}
use Rattle.std.specs.Prelude.{slice_index_or}
use Rattle.payment_states.proofs.MarkSteps.{AreMarks}
use Rattle.payment_states.proofs.counts.mark_kin.Given as goal

abbrev pub invariant-loop-low : goal.invariant-loop-low
invariant-loop-low l =
    AreMarks l.parents l.start l.place (λ j. slice_index_or l.marks j false)
    × ((j : ℕ) → j < l.low → slice_index_or l.marks j false ≡ false)
    × (l.low ≤ l.place)
    × (l.place ≤ l.start + 1)
    × (l.low ≤ l.start)

abbrev pub decreases-loop-low : goal.decreases-loop-low
decreases-loop-low l = l.place
