use Rattle.std.proofs.Common.{◌≡◌, ◌≤◌, ◌||◌, ◌==◌, ℕ, false, take, All}
use Rattle.std.specs.Prelude.{slice_index_or}
use Rattle.std.specs.List.{list_any}
use Rattle.payment_states.proofs.counts.mark_places.Given as goal

abbrev pub invariant-loop-place : goal.invariant-loop-place
invariant-loop-place l =
    ((j : ℕ) → slice_index_or l.marks j false ≡ (list_any (λ p. p == j) (take l.place-index l.places) || slice_index_or l.initial.marks j false))
    × (l.low ≤ l.initial.low)
    × All (λ p. l.low ≤ p) (take l.place-index l.places)
