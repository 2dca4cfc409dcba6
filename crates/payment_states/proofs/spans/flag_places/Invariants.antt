use Rattle.std.proofs.Common.{◌≡◌, ◌≤◌, ◌||◌, ◌&&◌, ◌==◌, ℕ, take, All}
use Rattle.std.specs.Prelude.{slice_index_or}
use Rattle.std.specs.List.{list_any}
use Rattle.payment_states.specs.Words.{has_flag}
use Rattle.payment_states.proofs.spans.flag_places.Given as goal

abbrev pub invariant-loop-place : goal.invariant-loop-place
invariant-loop-place l = record {
  flags : (j k : ℕ) → has_flag (slice_index_or l.words j 0) k ≡ ((has_flag l.word k && list_any (λ p. p == j) (take l.place-index l.places)) || has_flag (slice_index_or l.initial.words j 0) k);
  low : l.low ≤ l.initial.low;
  least : All (λ p. l.low ≤ p) (take l.place-index l.places);
}
