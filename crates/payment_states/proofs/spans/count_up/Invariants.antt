use Rattle.std.proofs.Common.{◌≡◌, ◌+◌, ◌<◌, ◌≤◌, ℕ, length, min}
use Rattle.std.specs.Prelude.{slice_index_or}
use Rattle.payment_states.specs.Graph.{within}
use Rattle.payment_states.specs.Words.{flag_count, has_flag}
use Rattle.payment_states.proofs.spans.count_up.Given as goal

abbrev pub invariant-loop-place : goal.invariant-loop-place
invariant-loop-place l = record {
  words : (i k : ℕ) → l.first ≤ i → i < l.place → k < 64 → has_flag (slice_index_or l.words i 0) k ≡ within l.parents (length l.parents) i (l.first + k);
  counted : (i : ℕ) → l.first ≤ i → i < l.place → slice_index_or l.numbers i 0 ≡ min 4294967295 (slice_index_or l.initial.numbers i 0 + flag_count (λ k. within l.parents (length l.parents) i (l.first + k)) l.counted);
  behind : (i : ℕ) → l.place ≤ i → slice_index_or l.numbers i 0 ≡ slice_index_or l.initial.numbers i 0;
  before : (i : ℕ) → i < l.first → slice_index_or l.numbers i 0 ≡ slice_index_or l.initial.numbers i 0;
}
