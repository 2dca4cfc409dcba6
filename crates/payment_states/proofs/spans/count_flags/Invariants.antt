use Rattle.std.proofs.Common.{◌≡◌, ◌+◌, ◌<◌, ◌≤◌, ℕ, false, min}
use Rattle.std.specs.Prelude.{slice_index_or}
use Rattle.payment_states.specs.Words.{flag_count, has_flag}
use Rattle.payment_states.proofs.spans.count_flags.Given as goal

abbrev pub invariant-loop-place : goal.invariant-loop-place
invariant-loop-place l = record {
  more : (j : ℕ) → l.low ≤ j → j < l.place → slice_index_or l.numbers j 0 ≡ min 4294967295 (slice_index_or l.initial.numbers j 0 + flag_count (has_flag (slice_index_or l.initial.words j 0)) l.counted);
  behind : (j : ℕ) → l.place ≤ j → slice_index_or l.numbers j 0 ≡ slice_index_or l.initial.numbers j 0;
  before : (j : ℕ) → j < l.low → slice_index_or l.numbers j 0 ≡ slice_index_or l.initial.numbers j 0;
  gone : (j k : ℕ) → l.low ≤ j → j < l.place → has_flag (slice_index_or l.words j 0) k ≡ false;
  kept : (j : ℕ) → l.place ≤ j → slice_index_or l.words j 0 ≡ slice_index_or l.initial.words j 0;
  front : (j : ℕ) → j < l.low → slice_index_or l.words j 0 ≡ slice_index_or l.initial.words j 0;
}
