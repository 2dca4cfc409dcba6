use Rattle.std.proofs.Common.{◌≡◌, ◌+◌, ◌<◌, ◌≤◌, ℕ, false}
use Rattle.std.specs.Prelude.{slice_index_or}
use Rattle.payment_states.specs.Words.{has_flag}
use Rattle.payment_states.proofs.MarkSteps.{AreMarks}
use Rattle.payment_states.proofs.spans.flag_kin.Given as goal

abbrev pub invariant-loop-low : goal.invariant-loop-low
invariant-loop-low l = record {
  marks : (k : ℕ) → k < 64 → l.first + k < l.end → AreMarks l.parents (l.first + k) l.place (λ j. has_flag (slice_index_or l.words j 0) k);
  others : (j k : ℕ) → k < 64 → l.end ≤ l.first + k → has_flag (slice_index_or l.words j 0) k ≡ false;
  below : (j k : ℕ) → j < l.low → k < 64 → has_flag (slice_index_or l.words j 0) k ≡ false;
  at_low : l.low ≤ l.place;
  at_end : l.place ≤ l.end;
  from : l.low ≤ l.first;
}

abbrev pub decreases-loop-low : goal.decreases-loop-low
decreases-loop-low l = l.place
