use Rattle.std.proofs.Common.{◌≡◌, ◌+◌, ◌<◌, ◌&&◌, ℕ, false}
use Rattle.std.specs.Prelude.{nat_lt, slice_index_or}
use Rattle.payment_states.specs.Words.{has_flag}
use Rattle.payment_states.proofs.words.word_of.Given as goal

abbrev pub invariant-loop-place : goal.invariant-loop-place
invariant-loop-place l = (k : ℕ) → k < 64 → has_flag l.word k ≡ (nat_lt (l.first + k) l.place && slice_index_or l.flags (l.first + k) false)
