use Rattle.std.proofs.Common.{◌≡◌, ◌||◌, ◌&&◌, ℕ, take}
use Rattle.std.specs.Prelude.{nat_le, slice_index_or}
use Rattle.std.specs.List.{list_any}
use Rattle.payment_states.specs.Words.{has_flag}
use Rattle.payment_states.proofs.words.joined.Given as goal

abbrev pub invariant-loop-place : goal.invariant-loop-place
invariant-loop-place l = (k : ℕ) → has_flag l.word k ≡ (has_flag l.own k || list_any (λ p. nat_le l.first p && has_flag (slice_index_or l.words p 0) k) (take l.place-index l.places))
