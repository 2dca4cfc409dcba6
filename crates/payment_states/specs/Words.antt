-- Flags of 64 places in one word.
use Rattle.std.specs.Prelude.{ℕ, ◌==◌, ◌&&◌, Bool, count_by}
use Rattle.std.specs.Int.{bit_at}
use Rattle.payment_states.specs.Graph.{below}

-- the flag at a place of the word
unfoldable pub has_flag : ℕ → ℕ → Bool
has_flag word k = bit_at word k == 1

-- at how many of the 64 places the test passes and the word has its flag
unfoldable pub flag_count : (ℕ → Bool) → ℕ → ℕ
flag_count test word = count_by (λ k. test k && has_flag word k) (below 64)
