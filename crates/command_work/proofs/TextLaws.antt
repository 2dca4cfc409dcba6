-- The texts of the transactions that make the coins.
use Rattle.std.proofs.Common.{◌≡◌, ℕ, ◌^◌, ◌<◌, List, take, drop, refl, sym, ap, ◌∙◌}
use Rattle.std.specs.Int.{w32, from_le_bytes, to_le_bytes}
use Rattle.std.proofs.lemmas.Nat.{from_le_bytes-to_le_bytes_4}
use Rattle.fund_base.specs.CompactSize.{compact}
use Rattle.tx_codec.specs.TransactionText.{bare_text, input_text}
use Rattle.command_work.specs.Coins.{coin_at}
use Rattle.command_work.specs.Load.{earlier_at, maker_of, prev_of}

-- the four bytes after the version and the number of inputs are the coin's number
number_at : (number i : ℕ) → take 4 (drop 5 (bare_text (earlier_at number i).tx)) ≡ to_le_bytes w32 i
unfolding bare_text input_text maker_of prev_of compact
number_at number i = refl

pub texts_apart : (number i j : ℕ) → i < 2 ^ 32 → j < 2 ^ 32 → bare_text (earlier_at number i).tx ≡ bare_text (earlier_at number j).tx → i ≡ j
texts_apart number i j few_i few_j e =
    let same : to_le_bytes w32 i ≡ to_le_bytes w32 j = sym (number_at number i) ∙ ap (λ (l : List ℕ). take 4 (drop 5 l)) e ∙ number_at number j in
    sym (from_le_bytes-to_le_bytes_4 i few_i) ∙ ap (from_le_bytes w32) same ∙ from_le_bytes-to_le_bytes_4 j few_j
