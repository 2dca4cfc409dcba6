-- The coins that a number makes.
use Rattle.std.specs.Prelude.{ℕ, ◌+◌, ◌*◌, ◌%◌, List, ◌++◌, map, replicate, sum_by}
use Rattle.std.specs.Int.{w64, to_le_bytes}
use Rattle.std.specs.List.{range_with_len}
use Rattle.rand_chacha.specs.ChaCha.{ChaCha, key_of}
use Rattle.random_draw.specs.Order.{word}
use Rattle.command_work.specs.Kinds.{kind_of}
use Rattle.command_work.specs.declared.coin.Coin.{Coin}

-- the seed of a number: its eight bytes, low byte first, and 24 zero bytes
unfoldable pub seed_of : ℕ → List ℕ
seed_of number = to_le_bytes w64 number ++ replicate 24 0

-- Coin number i, from 0, takes two words of ChaCha20, stream 0: the first makes its value in satoshi, the second its
-- kind.
unfoldable pub coin_at : ℕ → ℕ → Coin
coin_at number i = record {
  value = 10_000 + word (seed_of number) (2 * i) % 5_000_000;
  kind = kind_of (word (seed_of number) (2 * i + 1) % 3);
}

-- the coins of a number and a count
abbrev pub coins_of : ℕ → ℕ → List Coin
coins_of number count = map (coin_at number) (range_with_len 0 count)

-- what they are worth together, in satoshi
unfoldable pub total_of : ℕ → ℕ → ℕ
total_of number count = sum_by (λ (c : Coin). c.value) (coins_of number count)

-- the words of a number once so many are used
abbrev pub words_at : ℕ → ℕ → ChaCha
words_at number used = record { key = key_of (seed_of number); stream = 0; word_pos = used }
