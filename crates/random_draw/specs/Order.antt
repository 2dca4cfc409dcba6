-- The order in which a seed puts the places of a pool.
--
-- The guarantee: each place stands in an order once, and the order follows from the seed and the number of places alone.
-- Nothing is said of how likely an order is.
use Rattle.std.specs.Prelude.{ℕ, zero, suc, ◌-◌, ◌%◌, List, swap}
use Rattle.std.specs.List.{range_with_len}
use Rattle.rand_chacha.specs.ChaCha.{word_at, key_of}

-- word number i, from 0, that ChaCha20 gives for a seed of 32 bytes, stream 0
unfoldable pub word : List ℕ → ℕ → ℕ
word seed i = word_at 10 (key_of seed) 0 i

-- the entries from the last one down to number 1 are exchanged, each with the one whose number is what the next word
-- leaves when it is divided by how many entries there are up to it (Fisher and Yates); w is the number of the next word
unfoldable pub shuffled_from : List ℕ → ℕ → ℕ → List ℕ → List ℕ
shuffled_from seed w zero xs = xs
shuffled_from seed w (suc i) xs = shuffled_from seed (suc w) i (swap xs (suc i) (word seed w % suc (suc i)))

-- the places from 0 to n - 1, shuffled by the words of a seed
unfoldable pub order_of : List ℕ → ℕ → List ℕ
order_of seed n = shuffled_from seed 0 (n - 1) (range_with_len 0 n)
