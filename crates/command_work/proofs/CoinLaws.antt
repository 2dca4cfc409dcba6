-- The coins that words draw.
use Rattle.std.proofs.Common.{◌≡◌, ℕ, zero, suc, ◌+◌, ◌*◌, ◌%◌, ◌^◌, ◌<◌, ◌≤◌, [], ◌∷◌, ◌++◌, refl, ap, ◌∙◌, arith}
use Rattle.std.proofs.lemmas.List.FromFn.{map-range_with_len_more, sum_by-map-range_with_len_more}
use Rattle.rand_chacha.specs.ChaCha.{ChaCha, next_word}
use Rattle.random_draw.specs.Order.{word}
use Rattle.random_draw.proofs.OrderLaws.{word_is, words_are}
use Rattle.command_work.specs.Coins.{coin_at, seed_of, total_of, words_at}
use Rattle.command_work.specs.Kinds.{kind_of}
use Rattle.command_work.specs.Load.{earlier_at, earlier_of}
use Rattle.command_work.specs.declared.coin.Coin.{Coin}
use Rattle.command_work.specs.declared.kind.Kind.{Kind}

-- what is made of two words
pub coin_is : (number i first second value : ℕ) (kind : Kind) → first ≡ word (seed_of number) (2 * i) → second ≡ word (seed_of number) (2 * i + 1) → value ≡ 10_000 + first % 5_000_000 → kind ≡ kind_of (second % 3)
    → ◌≡◌ {A = Coin} (record { value = value; kind = kind }) (coin_at number i)
unfolding coin_at
coin_is number i first second value kind f s v k = rw (v, k, f, s) refl

-- the first word
pub first_drawn : (number i x : ℕ) (old new : ChaCha) → old ≡ words_at number (2 * i) → (x, new) ≡ next_word 10 old → x ≡ word (seed_of number) (2 * i)
first_drawn number i x old new is step = word_is (seed_of number) (2 * i) x old new is step

-- and where the next one stands
pub first_left : (number i x : ℕ) (old new : ChaCha) → i < 2 ^ 32 → old ≡ words_at number (2 * i) → (x, new) ≡ next_word 10 old → new ≡ words_at number (2 * i + 1)
first_left number i x old new few is step = words_are (seed_of number) (2 * i) x old new is (omega arith) step

-- the second word
pub second_drawn : (number i x : ℕ) (old new : ChaCha) → old ≡ words_at number (2 * i + 1) → (x, new) ≡ next_word 10 old → x ≡ word (seed_of number) (2 * i + 1)
second_drawn number i x old new is step = word_is (seed_of number) (2 * i + 1) x old new is step

pub second_left : (number i x : ℕ) (old new : ChaCha) → i < 2 ^ 32 → old ≡ words_at number (2 * i + 1) → (x, new) ≡ next_word 10 old → new ≡ words_at number (2 * (i + 1))
second_left number i x old new few is step =
    let e : 2 * i + 1 + 1 ≡ 2 * (i + 1) = omega arith in
    words_are (seed_of number) (2 * i + 1) x old new is (omega arith) step ∙ ap (words_at number) e

-- one coin more
pub total_more : (number i : ℕ) → total_of number (i + 1) ≡ total_of number i + (coin_at number i).value
unfolding total_of
total_more number i = sum_by-map-range_with_len_more (λ (c : Coin). c.value) (coin_at number) 0 i i (omega arith)

pub earlier_more : (number i : ℕ) → earlier_of number (i + 1) ≡ earlier_of number i ++ earlier_at number i ∷ []
earlier_more number i = map-range_with_len_more (earlier_at number) 0 i i (omega arith)

-- what a coin is worth
pub value_least : (number i : ℕ) → 10_000 ≤ (coin_at number i).value
unfolding coin_at
value_least number i = omega arith

pub value_most : (number i : ℕ) → (coin_at number i).value ≤ 5_009_999
unfolding coin_at
value_most number i = omega arith

-- what all coins are worth
pub total_within : (number n : ℕ) → (10_000 * n ≤ total_of number n) × (total_of number n ≤ 5_009_999 * n)
unfolding total_of
total_within number zero = (omega arith, omega arith)
total_within number (suc n) =
    let e : n + 1 ≡ suc n = omega arith in
    let more = ap (total_of number) e in
    let rest = total_within number n in
    (omega (arith, more, rest.0, total_more number n, value_least number n), omega (arith, more, rest.1, total_more number n, value_most number n))
