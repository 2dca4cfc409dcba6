-- Values over whole numbers and over integers.
use Rattle.std.specs.Prelude.{◌≡◌, ℕ, ℤ, pos, ◌+◌, ◌-◌, ◌<◌, ◌↔◌, ◌+ℤ◌, ◌-ℤ◌, true, List, [], ◌∷◌, fold, All, int_lt}
use Rattle.std.proofs.Common.{refl, ap, ◌∙◌, arith}
use Rattle.std.proofs.lemmas.Int.{ints}
use Rattle.std.proofs.lemmas.List.Elements.{All-head, All-tail}
use Rattle.fee_rates.specs.Fee.{input_fee_of}
use Rattle.coin_candidates.specs.declared.candidate.Candidate.{Candidate}
use Rattle.output_groups.specs.Measures.{IsGroup, gain, is_useful, net_of, value_of}

gained : (value fee price : ℕ) → int_lt (pos 0) ((pos value -ℤ pos fee) -ℤ pos price) ≡ true → pos (value - (fee + price)) ≡ (pos value -ℤ pos fee) -ℤ pos price
gained value fee price h = grind (arith, ints)

sums : (rate a : ℕ) (g : List Candidate) → All (λ c. is_useful rate c ≡ true) g → pos (fold (λ s c. s + gain rate c) a g) ≡ fold (λ s (c : Candidate). s +ℤ net_of rate c) (pos a) g
sums rate a [] useful = refl
sums rate a (c ∷ cs) useful =
    let P : Candidate → Type 0 = λ x. is_useful rate x ≡ true in
    let here : pos (gain rate c) ≡ net_of rate c = gained c.value (input_fee_of rate c.weight) c.price (All-head P c cs useful) in
    let step : pos (a + gain rate c) ≡ pos a +ℤ net_of rate c = omega (arith, ints, here) in
    sums rate (a + gain rate c) cs (All-tail P c cs useful) ∙ ap (λ (z : ℤ). fold (λ s (x : Candidate). s +ℤ net_of rate x) z cs) step

pub value_is_effective : (rate : ℕ) (g : List Candidate) → IsGroup rate g → pos (value_of rate g) ≡ fold (λ s (c : Candidate). s +ℤ net_of rate c) (pos 0) g
value_is_effective rate g is = sums rate 0 g is.useful

brings : (value fee price : ℕ) → int_lt (pos 0) ((pos value -ℤ pos fee) -ℤ pos price) ≡ true → fee + price < value
brings value fee price h = grind (arith, ints)

brought : (value fee price : ℕ) → fee + price < value → int_lt (pos 0) ((pos value -ℤ pos fee) -ℤ pos price) ≡ true
brought value fee price h = grind (arith, ints)

-- a coin brings something where it takes less than it is worth
pub useful_where : (rate : ℕ) (c : Candidate) → (is_useful rate c ≡ true) ↔ (input_fee_of rate c.weight + c.price < c.value)
useful_where rate c = (brings c.value (input_fee_of rate c.weight) c.price, brought c.value (input_fee_of rate c.weight) c.price)
