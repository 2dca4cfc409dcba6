-- Sums over coins within their bounds.
use Rattle.std.specs.Prelude.{ℕ, ◌≡◌, ◌≤◌, ◌<◌, ◌^◌, ◌+◌, ◌++◌, List, [], ◌∷◌}
use Rattle.std.proofs.Common.{arith, refl}
use Rattle.std.proofs.lemmas.List.Elements.{All-weaker}
use Rattle.std.proofs.lemmas.List.Sums.{sum_by-append, sum_by-cons, sum_by-le}
use Rattle.coin_candidates.specs.Candidates.{AreCandidates, IsCandidate}
use Rattle.coin_candidates.specs.declared.candidate.Candidate.{Candidate}
use Rattle.fee_rates.specs.Fee.{input_fee_of}
use Rattle.output_groups.specs.Measures.{charge_of}
use Rattle.fund_steps.specs.Amounts.{AreWithin, charges_of, fees_of, prices_of, value_of, weight_of}

pub weights_within : (coins : List Candidate) → AreWithin coins → weight_of coins ≤ 40_000_000_000
weights_within coins h =
    let few = h.count in
    let sum = sum_by-le (λ (c : Candidate). c.weight) 400_000 coins (All-weaker IsCandidate (λ (c : Candidate). c.weight ≤ 400_000) (λ c f. f.most_weight) coins h.each) in
    omega arith

pub value_most : (coins : List Candidate) → AreCandidates coins → value_of coins ≤ 210_000_000_000_000_000_000
value_most coins h =
    let few = h.count in
    let sum = sum_by-le (λ (c : Candidate). c.value) 2_100_000_000_000_000 coins (All-weaker IsCandidate (λ (c : Candidate). c.value ≤ 2_100_000_000_000_000) (λ c f. f.value) coins h.each) in
    omega arith

pub value_within : (coins : List Candidate) → AreCandidates coins → value_of coins < 2 ^ 128
value_within coins h = omega (arith, value_most coins h)

pub worth_both : (presets candidates : List Candidate) → value_of (presets ++ candidates) ≡ value_of presets + value_of candidates
worth_both presets candidates = sum_by-append (λ (c : Candidate). c.value) presets candidates

pub prices_within : (coins : List Candidate) → AreWithin coins → prices_of coins ≤ 210_000_000_000_000_000_000
prices_within coins h =
    let few = h.count in
    let sum = sum_by-le (λ (c : Candidate). c.price) 2_100_000_000_000_000 coins (All-weaker IsCandidate (λ (c : Candidate). c.price ≤ 2_100_000_000_000_000) (λ c f. f.price) coins h.each) in
    omega arith

-- what coins take for themselves, by its parts
pub charges_are : (rate : ℕ) (coins : List Candidate) → charges_of rate coins ≡ fees_of rate coins + prices_of coins
charges_are rate [] = refl
charges_are rate (c ∷ coins) =
    omega (
      arith,
      charges_are rate coins,
      sum_by-cons (charge_of rate) c coins,
      sum_by-cons (λ (x : Candidate). input_fee_of rate x.weight) c coins,
      sum_by-cons (λ (x : Candidate). x.price) c coins,
    )
