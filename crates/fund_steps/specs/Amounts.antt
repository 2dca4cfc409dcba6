-- What coins come to together.
use Rattle.std.specs.Prelude.{ℕ, ◌≤◌, List, length, All, sum_by}
use Rattle.coin_candidates.specs.Candidates.{IsCandidate}
use Rattle.coin_candidates.specs.declared.candidate.Candidate.{Candidate}
use Rattle.fee_rates.specs.Fee.{input_fee_of}
use Rattle.output_groups.specs.Measures.{charge_of}

-- what they are worth, in satoshi
abbrev pub value_of : List Candidate → ℕ
value_of coins = sum_by (λ (c : Candidate). c.value) coins

-- what the inputs that spend them are declared to weigh, in weight units
abbrev pub weight_of : List Candidate → ℕ
weight_of coins = sum_by (λ (c : Candidate). c.weight) coins

-- what these inputs pay for themselves at a rate, in satoshi
abbrev pub fees_of : ℕ → List Candidate → ℕ
fees_of rate coins = sum_by (λ (c : Candidate). input_fee_of rate c.weight) coins

-- what coins take for themselves at a rate, in satoshi: the fees of their inputs, and their prices
abbrev pub charges_of : ℕ → List Candidate → ℕ
charges_of rate coins = sum_by (charge_of rate) coins

-- Their prices added up, in satoshi: an ancestor that several of them have counts for each.
abbrev pub prices_of : List Candidate → ℕ
prices_of coins = sum_by (λ (c : Candidate). c.price) coins

-- coins that a payment may choose from, at most 100,000 and of at most 21,000,000 bitcoin together
pub record AreWithin (coins : List Candidate) : Type 0 where
  pub each : All IsCandidate coins
  pub count : length coins ≤ 100_000
  pub value : value_of coins ≤ 2_100_000_000_000_000
