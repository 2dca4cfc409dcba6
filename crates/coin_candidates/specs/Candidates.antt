-- Coins that a payment may choose from.
use Rattle.std.specs.Prelude.{◌≢◌, ◌≤◌, List, length, All, AllPairs}
use Rattle.coin_candidates.specs.declared.candidate.Candidate.{Candidate}
use Rattle.fund_base.specs.declared.money.TheConstants.{MAX_MONEY}

-- a value and a price within 21,000,000 bitcoin, and a weight that an input can have
pub record IsCandidate (c : Candidate) : Type 0 where
  pub value : c.value ≤ MAX_MONEY
  pub price : c.price ≤ MAX_MONEY
  pub least_weight : 165 ≤ c.weight
  pub most_weight : c.weight ≤ 400_000

-- at most 100,000 such coins, each output once
pub record AreCandidates (cs : List Candidate) : Type 0 where
  pub each : All IsCandidate cs
  pub count : length cs ≤ 100_000
  pub distinct : AllPairs (λ (a b : Candidate). a.coin ≢ b.coin) cs
